use Rattle.std.proofs.Common.{length, ◌/◌, ◌+◌}
use Rattle.kz_codec_write.proofs.Appends.{text_short}
use Rattle.kz_codec_write.proofs.write.put_one_text.Goals as goal

pub put_text-requires : goal.put_text-requires
put_text-requires c = text_short (length c.args.text.now / 1 + 1) c.args.text.now c.requires
