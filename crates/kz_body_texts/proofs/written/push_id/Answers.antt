use Rattle.std.proofs.Common.{string_bytes, arith}
use Rattle.kz_body_texts.proofs.TopicLemmas.{id_joined}
use Rattle.kz_body_texts.proofs.written.push_id.Goals as goal

pub returns : goal.returns
returns c =
    id_joined (string_bytes c.args.text.now) (string_bytes c.push_str.new.self) (string_bytes c.encode_string.new.output) (string_bytes c.push_str-2.new.self) c.args.bytes.now
    (λ i. let fits = c.fits-bytes i in omega arith) c.in_ok-push_str.ensures.bytes c.in_ok-encode_string.ensures.ok c.in_ok-push_str-2.ensures.bytes
