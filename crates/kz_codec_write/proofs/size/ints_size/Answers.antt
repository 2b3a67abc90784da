use Rattle.std.proofs.Common.{◌≡◌, ◌+◌, length, ap, ◌∙◌, arith}
use Rattle.kz_spec_data.specs.Fields.{groups_of}
use Rattle.kz_codec_write.proofs.Appends.{ints_length}
use Rattle.kz_codec_write.proofs.size.ints_size.Goals as goal

pub returns-clause-size : goal.returns-clause-size
returns-clause-size c =
    let count : c.count_size.result ≡ length (groups_of 9 (length c.args.v.now + 1)) = c.count_size.ensures.size ∙ ap (λ xs. length (groups_of 9 (length xs + 1))) c.as_slice.ensures in
    let items : length c.as_slice-2.result.now ≡ length c.args.v.now = ap length c.as_slice-2.ensures in
    omega (arith, count, items, ints_length c.args.v.now)
