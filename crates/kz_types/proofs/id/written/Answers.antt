use Rattle.std.proofs.Common.{◌≡◌, ap, ◌∙◌, arith, rules}
use Rattle.kz_types.specs.Ids.{id_text, id_of}
use Rattle.kz_types.proofs.IdLemmas.{id_of_text}
use Rattle.kz_types.proofs.id.written.Goals as goal

pub returns-clause-reads_back : goal.returns-clause-reads_back
returns-clause-reads_back c =
    let text : c.encode_slice.new.output ≡ id_text c.args.bytes.now = search rules in
    ap id_of text ∙ id_of_text c.args.bytes.now (λ i. let f = c.fits-bytes i in omega arith) c.told-bytes
