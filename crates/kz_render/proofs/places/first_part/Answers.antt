use Rattle.std.proofs.Common.{◌∙◌, ◌==◌, ◌∷◌, sym, arith, Some, None}
use Rattle.std.specs.List.{slice_split}
use Rattle.std.proofs.lemmas.List.Splits.{slice_split_none, slice_split_first}
use Rattle.std.proofs.lemmas.List.Sums.{fails_before_first}
use Rattle.std.proofs.lemmas.Str.Pattern.{split_once_first}
use Rattle.kz_render.proofs.places.first_part.Goals as goal

pub returns-in-Some : goal.returns-in-Some
returns-in-Some c =
    let k = split_once_first 47 c.args.text.now (Some (c.in-Some.part, c.in-Some.rest)) c.in-Some.ensures.cases (omega arith) in
    slice_split_first (λ b. b == 47) c.args.text.now 0 k.0 ∙ (λ i. sym k.1 i ∷ slice_split (λ b. b == 47) (sym k.2 i))

pub returns-in-None : goal.returns-in-None
returns-in-None c =
    let k = split_once_first 47 c.args.text.now None c.in-None.ensures.cases (omega arith) in
    slice_split_none (λ b. b == 47) c.args.text.now (λ j d l. fails_before_first (λ b. b == 47) c.args.text.now j d (omega (arith, k)))
