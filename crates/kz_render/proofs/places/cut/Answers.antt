use Rattle.std.proofs.Common.{◌==◌, length, drop, ap, sym, subst, arith, ◌∙◌}
use Rattle.std.proofs.lemmas.List.Splits.{length-slice_split}
use Rattle.kz_types.proofs.PathRules.{parts_after}
use Rattle.kz_render.specs.Places.{IsCut}
use Rattle.kz_render.proofs.places.cut.Goals as goal

pub returns : goal.returns
returns c = let e = rw c.in-Some.is at c.first_part.ensures in
    subst (λ ps. IsCut ps c.cut_rest.result) (sym (ap (drop 1) e)) c.cut_rest.ensures

pub unreachable-requires : goal.unreachable-requires
unreachable-requires c = let e = rw c.in-None.is at c.first_part.ensures in
    let k = parts_after c.args.path.now c.requires in
    omega (arith, ap length (sym k.1 ∙ ap (drop 1) e), length-slice_split (λ b. b == 47) (drop 1 c.args.path.now))
