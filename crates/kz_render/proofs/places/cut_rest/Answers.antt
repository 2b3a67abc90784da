use Rattle.std.proofs.Common.{◌==◌, length, ap, arith}
use Rattle.std.proofs.lemmas.List.Splits.{length-slice_split}
use Rattle.kz_render.proofs.places.cut_rest.Goals as goal

pub returns-in-Some-rest-4 : goal.returns-in-Some-rest-4
returns-in-Some-rest-4 c =
    let e1 = rw c.in-Some.is at c.first_part.ensures in
    let e2 = rw c.in-Some-rest.is at c.first_part-2.ensures in
    let e3 = rw c.in-Some-rest-2.is at c.first_part-3.ensures in
    let e4 = rw c.in-Some-rest-3.is at c.first_part-4.ensures in
    let e5 = rw c.in-Some-rest-4.is at c.first_part-5.ensures in
    omega (arith, ap length e1, ap length e2, ap length e3, ap length e4, ap length e5, length-slice_split (λ b. b == 47) c.in-Some-rest-4.field-0.now)
