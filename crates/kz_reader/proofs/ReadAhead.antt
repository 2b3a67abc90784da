-- What was read of znodes before their turn.
use Rattle.std.proofs.Common.{◌≡◌, ℕ, ◌<◌, List, length, get_or, cond, Option, Some, None, Result, Ok, Err, option_and_then, Ordering, Less, Equal, Greater, refl, sym, ap, ◌∙◌, subst}
use Rattle.std.proofs.lemmas.List.{get_or_default}
use Rattle.std.proofs.lemmas.Map.Lookups.{exact_unsigned}
use Rattle.std.specs.BTreeMap.{BTreeMap, get}
use Rattle.std.specs.Ordering.{nat_cmp, is_eq}
use Rattle.std.specs.Result.{result_ok}
use Rattle.kz_types.specs.declared.tree.Row.{Row}
use Rattle.kz_types.specs.Order.{bytes_cmp}
use Rattle.kz_types.specs.Ordered.{Rises}
use Rattle.kz_types.specs.Spot.{IsSpot}
use Rattle.kz_types.proofs.Order.{bytes_order}
use Rattle.kz_types.proofs.Lookup.{found_at}
use Rattle.kz_types.proofs.Spot.{find_by_spot, find_by_gap}
use Rattle.kz_spec_data.specs.Bodies.{read_body}
use Rattle.kz_spec_data.specs.Tree.{path_of_row, row_at}
use Rattle.kz_spec_data.specs.Translation.{body_of_row, row_of, records_of, entity_records, records_by_kind, row_records}
use Rattle.kz_reader.specs.declared.bodies.EntityRead.{EntityRead}
use Rattle.kz_reader.specs.Seen.{IsReadOf, IsReadOfIfAny, IsReadAt, AreReadAt, body_in}
use Rattle.kz_reader.proofs.BodyKinds.{with_a_key}

-- ---- what is kept

by_place : (rows : List Row) (p place : ℕ) (now was : Option EntityRead) (o : Ordering) → nat_cmp place p ≡ o → IsReadAt rows place now → IsReadAt rows p was → IsReadAt rows p (cond (is_eq o) now was)
by_place rows p place now was Less e is were = were
by_place rows p place now was Equal e is were = subst (λ q. IsReadAt rows q now) (exact_unsigned place p e) is
by_place rows p place now was Greater e is were = were

-- after what stands at one place was changed
pub one_changed : (rows : List Row) (old new : BTreeMap ℕ EntityRead) (place : ℕ) (now : Option EntityRead) → IsReadAt rows place now → AreReadAt rows old
    → ((p : ℕ) → get nat_cmp new p ≡ cond (is_eq (nat_cmp place p)) now (get nat_cmp old p)) → AreReadAt rows new
one_changed rows old new place now is were changed = λ p. subst (λ o. IsReadAt rows p o) (sym (changed p)) (by_place rows p place now (get nat_cmp old p) (nat_cmp place p) refl is (were p))

-- what was read of the znode at a place
pub read_there : (rows : List Row) (place : ℕ) (row : Row) (e : EntityRead) → place < length rows → row ≡ get_or rows place row → IsReadOf row e → IsReadAt rows place (Some e)
read_there rows place row e within is h = λ d. subst (λ r. IsReadOf r e) (is ∙ get_or_default rows place row d within) h

pub read_here : (rows : List Row) (place : ℕ) (row : Row) (e : EntityRead) → row ≡ get_or rows place row → IsReadAt rows place (Some e) → IsReadOf row e
read_here rows place row e is h = subst (λ r. IsReadOf r e) (sym is) (h row)

-- ---- what was read of a znode

pub body_read : (r : Row) (o : Option EntityRead) → IsReadOfIfAny r o → body_in o ≡ body_of_row r
body_read r None h = sym (ap (λ k. option_and_then (λ x. result_ok (read_body x r.body)) k) h)
body_read r (Some e) h = ap (λ b. result_ok b) h.read ∙ sym (ap (λ k. option_and_then (λ x. result_ok (read_body x r.body)) k) h.key)

pub records_read : (rows earlier : List Row) (r : Row) (e : EntityRead) → IsReadOf r e → records_of rows earlier e.key e.read ≡ row_records rows earlier r
records_read rows earlier r e h =
    ap (λ b. records_of rows earlier e.key b) h.read
    ∙ sym (ap (λ x. records_by_kind rows earlier x r) (with_a_key r.path e.key h.key) ∙ ap (λ k. entity_records rows earlier k r.body) h.key)

-- the znode of the entity is the znode that was read
pub own_body : (rows : List Row) (place : ℕ) (row : Row) (e : EntityRead) → Rises bytes_cmp path_of_row rows → place < length rows → row ≡ get_or rows place row → IsReadOf row e
    → option_and_then body_of_row (row_of e.key rows) ≡ result_ok e.read
own_body rows place row e rising within is h =
    ap (λ o. option_and_then body_of_row o) (ap (λ p. row_at p rows) (h.path ∙ ap path_of_row is) ∙ found_at bytes_order path_of_row rows place row rising within ∙ ap (λ r. Some r) (sym is))
    ∙ sym (body_read row (Some e) h)

-- ---- the znode at a spot

pub found_there : (rows : List Row) (path : List ℕ) (place : ℕ) (row : Row) (spot : Result ℕ ℕ) → Rises bytes_cmp path_of_row rows → spot ≡ Ok place → IsSpot bytes_cmp path_of_row path rows spot → row ≡ get_or rows place row → Some row ≡ row_at path rows
found_there rows path place row spot rising at h is =
    ap (λ r. Some r) is ∙ sym (find_by_spot bytes_order path_of_row path rows place row rising (subst (λ s. IsSpot bytes_cmp path_of_row path rows s) at h))

pub found_nowhere : (rows : List Row) (path : List ℕ) (place : ℕ) (spot : Result ℕ ℕ) → spot ≡ Err place → IsSpot bytes_cmp path_of_row path rows spot → None ≡ row_at path rows
found_nowhere rows path place spot at h = sym (find_by_gap bytes_order path_of_row path rows place (subst (λ s. IsSpot bytes_cmp path_of_row path rows s) at h))
