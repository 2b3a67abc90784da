-- The operations of a difference are its edits.
use Rattle.std.proofs.Common.{◌≡◌, ℕ, List, [], ◌∷◌, map, take, drop, refl, sym, ap, ◌∙◌}
use Rattle.std.proofs.lemmas.List.{take-map, drop-map}
use Rattle.std.proofs.lemmas.Slice.Eq.{bytes_eq-Decides}
use Rattle.kz_types.specs.declared.limits.TheConstants.{MAX_CHUNK}
use Rattle.kz_types.specs.declared.tree.Rendered.{Rendered}
use Rattle.kz_types.specs.Order.{bytes_cmp}
use Rattle.kz_types.specs.Ordered.{Rises}
use Rattle.kz_types.specs.Difference.{DecidesEqual, Edit, drop_key, make, alter, after_edit, all_edited, difference}
use Rattle.kz_types.proofs.Order.{bytes_order}
use Rattle.kz_types.proofs.Difference.{difference_leads, prefix_leaves_rest}
use Rattle.kz_spec_data.specs.Tree.{path_of_rendered}
use Rattle.kz_spec_data.specs.Difference.{same_body, op_of, chunk_length, diff, chunk, after_chunk}
use Rattle.kz_laws_znodes.specs.Operations.{after_operation, all_made}

decides_body : DecidesEqual path_of_rendered same_body
decides_body = record {
  itself = λ x. (bytes_eq-Decides x.body x.body).1 refl;
  equal = λ x y path is. let body : x.body ≡ y.body = (bytes_eq-Decides x.body y.body).0 is in same_parts x y path body;
}
  where
    same_parts : (x y : Rendered) → x.path ≡ y.path → x.body ≡ y.body → x ≡ y
    same_parts x y path body = ap (λ (p : List ℕ). record { path = p; body = x.body }) path ∙ ap (λ (b : List ℕ). record { path = y.path; body = b }) body

abbrev Edits : Type 0
Edits = List (Edit Rendered (List ℕ))

abbrev apply : Edits → List Rendered → List Rendered
apply = all_edited bytes_cmp path_of_rendered

abbrev between : List Rendered → List Rendered → Edits
between = difference bytes_cmp path_of_rendered same_body

edit_is_made : (e : Edit Rendered (List ℕ)) (znodes : List Rendered) → after_operation (op_of e) znodes ≡ after_edit bytes_cmp path_of_rendered e znodes
edit_is_made (drop_key path) znodes = refl
edit_is_made (make r) znodes = refl
edit_is_made (alter r) znodes = refl

edits_are_made : (es : Edits) (znodes : List Rendered) → all_made (map op_of es) znodes ≡ apply es znodes
edits_are_made [] znodes = refl
edits_are_made (e ∷ es) znodes = ap (all_made (map op_of es)) (edit_is_made e znodes) ∙ edits_are_made es (after_edit bytes_cmp path_of_rendered e znodes)

pub difference_is_made : (have want : List Rendered) → Rises bytes_cmp path_of_rendered have → Rises bytes_cmp path_of_rendered want → all_made (diff have want) have ≡ want
unfolding diff
difference_is_made have want h w = edits_are_made (between have want) have ∙ difference_leads bytes_order path_of_rendered same_body decides_body have want h w

pub chunk_leaves_rest : (have want : List Rendered) → Rises bytes_cmp path_of_rendered have → Rises bytes_cmp path_of_rendered want
    → diff (all_made (chunk (diff have want)) have) want ≡ after_chunk (diff have want)
unfolding diff
chunk_leaves_rest have want h w =
    ap (λ ops. map op_of (between (all_made ops have) want)) (take-map op_of (chunk_length MAX_CHUNK (map op_of (between have want))) (between have want))
    ∙ ap (λ znodes. map op_of (between znodes want)) (edits_are_made (take (chunk_length MAX_CHUNK (map op_of (between have want))) (between have want)) have)
    ∙ ap (map op_of) (prefix_leaves_rest bytes_order path_of_rendered same_body decides_body (chunk_length MAX_CHUNK (map op_of (between have want))) have want h w)
    ∙ sym (drop-map op_of (chunk_length MAX_CHUNK (map op_of (between have want))) (between have want))
