-- After the first edits from one list to another, each path has what it had or what it is to have.
use Rattle.std.proofs.Common.{◌≡◌, ◌⊎◌, inl, inr, ℕ, ℤ, List, [], ◌∷◌, take, Some, None, All, refl, sym, ◌∙◌, subst}
use Rattle.std.specs.Prelude.{Ok}
use Rattle.std.proofs.lemmas.List.Elements.{All-take, All-head, All-tail}
use Rattle.kz_types.specs.declared.tree.Rendered.{Rendered}
use Rattle.kz_types.specs.declared.machine.Recorded.{Recorded}
use Rattle.kz_types.specs.Order.{bytes_cmp}
use Rattle.kz_types.specs.Ordered.{put, without, Rises}
use Rattle.kz_types.specs.Difference.{Edit, drop_key, make, alter, after_edit, all_edited}
use Rattle.kz_types.specs.Edits.{IsDue}
use Rattle.kz_types.proofs.Order.{bytes_order}
use Rattle.kz_types.proofs.Lookup.{find-put_same, find-put_other, find-without_same, find-without_other}
use Rattle.kz_types.proofs.Difference.{Rises-edited}
use Rattle.kz_types.proofs.Edits.{each_is_due}
use Rattle.kz_spec_data.specs.Tree.{Tree, multi, area, path_of_rendered}
use Rattle.kz_spec_data.specs.Image.{Image}
use Rattle.kz_spec_data.specs.Rendering.{render}
use Rattle.kz_spec_data.specs.Difference.{same_body, diff}
use Rattle.kz_spec_machine.specs.Driver.{write_ops}
use Rattle.kz_spec_machine.specs.Sound.{TreeShape}
use Rattle.kz_laws_machine.proofs.Rows.{Same, same, other, compare}
use Rattle.kz_laws_machine.proofs.Render.{render_rises}
use Rattle.kz_laws_machine.proofs.Area.{area_rises}
use Rattle.kz_laws_machine.proofs.Multi.{chunk_size, edits_to, area_after_write}
use Rattle.kz_spec_machine.specs.Promises.{at_path}

-- each path has what it has in one of two lists
abbrev pub Between : List Rendered → List Rendered → List Rendered → Type 0
Between a b c = (path : List ℕ) → (at_path path c ≡ at_path path a) ⊎ (at_path path c ≡ at_path path b)

-- as before, where an edit is at another path
as_before : (a b c new : List Rendered) (path : List ℕ) → at_path path new ≡ at_path path c → (at_path path c ≡ at_path path a) ⊎ (at_path path c ≡ at_path path b) → (at_path path new ≡ at_path path a) ⊎ (at_path path new ≡ at_path path b)
as_before a b c new path is (inl one) = inl (is ∙ one)
as_before a b c new path is (inr two) = inr (is ∙ two)

drop_between : (a b c : List Rendered) (k path : List ℕ) → Rises bytes_cmp path_of_rendered c → at_path k b ≡ None → Between a b c → Same path k → (at_path path (without bytes_cmp path_of_rendered k c) ≡ at_path path a) ⊎ (at_path path (without bytes_cmp path_of_rendered k c) ≡ at_path path b)
drop_between a b c k path rise none between (same at) =
    inr (subst (λ (q : List ℕ). at_path q (without bytes_cmp path_of_rendered k c) ≡ at_path q b) (sym at) (find-without_same bytes_order path_of_rendered k c rise ∙ sym none))
drop_between a b c k path rise none between (other differ) = as_before a b c (without bytes_cmp path_of_rendered k c) path (find-without_other bytes_order path_of_rendered k c path differ) (between path)

put_between : (a b c : List Rendered) (x : Rendered) (path : List ℕ) → at_path x.path b ≡ Some x → Between a b c → Same path x.path → (at_path path (put bytes_cmp path_of_rendered x c) ≡ at_path path a) ⊎ (at_path path (put bytes_cmp path_of_rendered x c) ≡ at_path path b)
put_between a b c x path found between (same at) =
    inr (subst (λ (q : List ℕ). at_path q (put bytes_cmp path_of_rendered x c) ≡ at_path q b) (sym at) (find-put_same bytes_order path_of_rendered x c ∙ sym found))
put_between a b c x path found between (other differ) = as_before a b c (put bytes_cmp path_of_rendered x c) path (find-put_other bytes_order path_of_rendered x c path differ) (between path)

abbrev Due : List Rendered → List Rendered → Edit Rendered (List ℕ) → Type 0
Due a b e = IsDue bytes_cmp path_of_rendered same_body a b e

edit_between : (a b c : List Rendered) (e : Edit Rendered (List ℕ)) → Rises bytes_cmp path_of_rendered c → Due a b e → Between a b c → Between a b (after_edit bytes_cmp path_of_rendered e c)
edit_between a b c (drop_key k) rise due between path = drop_between a b c k path rise due.2 between (compare path k)
edit_between a b c (make x) rise due between path = put_between a b c x path due.1 between (compare path x.path)
edit_between a b c (alter x) rise due between path = put_between a b c x path due.2 between (compare path x.path)

all_between : (a b c : List Rendered) (es : List (Edit Rendered (List ℕ))) → Rises bytes_cmp path_of_rendered c → All (Due a b) es → Between a b c → Between a b (all_edited bytes_cmp path_of_rendered es c)
all_between a b c [] rise due between = between
all_between a b c (e ∷ es) rise due between =
    all_between a b (after_edit bytes_cmp path_of_rendered e c) es (Rises-edited bytes_order path_of_rendered e c rise) (All-tail (Due a b) e es due) (edit_between a b c e rise (All-head (Due a b) e es due) between)

-- after a write each path is as before or as it is rendered
pub written_between : (t new : Tree) (i : Image) (claim : ℤ) (target : Recorded) → TreeShape t → multi t (write_ops claim (diff (area t) (render i)) target) ≡ Ok new → Between (area t) (render i) (area new)
written_between t new i claim target shape is =
    let rise = area_rises t.rows shape.rise in
    let all = each_is_due bytes_order path_of_rendered same_body (area t) (render i) rise (render_rises i) in
    subst (Between (area t) (render i)) (sym (area_after_write t new i claim target shape is))
    (all_between (area t) (render i) (area t) (take (chunk_size t i) (edits_to t (render i))) rise (All-take (Due (area t) (render i)) (chunk_size t i) (edits_to t (render i)) all) (λ path. inl refl))
