-- What a sync of a disk in memory leaves.
use Rattle.std.proofs.Common.{◌≡◌, ℕ, true, List, ◌∷◌, ◌++◌, [], reverse, sym, ap, subst, ◌∙◌}
use Rattle.std.proofs.lemmas.List.{reverse-append}
use Rattle.kz_disk.specs.declared.changes.Change.{Change}
use Rattle.kz_disk.specs.declared.changes.Change.TheVariants.{Synced}
use Rattle.kz_disk.specs.Changes.{are_within, MayLeave}
use Rattle.kz_disk.specs.Past.{contents_stay}

-- after a sync a stop leaves the contents, which it might have left before
pub left_by_sync : (start : List ℕ) (old new : List Change) (left : List ℕ) → are_within start (reverse old) ≡ true → new ≡ old ++ Synced ∷ [] → MayLeave start (reverse new) left → MayLeave start (reverse old) left
left_by_sync start old new left within is now =
    let newest : reverse new ≡ Synced ∷ reverse old = ap reverse is ∙ reverse-append old (Synced ∷ []) in
    subst (MayLeave start (reverse old)) (sym (subst (λ (h : List Change). MayLeave start h left) newest now)) (contents_stay start (reverse old) within)
