-- Lists of entries with members of their own: what is looked up in the members of a key after those of a key are changed.
use Rattle.std.proofs.Common.{◌≡◌, ℕ, ◌&&◌, Bool, true, false, cond, List, [], ◌∷◌, Option, Some, None, refl, sym, ap, ◌∙◌, subst}
use Rattle.std.specs.Bool.{Decides}
use Rattle.kz_types.specs.Order.{bytes_cmp}
use Rattle.kz_types.specs.Ordered.{find, Rises}
use Rattle.kz_types.proofs.Order.{bytes_order}
use Rattle.kz_laws_znodes.proofs.Entries.{Holds}
use Rattle.kz_laws_znodes.proofs.Tests.{find-put_by, find-without_by}

-- The members of an entry that is found, and none where none is.
pub record Finds {A B : Type 0} (make : List ℕ → List B → A) (found : Option A → List B) : Type 0 where
  pub none : found None ≡ []
  pub some : (k : List ℕ) (ms : List B) → found (Some (make k ms)) ≡ ms

module _ {A B : Type 0} {key : A → List ℕ} {members : A → List B} {make : List ℕ → List B → A} {changed : List ℕ → List B → List A → List A} {found : Option A → List B} (holds : Holds key members make changed) (finds : Finds make found) where
  gone : (b : Bool) (y : Option A) → found (cond b None y) ≡ cond b [] (found y)
  gone true y = finds.none
  gone false y = refl

  made : (b : Bool) (k : List ℕ) (ms : List B) (y : Option A) → found (cond b (Some (make k ms)) y) ≡ cond b ms (found y)
  made true k ms y = finds.some k ms
  made false k ms y = refl

  -- the members of a key
  pub members_changed : (k j : List ℕ) (ms : List B) (xs : List A) (b : Bool) → Decides b (j ≡ k) → Rises bytes_cmp key xs → found (find bytes_cmp key k (changed j ms xs)) ≡ cond b ms (found (find bytes_cmp key k xs))
  members_changed k j [] xs b d rises =
      ap (λ ys. found (find bytes_cmp key k ys)) (holds.none j xs) ∙ ap found (find-without_by bytes_order key k j xs b d rises) ∙ gone b (find bytes_cmp key k xs)
  members_changed k j (m ∷ ms) xs b d rises =
      let same : Decides b (key (make j (m ∷ ms)) ≡ k) = subst (λ q. Decides b (q ≡ k)) (sym (holds.key_made j (m ∷ ms))) d in
      ap (λ ys. found (find bytes_cmp key k ys)) (holds.some j m ms xs) ∙ ap found (find-put_by bytes_order key k (make j (m ∷ ms)) xs b same) ∙ made b j (m ∷ ms) (find bytes_cmp key k xs)

  -- what is looked up in them, where a change of the other key's members gives it this value by a test
  pub value_changed : {V : Type 0} (look : List B → V) (v : V) (k j : List ℕ) (ms : List B) (xs : List A) (b c : Bool) → Decides b (j ≡ k) → Rises bytes_cmp key xs → look ms ≡ cond c v (look (found (find bytes_cmp key j xs)))
      → look (found (find bytes_cmp key k (changed j ms xs))) ≡ cond (b && c) v (look (found (find bytes_cmp key k xs)))
  value_changed look v k j ms xs true c d rises e = ap look (members_changed k j ms xs true d rises) ∙ e ∙ ap (λ q. cond c v (look (found (find bytes_cmp key q xs)))) (d.0 refl)
  value_changed look v k j ms xs false c d rises e = ap look (members_changed k j ms xs false d rises)
