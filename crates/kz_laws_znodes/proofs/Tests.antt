-- Look-ups after a change, told by a test of the keys.
use Rattle.std.proofs.Common.{◌≡◌, ◌&&◌, Bool, true, false, cond, List, Option, Some, None, Ordering, option_map, refl, sym, ap, ◌∙◌, subst}
use Rattle.std.specs.Bool.{Decides}
use Rattle.std.proofs.lemmas.Bool.{false≢true}
use Rattle.kz_types.specs.Order.{TotalOrder}
use Rattle.kz_types.specs.Ordered.{find, put, without, Rises}
use Rattle.kz_types.proofs.Lookup.{find-put_same, find-put_other, find-without_same, find-without_other}

module _ {A K : Type 0} {cmp : K → K → Ordering} (o : TotalOrder cmp) (key : A → K) where
  pub find-put_by : (k : K) (x : A) (xs : List A) (b : Bool) → Decides b (key x ≡ k) → find cmp key k (put cmp key x xs) ≡ cond b (Some x) (find cmp key k xs)
  find-put_by k x xs true d = subst (λ q. find cmp key q (put cmp key x xs) ≡ Some x) (d.0 refl) (find-put_same o key x xs)
  find-put_by k x xs false d = find-put_other o key x xs k (λ e. false≢true (d.1 (sym e)))

  pub find-without_by : (k j : K) (xs : List A) (b : Bool) → Decides b (j ≡ k) → Rises cmp key xs → find cmp key k (without cmp key j xs) ≡ cond b None (find cmp key k xs)
  find-without_by k j xs true d rises = subst (λ q. find cmp key q (without cmp key j xs) ≡ None) (d.0 refl) (find-without_same o key j xs rises)
  find-without_by k j xs false d rises = find-without_other o key j xs k (λ e. false≢true (d.1 (sym e)))

-- a look-up told by a test, changed
pub map_by : {A B : Type 0} (f : A → B) (b : Bool) (x y : Option A) → option_map f (cond b x y) ≡ cond b (option_map f x) (option_map f y)
map_by f true x y = refl
map_by f false x y = refl

-- what is looked up in what a test gives
module _ {A V : Type 0} (look : Option A → V) where
  pub look_by : (b : Bool) (x y : Option A) → look (cond b x y) ≡ cond b (look x) (look y)
  look_by true x y = refl
  look_by false x y = refl

  -- where an item may have come in place of the old one
  pub replaced : (b c : Bool) (v : V) (old new : Option A) (a : A) → new ≡ cond b (Some a) old → (b ≡ true → look (Some a) ≡ cond c v (look old)) → look new ≡ cond (b && c) v (look old)
  replaced true c v old new a e h = ap look e ∙ h refl
  replaced false c v old new a e h = ap look e

  pub replaced_alike : (b : Bool) (old new : Option A) (a : A) → new ≡ cond b (Some a) old → (b ≡ true → look (Some a) ≡ look old) → look new ≡ look old
  replaced_alike true old new a e h = ap look e ∙ h refl
  replaced_alike false old new a e h = ap look e
