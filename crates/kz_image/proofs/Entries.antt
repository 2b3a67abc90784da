-- Lists of entries with members of their own: what is put for other members of an entry. An entry is its key and its members,
-- and one without members isn't kept.
use Rattle.std.proofs.Common.{◌≡◌, ℕ, ◌<◌, List, [], ◌∷◌, length, sym, arith}
use Rattle.kz_types.specs.Order.{bytes_cmp}
use Rattle.kz_types.specs.Ordered.{put, without}
use Rattle.kz_laws_znodes.proofs.Entries.{Holds}

module _ {A B : Type 0} {key : A → List ℕ} {members : A → List B} {make : List ℕ → List B → A} {changed : List ℕ → List B → List A → List A} (holds : Holds key members make changed) where
  pub put_members : (k : List ℕ) (ms : List B) (xs : List A) → 0 < length ms → put bytes_cmp key (make k ms) xs ≡ changed k ms xs
  put_members k [] xs some = absurd (omega arith)
  put_members k (m ∷ ms) xs some = sym (holds.some k m ms xs)

  pub drop_members : (k : List ℕ) (ms : List B) (xs : List A) → length ms ≡ 0 → without bytes_cmp key k xs ≡ changed k ms xs
  drop_members k [] xs none = sym (holds.none k xs)
  drop_members k (m ∷ ms) xs none = absurd (omega arith)
