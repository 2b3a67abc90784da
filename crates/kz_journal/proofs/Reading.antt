-- Calls of a disk that only read, one after another; and bytes that are read after a gate.
use Rattle.std.proofs.Common.{◌≡◌, ℕ, List, Option, refl, sym, ◌∙◌}
use Rattle.kz_disk.specs.Disks.{IsWithin}
use Rattle.kz_disk.proofs.Moments.{joined, started}
use Rattle.kz_journal.specs.Reads.{OnlyReads}

module _ {D : Type 0} (told : D → Option (List ℕ)) (may_leave : D → List ℕ → Type 0) (moment : D → ℕ) (left_since : D → ℕ → List ℕ → Type 0) where
  pub read_twice : (old mid new : D) → OnlyReads told may_leave moment left_since old mid → OnlyReads told may_leave moment left_since mid new → OnlyReads told may_leave moment left_since old new
  read_twice old mid new first second = record {
    same = second.same ∙ first.same;
    stop = λ left now. first.stop left (second.stop left now);
    moments = joined moment left_since old mid new (may_leave old) (may_leave mid) (may_leave old) first.moments second.moments (λ left p. p) (λ left q. first.stop left q);
  }

  pub not_read : (old : D) → ((left : List ℕ) → left_since old (moment old) left → may_leave old left) → OnlyReads told may_leave moment left_since old old
  not_read old only_now = record { same = refl; stop = λ left now. now; moments = started moment left_since old (may_leave old) only_now }

-- a place within what is told before is within what is told after
pub same_within : (old new : Option (List ℕ)) (n : ℕ) → new ≡ old → IsWithin old n → IsWithin new n
same_within old new n same within file told = within file (sym same ∙ told)
