-- How what a stop leaves goes on over several calls of a disk.
use Rattle.std.proofs.Common.{inl, inr, ⊎_elim, ℕ, List, arith}
use Rattle.kz_disk.specs.Disks.{Elapses, LeavesOnly}

module _ {D : Type 0} (moment : D → ℕ) (left_since : D → ℕ → List ℕ → Type 0) where
  -- before the first call
  pub started : (old : D) (P : List ℕ → Type 0) → ((left : List ℕ) → left_since old (moment old) left → P left) → LeavesOnly moment left_since old old P
  started old P here = record { later = omega arith; each = here; before = λ t left le was. inl was }

  -- after one more
  pub goes_on : (old mid new : D) (P leaves : List ℕ → Type 0) → LeavesOnly moment left_since old mid P
      → Elapses (moment mid) (moment new) (left_since mid) (left_since new) leaves → ((left : List ℕ) → leaves left → P left) → LeavesOnly moment left_since old new P
  goes_on old mid new P leaves so_far time here = record {
    later = omega (arith, so_far.later, time.later);
    each = λ left since. ⊎_elim (so_far.each left) (here left) (time.nothing_else (moment old) left so_far.later since);
    before = λ t left le since. ⊎_elim (so_far.before t left le) (λ now. inr (here left now)) (time.nothing_else t left (omega (arith, le, so_far.later)) since);
  }

  -- two runs of calls, one after the other
  pub joined : (old mid new : D) (P Q R : List ℕ → Type 0) → LeavesOnly moment left_since old mid P → LeavesOnly moment left_since mid new Q
      → ((left : List ℕ) → P left → R left) → ((left : List ℕ) → Q left → R left) → LeavesOnly moment left_since old new R
  joined old mid new P Q R first second p q = record {
    later = omega (arith, first.later, second.later);
    each = λ left since. ⊎_elim (λ was. p left (first.each left was)) (q left) (second.before (moment old) left first.later since);
    before = λ t left le since. ⊎_elim (λ was. ⊎_elim (λ x. inl x) (λ x. inr (p left x)) (first.before t left le was)) (λ now. inr (q left now)) (second.before t left (omega (arith, le, first.later)) since);
  }

  -- what is left is also this
  pub weaker : (old new : D) (P Q : List ℕ → Type 0) → LeavesOnly moment left_since old new P → ((left : List ℕ) → P left → Q left) → LeavesOnly moment left_since old new Q
  weaker old new P Q run also = record {
    later = run.later;
    each = λ left since. also left (run.each left since);
    before = λ t left le since. ⊎_elim (λ was. inl was) (λ p. inr (also left p)) (run.before t left le since);
  }
