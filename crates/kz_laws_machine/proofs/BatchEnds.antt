-- The batch ends of a log with a batch more, and what is open there.
use Rattle.std.proofs.Common.{◌≡◌, ◌⊎◌, inl, inr, ℤ, pos, ◌+ℤ◌, List, [], ◌∷◌, ◌++◌, sym, ap, ◌∙◌, arith}
use Rattle.std.proofs.lemmas.Int.{ints}
use Rattle.std.proofs.lemmas.List.{map-append}
use Rattle.kz_types.specs.declared.record.MetaRecord.{MetaRecord}
use Rattle.kz_spec_data.specs.Settlement.{is_open}
use Rattle.kz_spec_data.specs.Log.{Log, last_of, end_of, batch_ends, entries, new_batch, with_batch}
use Rattle.kz_spec_machine.specs.Sound.{LogShape, IsBatchEnd}
use Rattle.kz_laws_machine.proofs.LogBatches.{numbered_after, last_more}
use Rattle.kz_laws_machine.proofs.Ends.{batch_end_within}
use Rattle.kz_laws_machine.proofs.Migration.{entries_more, next_entries}
use Rattle.kz_laws_machine.proofs.Begun.{open_kept}

-- a list with this number in it
record Holds (xs : List ℤ) (k : ℤ) : Type 0 where
  before : List ℤ
  after : List ℤ
  among : xs ≡ before ++ k ∷ after

longer_holds : (x k : ℤ) (xs : List ℤ) → Holds xs k → Holds (x ∷ xs) k
longer_holds x k xs h = record { before = x ∷ h.before; after = h.after; among = ap (λ (l : List ℤ). x ∷ l) h.among }

either_longer : (x k z : ℤ) (xs : List ℤ) → Holds xs k ⊎ (k ≡ z) → Holds (x ∷ xs) k ⊎ (k ≡ z)
either_longer x k z xs (inl h) = inl (longer_holds x k xs h)
either_longer x k z xs (inr last) = inr last

in_or_last : (xs : List ℤ) (z k : ℤ) (before after : List ℤ) → xs ++ z ∷ [] ≡ before ++ k ∷ after → Holds xs k ⊎ (k ≡ z)
in_or_last [] z k [] after is = inr (cc)
in_or_last [] z k (b ∷ []) after is = absurd (cc)
in_or_last [] z k (b ∷ c ∷ before) after is = absurd (cc)
in_or_last (x ∷ xs) z k [] after is = let same : x ≡ k = cc in inl (record { before = []; after = xs; among = ap (λ (y : ℤ). y ∷ xs) same })
in_or_last (x ∷ xs) z k (b ∷ before) after is = let rest : xs ++ z ∷ [] ≡ before ++ k ∷ after = cc in either_longer x k z xs (in_or_last xs z k before after rest)

ends_more : (l : Log) (epoch now : ℤ) (items : List MetaRecord) → batch_ends l ++ end_of (with_batch l epoch now items) ∷ [] ≡ batch_ends (with_batch l epoch now items)
ends_more l epoch now items =
    let b = new_batch l epoch now items in
    ap (λ (e : ℤ). batch_ends l ++ e ∷ []) (last_more l.base l.batches b) ∙ ap (λ (ends : List ℤ). l.base ∷ ends) (sym (map-append last_of l.batches (b ∷ [])))

-- a batch end was one, or is the new end
pub old_or_end : (l : Log) (epoch now : ℤ) (items : List MetaRecord) (k : ℤ) → IsBatchEnd (with_batch l epoch now items) k → IsBatchEnd l k ⊎ (k ≡ end_of (with_batch l epoch now items))
old_or_end l epoch now items k e = by (in_or_last (batch_ends l) (end_of (with_batch l epoch now items)) k e.before e.after (ends_more l epoch now items ∙ e.among))
  where
    by : Holds (batch_ends l) k ⊎ (k ≡ end_of (with_batch l epoch now items)) → IsBatchEnd l k ⊎ (k ≡ end_of (with_batch l epoch now items))
    by (inl h) = inl (record { before = h.before; after = h.after; among = h.among })
    by (inr last) = inr last

-- what is open at an old batch end stays so
pub open_at_old : (l : Log) (epoch now : ℤ) (items : List MetaRecord) (k : ℤ) → LogShape l → IsBatchEnd l k → is_open (entries (with_batch l epoch now items).batches) k ≡ is_open (entries l.batches) k
open_at_old l epoch now items k shape e =
    ap (λ es. is_open es k) (entries_more l epoch now items)
    ∙ open_kept k (entries l.batches) (next_entries l epoch items) (numbered_after k (end_of l +ℤ pos 1) epoch items (let low = batch_end_within l k shape e in omega (arith, ints, low)))
