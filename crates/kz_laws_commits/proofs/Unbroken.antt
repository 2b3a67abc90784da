-- The last records of a log, as a batch of them is appended.
use Rattle.std.proofs.Common.{◌≡◌, ℕ, suc, ◌+◌, ℤ, pos, ◌+ℤ◌, ◌≤ℤ◌, int_le, Bool, true, List, [], ◌∷◌, ◌++◌, length, filter, cond, refl, sym, ap, ◌∙◌, arith, length-append}
use Rattle.std.specs.Prelude.{◌<ℤ◌}
use Rattle.std.proofs.lemmas.Int.{ints}
use Rattle.std.proofs.lemmas.List.Elements.{filter-append}
use Rattle.kz_types.specs.declared.log.Entry.{Entry}
use Rattle.kz_types.specs.declared.record.MetaRecord.{MetaRecord}
use Rattle.kz_spec_data.specs.Log.{Log, end_of, entries_at_offsets, entries, with_batch}
use Rattle.kz_spec_machine.specs.Driver.{begin_record}
use Rattle.kz_spec_machine.specs.Sound.{LogShape}
use Rattle.kz_spec_machine.specs.Promises.{entries_from}
use Rattle.kz_laws_machine.proofs.Numbers.{at_least_itself}
use Rattle.kz_laws_machine.proofs.LogBatches.{end_more}
use Rattle.kz_laws_machine.proofs.Migration.{entries_more, next_entries, up_to_end}
use Rattle.kz_laws_machine.proofs.Pending.{stands_from, none_stand}
use Rattle.kz_laws_commits.specs.Commits.{IsUnbroken}

-- ---- records with their offsets

at_most_is : (a b : ℤ) → a ≤ℤ b → int_le a b ≡ true
at_most_is a b low = grind (arith, ints)

further : (a b : ℤ) → a ≤ℤ b → a ≤ℤ (b +ℤ pos 1)
further a b low = omega (arith, ints, low)

next_above : (o : ℤ) → o <ℤ (o +ℤ pos 1)
next_above o = omega (arith, ints)

-- those from an offset on all stand at or after one before it
numbered_stand : (from offset epoch : ℤ) (items : List MetaRecord) → from ≤ℤ offset → filter (stands_from from) (entries_at_offsets offset epoch items) ≡ entries_at_offsets offset epoch items
numbered_stand from offset epoch [] low = refl
numbered_stand from offset epoch (r ∷ rs) low =
    let e : Entry = record { offset = offset; epoch = epoch; item = r } in
    let rest = entries_at_offsets (offset +ℤ pos 1) epoch rs in
    ap (λ (b : Bool). cond b (e ∷ filter (stands_from from) rest) (filter (stands_from from) rest)) (at_most_is from offset low)
    ∙ ap (λ (es : List Entry). e ∷ es) (numbered_stand from (offset +ℤ pos 1) epoch rs (further from offset low))

-- the next ones follow without a gap
numbered_append : (offset epoch next : ℤ) (xs ys : List MetaRecord) → next ≡ offset +ℤ pos (length xs) → entries_at_offsets offset epoch (xs ++ ys) ≡ entries_at_offsets offset epoch xs ++ entries_at_offsets next epoch ys
numbered_append offset epoch next [] ys is = ap (λ (o : ℤ). entries_at_offsets o epoch ys) (none offset next is)
  where
    none : (o n : ℤ) → n ≡ o +ℤ pos 0 → o ≡ n
    none o n is = omega (arith, ints, is)
numbered_append offset epoch next (x ∷ xs) ys is =
    let e : Entry = record { offset = offset; epoch = epoch; item = x } in
    ap (λ (es : List Entry). e ∷ es) (numbered_append (offset +ℤ pos 1) epoch next xs ys (one_less offset next (length xs) is))
  where
    one_less : (o n : ℤ) (k : ℕ) → n ≡ o +ℤ pos (suc k) → n ≡ (o +ℤ pos 1) +ℤ pos k
    one_less o n k is = omega (arith, ints, is)

-- ---- a batch more

entries_from_more : (l : Log) (from epoch now : ℤ) (items : List MetaRecord) → from ≤ℤ (end_of l +ℤ pos 1) → entries_from (with_batch l epoch now items) from ≡ entries_from l from ++ next_entries l epoch items
entries_from_more l from epoch now items low =
    let es = entries l.batches in
    let new = next_entries l epoch items in
    ap (filter (stands_from from)) (entries_more l epoch now items)
    ∙ filter-append (stands_from from) es new
    ∙ ap (λ (after : List Entry). entries_from l from ++ after) (numbered_stand from (end_of l +ℤ pos 1) epoch items low)

-- a Begin by itself is unbroken
pub begin_unbroken : (l : Log) (epoch now : ℤ) → LogShape l → IsUnbroken (with_batch l epoch now (begin_record ∷ [])) (end_of l +ℤ pos 1) (begin_record ∷ [])
begin_unbroken l epoch now shape =
    let items : List MetaRecord = begin_record ∷ [] in
    record {
      stand = entries_from_more l (end_of l +ℤ pos 1) epoch now items (at_least_itself (end_of l +ℤ pos 1))
          ∙ ap (λ (es : List Entry). es ++ next_entries l epoch items) (none_stand (end_of l +ℤ pos 1) (end_of l) (entries l.batches) (next_above (end_of l)) (up_to_end l shape));
      end = ap (λ (e : ℤ). e +ℤ pos 1) (end_more l epoch now items);
    }

-- and so are more records of its epoch
pub more_unbroken : (l : Log) (from epoch now : ℤ) (items records : List MetaRecord) → epoch ≡ l.epoch → from ≤ℤ end_of l → IsUnbroken l from records → IsUnbroken (with_batch l epoch now items) from (records ++ items)
more_unbroken l from epoch now items records same low u = record {
  stand = entries_from_more l from epoch now items (further from (end_of l) low)
      ∙ ap (λ (es : List Entry). es ++ next_entries l epoch items) u.stand
      ∙ ap (λ (e : ℤ). entries_at_offsets from e records ++ next_entries l epoch items) (sym same)
      ∙ sym (numbered_append from epoch (end_of l +ℤ pos 1) records items u.end);
  end = both (end_of l) (end_of (with_batch l epoch now items)) (length records) (length items) (length (records ++ items)) (end_more l epoch now items) u.end (length-append records items);
}
  where
    both : (old new : ℤ) (n m all : ℕ) → new ≡ old +ℤ pos m → old +ℤ pos 1 ≡ from +ℤ pos n → all ≡ n + m → new +ℤ pos 1 ≡ from +ℤ pos all
    both old new n m all more end is = omega (arith, ints, more, end, is)
