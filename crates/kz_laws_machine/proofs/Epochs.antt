-- The epochs of the records of a log are in range.
use Rattle.std.proofs.Common.{ℤ, pos, ◌+ℤ◌, ◌≤ℤ◌, Bool, true, false, not, ◌&&◌, cond, List, [], ◌∷◌, All, arith}
use Rattle.std.proofs.lemmas.Int.{ints}
use Rattle.std.proofs.lemmas.List.Elements.{All-nil, All-cons, All-append, All-tail}
use Rattle.kz_types.specs.declared.limits.TheConstants.{MAX_EPOCH}
use Rattle.kz_types.specs.declared.log.BatchRow.{BatchRow}
use Rattle.kz_types.specs.declared.log.Entry.{Entry}
use Rattle.kz_types.specs.declared.record.MetaRecord.{MetaRecord}
use Rattle.kz_spec_data.specs.Settlement.{is_begin}
use Rattle.kz_spec_data.specs.Log.{Log, EpochsNeverFall, entries_at_offsets, entries_of_batch, entries}
use Rattle.kz_spec_machine.specs.Sound.{LogShape}
use Rattle.kz_laws_machine.proofs.Numbers.{at_most_then}
use Rattle.kz_laws_machine.specs.Limits.{HasEpoch}
use Rattle.kz_laws_machine.proofs.Begun.{any_closes}
use Rattle.kz_laws_machine.proofs.Pending.{pending}

numbered_epochs : (offset epoch : ℤ) (items : List MetaRecord) → pos 0 ≤ℤ epoch → epoch ≤ℤ MAX_EPOCH → All HasEpoch (entries_at_offsets offset epoch items)
numbered_epochs offset epoch [] least most = All-nil HasEpoch
numbered_epochs offset epoch (r ∷ rs) least most =
    All-cons HasEpoch (record { offset = offset; epoch = epoch; item = r }) (entries_at_offsets (offset +ℤ pos 1) epoch rs) (record { least = least; most = most }) (numbered_epochs (offset +ℤ pos 1) epoch rs least most)

entries_epochs : (least most : ℤ) (bs : List BatchRow) → pos 0 ≤ℤ least → most ≤ℤ MAX_EPOCH → EpochsNeverFall least most bs → All HasEpoch (entries bs)
entries_epochs least most [] low high fall = All-nil HasEpoch
entries_epochs least most (b ∷ bs) low high fall =
    let own = at_most_then (pos 0) least b.epoch low fall.0 in
    All-append HasEpoch (entries_of_batch b) (entries bs) (numbered_epochs b.first b.epoch b.items own (at_most_then b.epoch most MAX_EPOCH fall.1 high)) (entries_epochs b.epoch most bs own high fall.2)

either_all : (P : Entry → Type 0) (b : Bool) (xs ys : List Entry) → All P xs → All P ys → All P (cond b xs ys)
either_all P true xs ys one other = one
either_all P false xs ys one other = other

pending_all : (P : Entry → Type 0) (es : List Entry) → All P es → All P (pending es)
pending_all P [] all = All-nil P
pending_all P (e ∷ es) all = either_all P (is_begin e.item && not (any_closes es)) es (pending es) (All-tail P e es all) (pending_all P es (All-tail P e es all))

pub pending_epochs : (l : Log) → LogShape l → All HasEpoch (pending (entries l.batches))
pending_epochs l shape = pending_all HasEpoch (entries l.batches) (entries_epochs (pos 1) l.epoch l.batches (omega (arith, ints)) shape.epoch shape.log.epochs)
