-- A view of a log's end, and what it becomes once a batch is appended whose records all count at once.
use Rattle.std.proofs.Common.{◌≡◌, inr, Bool, true, false, ◌||◌, ℤ, pos, ◌+ℤ◌, int_cmp, List, [], ◌∷◌, ◌++◌, None, All, refl, sym, ap, ◌∙◌, subst, append_assoc, append-nil, arith}
use Rattle.std.specs.Ordering.{int_eq}
use Rattle.std.proofs.lemmas.Int.{ints}
use Rattle.std.proofs.lemmas.List.Elements.{All-head, All-tail}
use Rattle.kz_types.specs.declared.log.Entry.{Entry}
use Rattle.kz_types.specs.declared.record.MetaRecord.{MetaRecord}
use Rattle.kz_types.specs.Ordered.{Rises}
use Rattle.kz_types.proofs.Order.{int_order}
use Rattle.kz_types.proofs.Append.{Rises_left}
use Rattle.kz_spec_data.specs.Image.{Image, image_with, all_applied}
use Rattle.kz_spec_data.specs.Settlement.{is_begin, closes, counting_records}
use Rattle.kz_spec_data.specs.Log.{Log, View, IsLog, IsAt, IsViewOf, end_of, entries_at_offsets, entries_of_batch, entries, image_at, all_entries_applied, new_batch, with_batch, full_log}
use Rattle.kz_settle.specs.Settling.{offset_of}
use Rattle.kz_settle.specs.Stands.{SettlerState, IsStateAfter}
use Rattle.kz_settle.proofs.Stepping.{stands_now}
use Rattle.kz_log.specs.Building.{Building, building_of}
use Rattle.kz_log.specs.ViewLaws.{IsNoMarker, AppendedIsView, view_after_append}
use Rattle.kz_log.proofs.Building.{applied-append, stands_as, built_is_at, stands_at}
use Rattle.kz_log.proofs.Cuts.{chain_of, Chain, Chain-append, chain_end, entries-append, entries_rise}
use Rattle.kz_log.proofs.Offsets.{not_lt}
use Rattle.kz_log.proofs.Views.{append_by, at_of}

neither : (a b : Bool) → (a || b) ≡ false → (a ≡ false) × (b ≡ false)
neither true b h = absurd (cc)
neither false b h = (refl, h)

numbered_applied : (offset epoch : ℤ) (items : List MetaRecord) (i : Image) → all_entries_applied (entries_at_offsets offset epoch items) i ≡ all_applied epoch items i
numbered_applied offset epoch [] i = refl
numbered_applied offset epoch (r ∷ rs) i = numbered_applied (offset +ℤ pos 1) epoch rs (image_with epoch r i)

-- a settler that knows of no open transaction hands out each record that is no marker, and stays as it is
numbered_stand : (offset epoch : ℤ) (items : List MetaRecord) (pushed given : List Entry) (s : SettlerState) → s.released ≡ [] → s.begun ≡ None → All IsNoMarker items
    → Rises int_cmp offset_of (pushed ++ entries_at_offsets offset epoch items) → IsStateAfter pushed given s
    → IsStateAfter (pushed ++ entries_at_offsets offset epoch items) (given ++ entries_at_offsets offset epoch items) s
numbered_stand offset epoch [] pushed given s popped none plain rises h = stands_as pushed (pushed ++ []) given (given ++ []) s (sym (append-nil pushed)) (sym (append-nil given)) h
numbered_stand offset epoch (r ∷ rs) pushed given s popped none plain rises h =
    let e : Entry = record { offset = offset; epoch = epoch; item = r } in
    let es = entries_at_offsets (offset +ℤ pos 1) epoch rs in
    let marks = neither (is_begin r) (closes r) (All-head IsNoMarker r rs plain) in
    let whole : (pushed ++ e ∷ []) ++ es ≡ pushed ++ e ∷ es = append_assoc pushed (e ∷ []) es in
    let rising : Rises int_cmp offset_of ((pushed ++ e ∷ []) ++ es) = subst (λ p. Rises int_cmp offset_of p) (sym whole) rises in
    let first = stands_now pushed given e s (Rises_left int_order offset_of (pushed ++ e ∷ []) es rising) h popped marks.0 marks.1 none in
    stands_as ((pushed ++ e ∷ []) ++ es) (pushed ++ e ∷ es) ((given ++ e ∷ []) ++ es) (given ++ e ∷ es) s whole (append_assoc given (e ∷ []) es)
    (numbered_stand (offset +ℤ pos 1) epoch rs (pushed ++ e ∷ []) (given ++ e ∷ []) s popped none (All-tail IsNoMarker r rs plain) rising first)

batch_taken : (l : Log) (v : View) (epoch now : ℤ) (items : List MetaRecord) → IsLog l → IsAt l v → v.position ≡ end_of l → v.begun ≡ None → All IsNoMarker items
    → IsAt (with_batch l epoch now items) (view_after_append (with_batch l epoch now items) epoch items v)
unfolding image_at
batch_taken l v epoch now items k at end none plain =
    let b = new_batch l epoch now items in
    let whole = with_batch l epoch now items in
    let es = entries_of_batch b in
    let given = counting_records (entries l.batches) v.position in
    let chain = chain_of l.base l.batches k.follow in
    let more : Chain l.base (l.batches ++ b ∷ []) = Chain-append l.base l.batches (b ∷ []) chain (refl, tt) in
    let joined : entries (l.batches ++ b ∷ []) ≡ entries l.batches ++ es = entries-append l.batches (b ∷ []) ∙ ap (λ x. entries l.batches ++ x) (append-nil es) in
    let rises = subst (λ x. Rises int_cmp offset_of x) joined (entries_rise l.base (l.batches ++ b ∷ []) more) in
    let s : SettlerState = (building_of v).settling in
    let stands = numbered_stand (end_of l +ℤ pos 1) epoch items (entries l.batches) given s refl none plain rises (stands_at l v chain at (sym end)) in
    let built : Building = record { position = end_of whole; epoch = epoch; image = all_applied epoch items v.image; settling = s } in
    built_is_at whole built (given ++ es) more refl refl (subst (λ x. IsStateAfter x (given ++ es) s) (sym joined) stands)
    (sym (numbered_applied (end_of l +ℤ pos 1) epoch items v.image) ∙ ap (all_entries_applied es) at.image ∙ sym (applied-append given es l.base_image))

at_end : (l : Log) (v : View) → IsLog l → IsViewOf l v → v.position ≡ end_of l → IsAt l v
at_end l v k is end =
    let high = chain_end l.base l.batches (chain_of l.base l.batches k.follow) in
    at_of l v is (not_lt v.position l.base (omega (arith, ints, high, end)))

pub appended_is_view : AppendedIsView
appended_is_view l new v epoch now items k is end none plain h =
    subst (λ m. IsViewOf m (view_after_append m epoch items v)) (append_by (int_eq epoch l.epoch) (full_log l items) (with_batch l epoch now items) new _ h)
    (inr (batch_taken l v epoch now items k (at_end l v k is end) end none plain))
