-- What a settler holds after entries were pushed.
use Rattle.std.specs.Prelude.{◌≡◌, Bool, ◌&&◌, ℤ, ◌≤ℤ◌, List, [], ◌∷◌, ◌++◌, Option, All, ⊤, if◌then◌else◌}
use Rattle.kz_types.specs.declared.log.Entry.{Entry}
use Rattle.kz_spec_data.specs.Settlement.{is_begin, is_end, closes, counting_records, open_begin, records_of_open}
use Rattle.kz_settle.specs.declared.settled.Settled.{Settled}
use Rattle.kz_settle.specs.declared.settled.Settled.TheVariants as settled

-- The offset of the open transaction's Begin, the records of that transaction, and the records that were released and are
-- still to be popped.
pub record SettlerState : Type 0 where
  pub begun : Option ℤ
  pub kept : List Entry
  pub released : List Entry

-- Every entry stands at or before an offset.
abbrev pub AllBy : ℤ → List Entry → Type 0
AllBy at es = All (λ (e : Entry). e.offset ≤ℤ at) es

-- After these entries were pushed, and these were handed out, a settler has this open transaction and these records of it,
-- and the records that count are those handed out and then those still to be popped.
pub record IsStateAfter (pushed given : List Entry) (s : SettlerState) : Type 0 where
  pub begun : s.begun ≡ open_begin pushed
  pub kept : s.kept ≡ records_of_open pushed
  pub counted : (at : ℤ) → AllBy at pushed → given ++ s.released ≡ counting_records pushed at

-- the entries that an answer hands out
abbrev pub entries_of_answer : Settled → List Entry
entries_of_answer (settled.Now e) = e ∷ []
entries_of_answer settled.Kept = []
entries_of_answer settled.Released = []
entries_of_answer settled.Dropped = []

-- The answer to an entry, where a transaction is open or not.
abbrev pub answer_to : Bool → Entry → Settled
answer_to inside e =
    if is_begin e.item then settled.Kept
    else (if closes e.item then (if inside && is_end e.item then settled.Released else settled.Dropped)
    else (if inside then settled.Kept else settled.Now e))

-- Where an answer isn't Released, nothing is to be popped.
abbrev pub LeavesNone : Settled → SettlerState → Type 0
LeavesNone settled.Released s = ⊤
LeavesNone (settled.Now e) s = s.released ≡ []
LeavesNone settled.Kept s = s.released ≡ []
LeavesNone settled.Dropped s = s.released ≡ []
