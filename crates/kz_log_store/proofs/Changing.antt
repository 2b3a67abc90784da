-- What a change of a log does to it and to the disk, and what a stop in it leaves.
use Rattle.std.specs.Prelude.{⊤}
use Rattle.std.proofs.Common.{◌≡◌, ℕ, ◌<◌, ◌≤◌, ℤ, pos, ◌+ℤ◌, ◌≤ℤ◌, ◌<ℤ◌, int_lt, true, cond, List, length, Option, Some, None, option_map, Result, Ok, Err, refl, sym, ap, ◌∙◌, subst, arith}
use Rattle.std.specs.Ordering.{int_eq}
use Rattle.std.proofs.lemmas.Int.{ints}
use Rattle.std.proofs.lemmas.Bool.Decides.{Decides-int_eq}
use Rattle.kz_types.specs.declared.limits.TheConstants.{MAX_EPOCH, MAX_FILE_BYTES}
use Rattle.kz_types.specs.declared.limits.Limit.TheVariants as limits
use Rattle.kz_types.specs.Limits.{number_of_limit}
use Rattle.kz_types.specs.declared.log.BatchRow.{BatchRow}
use Rattle.kz_types.specs.declared.record.MetaRecord.{MetaRecord}
use Rattle.kz_types.specs.declared.fault.LogFault.{LogFault}
use Rattle.kz_types.specs.declared.fault.LogFault.TheVariants as fault
use Rattle.kz_spec_data.specs.Log.{Log, append, elect, full_log, log_unless_limit, new_batch, with_batch, with_next_epoch, with_row}
use Rattle.kz_spec_data.specs.Requests.{Disk, StoreFile, Fits, with_frame, file_with, StoreAnswer, Done, Refused, NoMemory, Failed, Down, Full, ChangesDisk, IsTaken, Either, Between}
use Rattle.kz_journal.proofs.Stops.{between_from_either}
use Rattle.kz_log.specs.Rows.{GoesOn}
use Rattle.kz_log.proofs.Pushing.{new_goes_on}
use Rattle.kz_spec_data.specs.LogFile.{after_payload, batch_payload}
use Rattle.kz_log_frames.specs.Payloads.{IsPayloadOf}

-- ---- what nothing refuses

eq_true : (x y : ℤ) → x ≡ y → int_eq x y ≡ true
eq_true x y h = (Decides-int_eq x y).1 h

pub append_made : (l : Log) (epoch now : ℤ) (items : List MetaRecord) → epoch ≡ l.epoch → full_log l items ≡ None → append l epoch now items ≡ Ok (with_batch l epoch now items)
append_made l epoch now items same free =
    ap (λ b. cond b (log_unless_limit (full_log l items) (with_batch l epoch now items)) (Err (fault.Stale l.epoch))) (eq_true epoch l.epoch same)
    ∙ ap (λ f. log_unless_limit f (with_batch l epoch now items)) free

lt_true : (x y : ℤ) → x <ℤ y → int_lt x y ≡ true
lt_true x y h = grind (arith, ints)

pub elect_made : (l : Log) (now : ℤ) (items : List MetaRecord) → l.epoch <ℤ MAX_EPOCH → full_log l items ≡ None → elect l now items ≡ Ok (with_batch l (l.epoch +ℤ pos 1) now items)
elect_made l now items below free =
    ap (λ b. cond b (log_unless_limit (full_log l items) (with_batch (with_next_epoch l) (l.epoch +ℤ pos 1) now items)) (Err (fault.Limit (number_of_limit limits.Epoch)))) (lt_true l.epoch MAX_EPOCH below)
    ∙ ap (λ f. log_unless_limit f (with_batch (with_next_epoch l) (l.epoch +ℤ pos 1) now items)) free

-- a request that nothing refuses, whose frame has as many bytes as its payload
pub taken_by : (taken : Type 0) (n : ℕ) (a : StoreAnswer) (old new : Disk) → taken → ChangesDisk ⊤ n a old new → ChangesDisk taken n a old new
taken_by taken n Done old new k h = h
taken_by taken n Refused old new k h = h
taken_by taken n NoMemory old new k h = h
taken_by taken n Failed old new k h = (h.0, k, h.2, h.3, h.4, h.5)
taken_by taken n Down old new k h = h
taken_by taken n (Full length) old new k h = (h.0, k, h.2, h.3)

-- what was made is taken
pub taken_if_made : {A E : Type 0} (r : Result A E) (x : A) → r ≡ Ok x → IsTaken r
taken_if_made r x h = subst (λ m. IsTaken m) (sym h) tt

pub resized : (taken : Type 0) (m n : ℕ) (a : StoreAnswer) (old new : Disk) → m ≡ n → ChangesDisk taken m a old new → ChangesDisk taken n a old new
resized taken m n a old new same h = subst (λ k. ChangesDisk taken k a old new) same h

-- ---- the batch of a request, and the log with it

-- numbers of a fixed size are themselves
pub row_is : (l : Log) (row : BatchRow) (items : List MetaRecord) (epoch now e t : ℤ) → e ≡ epoch → t ≡ now → row ≡ new_batch l e t items → row ≡ new_batch l epoch now items
row_is l row items epoch now e t epoch_is now_is is = is ∙ ap (λ x. new_batch l x t items) epoch_is ∙ ap (λ x. new_batch l epoch x items) now_is

pub row_goes_on : (l m : Log) (row : BatchRow) (epoch now : ℤ) (items : List MetaRecord) → m ≡ l → row ≡ new_batch l epoch now items → 0 < length items → full_log l items ≡ None → pos 1 ≤ℤ epoch → l.epoch ≤ℤ epoch → GoesOn m row
row_goes_on l m row epoch now items same is some free elected climbs =
    subst (λ k. GoesOn k row) (sym same) (subst (GoesOn l) (sym is) (new_goes_on l epoch now items some free elected climbs))

pub row_added : (l m new : Log) (row : BatchRow) (epoch now : ℤ) (items : List MetaRecord) → m ≡ l → row ≡ new_batch l epoch now items → new ≡ with_row m row → new ≡ with_batch l epoch now items
row_added l m new row epoch now items same is made = made ∙ ap (λ k. with_row k row) same ∙ ap (with_row l) is

-- what the payload of the new batch makes of the log, where its file keeps the limit
pub row_makes : (l : Log) (row : BatchRow) (payload written : List ℕ) (epoch now : ℤ) (items : List MetaRecord) → row ≡ new_batch l epoch now items → IsPayloadOf row payload → written ≡ payload → length written ≤ MAX_FILE_BYTES
    → 0 < length items → full_log l items ≡ None → pos 1 ≤ℤ epoch → l.epoch ≤ℤ epoch → after_payload l written ≡ Ok (with_batch l epoch now items)
row_makes l row payload written epoch now items is spelled same few some free elected climbs =
    let here : length payload ≤ MAX_FILE_BYTES = subst (λ bs. length bs ≤ MAX_FILE_BYTES) same few in
    ap (after_payload l) same ∙ spelled.read here l (row_goes_on l l row epoch now items refl is some free elected climbs) ∙ ap (λ r. Ok (with_row l r)) is

pub row_size : (l : Log) (row : BatchRow) (payload written : List ℕ) (epoch now : ℤ) (items : List MetaRecord) → row ≡ new_batch l epoch now items → IsPayloadOf row payload → written ≡ payload
    → length written ≡ length (batch_payload (new_batch l epoch now items))
row_size l row payload written epoch now items is spelled same = ap length same ∙ spelled.size ∙ ap (λ r. length (batch_payload r)) is

-- a file with a frame of so many bytes keeps the limit only where they are few
pub frame_fits : (n : ℕ) (d : Disk) (f : StoreFile) → d.file ≡ Some f → Fits (file_with n d) → n ≤ MAX_FILE_BYTES
frame_fits n d f is fits =
    let h : Fits (Some (with_frame n f)) = subst (λ m. Fits (option_map (with_frame n) m)) is fits in
    omega (arith, h)

-- ---- a request that nothing refuses, by numbers of a fixed size

same_batch : (l : Log) (items : List MetaRecord) (epoch now e t : ℤ) → e ≡ epoch → t ≡ now → new_batch l e t items ≡ new_batch l epoch now items
same_batch l items epoch now e t epoch_is now_is = ap (λ x. new_batch l x t items) epoch_is ∙ ap (λ x. new_batch l epoch x items) now_is

same_log : (l : Log) (items : List MetaRecord) (epoch now e t : ℤ) → e ≡ epoch → t ≡ now → with_batch l e t items ≡ with_batch l epoch now items
same_log l items epoch now e t epoch_is now_is = ap (λ x. with_batch l x t items) epoch_is ∙ ap (λ x. with_batch l epoch x items) now_is

pub disk_changed : (l new : Log) (made : Result Log LogFault) (items : List MetaRecord) (epoch now e t : ℤ) (a : StoreAnswer) (old later : Disk) → made ≡ Ok new → e ≡ epoch → t ≡ now
    → ChangesDisk ⊤ (length (batch_payload (new_batch l e t items))) a old later → ChangesDisk (IsTaken made) (length (batch_payload (new_batch l epoch now items))) a old later
disk_changed l new made items epoch now e t a old later is epoch_is now_is h =
    resized (IsTaken made) (length (batch_payload (new_batch l e t items))) (length (batch_payload (new_batch l epoch now items))) a old later (ap (λ b. length (batch_payload b)) (same_batch l items epoch now e t epoch_is now_is))
    (taken_by (IsTaken made) (length (batch_payload (new_batch l e t items))) a old later (taken_if_made made new is) h)

pub stop_between : (l : Log) (made : Result Log LogFault) (items : List MetaRecord) (epoch now e t : ℤ) (left : Option Log → Type 0) → made ≡ Ok (with_batch l epoch now items) → e ≡ epoch → t ≡ now → Either l (with_batch l e t items) left → Between l made left
stop_between l made items epoch now e t left is epoch_is now_is h =
    between_from_either l (with_batch l epoch now items) made left is (subst (λ m. Either l m left) (same_log l items epoch now e t epoch_is now_is) h)

-- a stop in the request of a batch, by the log and the batch that its parts made
pub stop_of_row : (l m : Log) (row : BatchRow) (items : List MetaRecord) (epoch now e t : ℤ) (left : Option Log → Type 0) → m ≡ l → e ≡ epoch → t ≡ now → row ≡ new_batch l e t items → Either m (with_row m row) left → Either l (with_batch l epoch now items) left
stop_of_row l m row items epoch now e t left same epoch_is now_is is h =
    subst (λ n. Either l n left) (row_added l m (with_row m row) row epoch now items same (row_is l row items epoch now e t epoch_is now_is is) refl)
    (subst (λ k. Either k (with_row m row) left) same h)
