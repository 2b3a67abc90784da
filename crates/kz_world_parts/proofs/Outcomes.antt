-- What events make of a world that change the metadata, the drivers or nothing.
use Rattle.std.proofs.Common.{◌≡◌, ℕ, Bool, true, false, cond, ℤ, List, [], ◌∷◌, Contains, length, not, Option, Some, None, option_map, Result, Ok, Err, refl, sym, ap, ◌∙◌, subst, arith}
use Rattle.std.specs.Prelude.{int_lt, nat_le, IfOk}
use Rattle.kz_types.specs.declared.limits.TheConstants.{MAX_CHANGE_RECORDS, MAX_EPOCH}
use Rattle.kz_types.specs.declared.limits.Limit.TheVariants as limits
use Rattle.kz_types.specs.Limits.{number_of_limit}
use Rattle.kz_types.specs.declared.fault.LogFault.{LogFault}
use Rattle.kz_types.specs.declared.fault.LogFault.TheVariants as fault
use Rattle.kz_types.specs.declared.machine.Answer.{Answer}
use Rattle.kz_types.specs.declared.machine.Answer.TheVariants as answer
use Rattle.kz_types.specs.declared.machine.Event.{Event}
use Rattle.kz_types.specs.declared.machine.Event.TheVariants as event
use Rattle.kz_types.specs.declared.record.MetaRecord.{MetaRecord}
use Rattle.kz_types.specs.declared.tree.Op.{Op}
use Rattle.kz_spec_data.specs.Image.{all_applied, first_bad}
use Rattle.kz_spec_data.specs.Tree.{Tree, begin_session, end_session, multi}
use Rattle.kz_spec_data.specs.Log.{Log, append, elect, end_of, full_log, log_unless_limit, with_batch, image_of, begun_of, is_migrated_log}
use Rattle.kz_spec_data.specs.Rendering.{excess}
use Rattle.kz_spec_machine.specs.Driver.{Driver}
use Rattle.kz_spec_machine.specs.Machine.{World, next, is_running, start_refusal, outcome_unless, first_of, unless, over, full, running_refusal, leader_refusal, change_refusal, over_excess, election_refusal, election_records, elected_log, elected_world, election_answer, next_epoch, changed_log, changed_world, register_refusal, registration, bad_record, Pair, pair_of, pairs_unless, tree_pairs, client_refusal, event_pairs, driver_of, is_finalised_log, dual_write_refusal, rest_refusal, finalise_refusal, final_records}
use Rattle.kz_spec_machine.specs.Failures.{is_failure}
use Rattle.kz_log.specs.Requests.{IsRefusal}
use Rattle.kz_world_parts.specs.EventDisks.{UnlessRefused}
use Rattle.kz_world_parts.specs.Faults.{after_log_fault}
use Rattle.kz_world_parts.specs.Refusals.{records_refusal, end_refusal}
use Rattle.kz_world_parts.specs.EventStops.{append_pairs}
use Rattle.kz_world_parts.specs.Worlds.{elected_drivers, world_after_append, IsDone, IsOutcome}
use Rattle.kz_world_parts.proofs.Told.{told_answer, log_refuses}
use Rattle.kz_world_parts.proofs.Listings.{itself}

-- ---- choices

pub first_none : (a b : Option Answer) → first_of a b ≡ None → (a ≡ None) × (b ≡ None)
first_none None b h = (refl, h)
first_none (Some x) b h = absurd (cc)

by_refusal : (w : World) (refusal : Option Answer) (r : Answer) (new : World) (a : Answer) → refusal ≡ Some r → outcome_unless w refusal new a ≡ (w, r)
by_refusal w refusal r new a h = ap (λ x. outcome_unless w x new a) h

-- what holds where there is no refusal
pub unless_none : (o : Option Answer) (asked refused : Type 0) → o ≡ None → asked → UnlessRefused o asked refused
unless_none None asked refused is h = h
unless_none (Some a) asked refused is h = absurd (cc)

-- and where there is one
pub unless_some : (o : Option Answer) (a : Answer) (asked refused : Type 0) → o ≡ Some a → refused → UnlessRefused o asked refused
unless_some None a asked refused is h = absurd (cc)
unless_some (Some r) a asked refused is h = h

-- what an answer is told of is another way to say the same
pub told_by : {E : Type 0} (r : Result Answer E) (x y : World × Answer) (new : World) → x ≡ y → IfOk r (λ a. (y ≡ (new, a)) × (is_failure a ≡ false)) → IfOk r (λ a. (x ≡ (new, a)) × (is_failure a ≡ false))
told_by (Ok a) x y new h k = (h ∙ k.0, k.1)
told_by (Err e) x y new h k = tt

pub true_or_false : {A : Type 0} (b : Bool) → b ≡ true → b ≡ false → A
true_or_false true h k = absurd (cc)
true_or_false false h k = absurd (cc)

-- an answer that tells of no failure
pub done_is_outcome : (w : World) (e : Event) (new : World) (a : Answer) → IsDone w e new a → IsOutcome w e new a
done_is_outcome w e new a h = record { done = λ none. h.0; failed = λ fails. true_or_false (is_failure a) fails h.1; told = told_answer a h.1 }

pub outcomes : {E : Type 0} (r : Result Answer E) (w : World) (e : Event) (new : World) → IfOk r (IsDone w e new) → IfOk r (IsOutcome w e new)
outcomes (Ok a) w e new h = done_is_outcome w e new a h
outcomes (Err f) w e new h = tt

-- ---- the log's answers

abbrev log_or : Log → Result Log LogFault → Log
log_or l (Ok m) = m
log_or l (Err e) = l

abbrev number_or : ℕ → Result Log LogFault → ℕ
number_or n (Err (fault.Limit m)) = m
number_or n other = n

added_ok : (f : Option ℕ) (new l : Log) → log_unless_limit f new ≡ Ok l → (f ≡ None) × (new ≡ l)
added_ok None new l h = (refl, ap (log_or new) h)
added_ok (Some n) new l h = absurd (cc)

added_over : (f : Option ℕ) (new : Log) (n : ℕ) → log_unless_limit f new ≡ Err (fault.Limit n) → f ≡ Some n
added_over None new n h = absurd (cc)
added_over (Some m) new n h = ap (λ r. Some (number_or m r)) h

elect_ok : (b : Bool) (f : Option ℕ) (new l : Log) → cond b (log_unless_limit f new) (Err (fault.Limit (number_of_limit limits.Epoch))) ≡ Ok l → (b ≡ true) × (f ≡ None) × (new ≡ l)
elect_ok true f new l h = (refl, (added_ok f new l h).0, (added_ok f new l h).1)
elect_ok false f new l h = absurd (cc)

elect_over : (b : Bool) (f : Option ℕ) (new : Log) (n : ℕ) → cond b (log_unless_limit f new) (Err (fault.Limit (number_of_limit limits.Epoch))) ≡ Err (fault.Limit n) → first_of (unless b (over (number_of_limit limits.Epoch))) (option_map over f) ≡ Some (over n)
elect_over true f new n h = ap (option_map over) (added_over f new n h)
elect_over false f new n h = ap (λ r. Some (over (number_or (number_of_limit limits.Epoch) r))) h

-- ---- elections

pub elected_done : (w : World) (id now : ℤ) (items : List MetaRecord) (l : Log) (ds : List Driver) (epoch end : ℤ) → running_refusal w id ≡ None → items ≡ election_records w.shared.log → elect w.shared.log now items ≡ Ok l
    → epoch ≡ l.epoch → end ≡ end_of l → ds ≡ elected_drivers id epoch w.drivers
    → next w (event.Elect id now) ≡ (record { shared = record { tree = w.shared.tree; log = l; declared = w.shared.declared }; drivers = ds }, answer.Elected epoch end)
unfolding next
elected_done w id now items l ds epoch end runs items_are ok epoch_is end_is marked =
    let old = w.shared.log in
    let done = elect_ok (int_lt old.epoch MAX_EPOCH) (full_log old (election_records old)) (elected_log old now) l (ap (elect old now) (sym items_are) ∙ ok) in
    let up : epoch ≡ next_epoch old = epoch_is ∙ ap (λ (x : Log). x.epoch) (sym done.2) in
    let target : Log → List Driver → ℤ → ℤ → World × Answer = λ x es e o. (record { shared = record { tree = w.shared.tree; log = x; declared = w.shared.declared }; drivers = es }, answer.Elected e o) in
    rw (runs, done.0, done.1) (
    ap (λ x. target x (elected_drivers id (next_epoch old) w.drivers) (next_epoch old) (end_of (elected_log old now))) done.2
    ∙ ap (λ x. target l x (next_epoch old) (end_of (elected_log old now))) (sym (marked ∙ ap (λ e. elected_drivers id e w.drivers) up))
    ∙ ap (λ x. target l ds x (end_of (elected_log old now))) (sym up)
    ∙ ap (target l ds epoch) (ap end_of done.2 ∙ sym end_is))

pub election_over : (w : World) (id now : ℤ) (items : List MetaRecord) (n : ℕ) → running_refusal w id ≡ None → items ≡ election_records w.shared.log → elect w.shared.log now items ≡ Err (fault.Limit n)
    → next w (event.Elect id now) ≡ (w, answer.Over n)
unfolding next
election_over w id now items n runs items_are refused =
    let old = w.shared.log in
    by_refusal w (election_refusal w id) (over n) (elected_world w id now) (election_answer w now)
    (ap (λ a. first_of a (first_of (unless (int_lt old.epoch MAX_EPOCH) (over (number_of_limit limits.Epoch))) (full old (election_records old)))) runs
    ∙ elect_over (int_lt old.epoch MAX_EPOCH) (full_log old (election_records old)) (elected_log old now) n (ap (elect old now) (sym items_are) ∙ refused))

elect_not_stale : (b : Bool) (f : Option ℕ) (new : Log) (epoch : ℤ) → cond b (log_unless_limit f new) (Err (fault.Limit (number_of_limit limits.Epoch))) ≡ Err (fault.Stale epoch) → ⊥
elect_not_stale true None new epoch h = absurd (cc)
elect_not_stale true (Some n) new epoch h = absurd (cc)
elect_not_stale false f new epoch h = absurd (cc)

-- the log refuses an election
pub election_refused : (w : World) (id now : ℤ) (items : List MetaRecord) (f : LogFault) (new : World) → running_refusal w id ≡ None → items ≡ election_records w.shared.log → IsRefusal (elect w.shared.log now items) f → new ≡ w
    → IfOk (after_log_fault f) (IsDone w (event.Elect id now) new)
election_refused w id now items f new runs items_are is same =
    let l = w.shared.log in
    log_refuses (elect l now items) f (IsDone w (event.Elect id now) new) is
    (λ epoch stale. absurd (elect_not_stale (int_lt l.epoch MAX_EPOCH) (full_log l items) _ epoch stale))
    (λ n limit. (election_over w id now items n runs items_are limit ∙ ap (λ (x : World). (x, answer.Over n)) (sym same), refl))

-- ---- appends

-- an append of the log's own epoch
append_is : (l : Log) (epoch now : ℤ) (items : List MetaRecord) → epoch ≡ l.epoch → append l epoch now items ≡ log_unless_limit (full_log l items) (with_batch l l.epoch now items)
append_is l epoch now items is =
    ap (λ e. append l e now items) is ∙ ap (λ b. cond b (log_unless_limit (full_log l items) (with_batch l l.epoch now items)) (Err (fault.Stale l.epoch))) (itself l.epoch)

not_stale : (f : Option ℕ) (new : Log) (epoch : ℤ) → log_unless_limit f new ≡ Err (fault.Stale epoch) → ⊥
not_stale None new epoch h = absurd (cc)
not_stale (Some n) new epoch h = absurd (cc)

append_over : (w : World) (records : List MetaRecord) (now epoch : ℤ) (n : ℕ) (new : World) → epoch ≡ w.shared.log.epoch → append w.shared.log epoch now records ≡ Err (fault.Limit n) → new ≡ w
    → world_after_append w records now ≡ (new, answer.Over n)
append_over w records now epoch n new is limit same =
    let l = w.shared.log in
    by_refusal w (full l records) (over n) (changed_world w records now) (answer.Appended (end_of (changed_log l records now)))
    (ap (option_map over) (added_over (full_log l records) (with_batch l l.epoch now records) n (sym (append_is l epoch now records is) ∙ limit)))
    ∙ ap (λ (x : World). (x, answer.Over n)) (sym same)

-- the log refuses an append of its own epoch
pub append_refused : (w : World) (records : List MetaRecord) (now epoch : ℤ) (f : LogFault) (new : World) → epoch ≡ w.shared.log.epoch → IsRefusal (append w.shared.log epoch now records) f → new ≡ w
    → IfOk (after_log_fault f) (λ a. (world_after_append w records now ≡ (new, a)) × (is_failure a ≡ false))
append_refused w records now epoch f new is refused same =
    let l = w.shared.log in
    log_refuses (append l epoch now records) f (λ a. (world_after_append w records now ≡ (new, a)) × (is_failure a ≡ false)) refused
    (λ e stale. absurd (not_stale (full_log l records) (with_batch l l.epoch now records) e (sym (append_is l epoch now records is) ∙ stale)))
    (λ n limit. (append_over w records now epoch n new is limit same, refl))

-- it is taken
pub append_done : (w : World) (records : List MetaRecord) (now epoch end : ℤ) (m : Log) → epoch ≡ w.shared.log.epoch → append w.shared.log epoch now records ≡ Ok m → end ≡ end_of m
    → world_after_append w records now ≡ (record { shared = record { tree = w.shared.tree; log = m; declared = w.shared.declared }; drivers = w.drivers }, answer.Appended end)
append_done w records now epoch end m is made end_is =
    let l = w.shared.log in
    let target : Log → ℤ → World × Answer = λ x e. (record { shared = record { tree = w.shared.tree; log = x; declared = w.shared.declared }; drivers = w.drivers }, answer.Appended e) in
    let taken = added_ok (full_log l records) (with_batch l l.epoch now records) m (sym (append_is l epoch now records is) ∙ made) in
    ap (λ f. outcome_unless w (option_map over f) (changed_world w records now) (answer.Appended (end_of (changed_log l records now)))) taken.0
    ∙ ap (λ x. target x (end_of x)) taken.1 ∙ ap (target m) (sym end_is)

-- ---- changes

joined : (a b c d rest : Option Answer) → first_of (first_of a (first_of b (first_of c d))) rest ≡ first_of a (first_of b (first_of c (first_of d rest)))
joined (Some x) b c d rest = refl
joined None (Some x) c d rest = refl
joined None None (Some x) d rest = refl
joined None None None d rest = refl

-- a change by a leader, with what is asked for before the log's room
by_records : (w : World) (id : ℤ) (records : List MetaRecord) (r : Option Answer) → leader_refusal w id ≡ None → records_refusal w.shared.log.epoch (image_of w.shared.log) records ≡ r → change_refusal w id records ≡ first_of r (full w.shared.log records)
by_records w id records r leads is =
    let l = w.shared.log in
    let i = image_of l in
    let unmigrated = unless (is_migrated_log l) answer.NotMigrated in
    let many = unless (nat_le (length records) MAX_CHANGE_RECORDS) (over (number_of_limit limits.ChangeRecords)) in
    let bad = bad_record (first_bad 0 records i) in
    let much = over_excess (excess (all_applied l.epoch records i)) in
    ap (λ a. first_of a (first_of unmigrated (first_of many (first_of bad (first_of much (full l records)))))) leads ∙ sym (joined unmigrated many bad much (full l records)) ∙ ap (λ a. first_of a (full l records)) is

pub change_refused : (w : World) (id now : ℤ) (records : List MetaRecord) (r : Answer) → leader_refusal w id ≡ None → records_refusal w.shared.log.epoch (image_of w.shared.log) records ≡ Some r → next w (event.Change id records now) ≡ (w, r)
unfolding next
change_refused w id now records r leads refused =
    by_refusal w (change_refusal w id records) r (changed_world w records now) (answer.Appended (end_of (changed_log w.shared.log records now))) (by_records w id records (Some r) leads refused)

pub change_appends : (w : World) (id now : ℤ) (records : List MetaRecord) → leader_refusal w id ≡ None → records_refusal w.shared.log.epoch (image_of w.shared.log) records ≡ None → next w (event.Change id records now) ≡ world_after_append w records now
unfolding next
change_appends w id now records leads taken = ap (λ a. outcome_unless w a (changed_world w records now) (answer.Appended (end_of (changed_log w.shared.log records now)))) (by_records w id records None leads taken)

-- ---- finalisations

-- a finalisation by a leader, with what is asked for before the log's room
by_end : (w : World) (id : ℤ) (r : Option Answer) → leader_refusal w id ≡ None → end_refusal w id ≡ r → finalise_refusal w id ≡ first_of r (full w.shared.log final_records)
by_end w id r leads is =
    let l = w.shared.log in
    let unmigrated = unless (is_migrated_log l) answer.NotMigrated in
    let over_already = unless (not (is_finalised_log l)) answer.Finalised in
    let dual = dual_write_refusal (driver_of id w.drivers) in
    let rest = rest_refusal w.shared.tree (end_of l) in
    ap (λ a. first_of a (first_of unmigrated (first_of over_already (first_of dual (first_of rest (full l final_records)))))) leads ∙ sym (joined unmigrated over_already dual rest (full l final_records)) ∙ ap (λ a. first_of a (full l final_records)) is

pub finalise_refused : (w : World) (id now : ℤ) (r : Answer) → leader_refusal w id ≡ None → end_refusal w id ≡ Some r → next w (event.Finalise id now) ≡ (w, r)
unfolding next
finalise_refused w id now r leads refused =
    by_refusal w (finalise_refusal w id) r (changed_world w final_records now) (answer.Appended (end_of (changed_log w.shared.log final_records now))) (by_end w id (Some r) leads refused)

pub finalise_appends : (w : World) (id now : ℤ) → leader_refusal w id ≡ None → end_refusal w id ≡ None → next w (event.Finalise id now) ≡ world_after_append w final_records now
unfolding next
finalise_appends w id now leads taken = ap (λ a. outcome_unless w a (changed_world w final_records now) (answer.Appended (end_of (changed_log w.shared.log final_records now)))) (by_end w id None leads taken)

-- ---- registrations

by_begun : (w : World) (id : ℤ) (records : List MetaRecord) (b : Option ℤ) → leader_refusal w id ≡ None → begun_of w.shared.log ≡ b
    → register_refusal w id records ≡ first_of (option_map (λ offset. answer.InTransaction offset) b) (full w.shared.log records)
by_begun w id records b leads is =
    ap (λ a. first_of a (first_of (option_map (λ offset. answer.InTransaction offset) (begun_of w.shared.log)) (full w.shared.log records))) leads
    ∙ ap (λ o. first_of (option_map (λ offset. answer.InTransaction offset) o) (full w.shared.log records)) is

pub register_refused : (w : World) (id broker : ℤ) (migrating : Bool) (now offset : ℤ) → leader_refusal w id ≡ None → begun_of w.shared.log ≡ Some offset → next w (event.Register id broker migrating now) ≡ (w, answer.InTransaction offset)
unfolding next
register_refused w id broker migrating now offset leads is =
    let records = registration broker migrating in
    by_refusal w (register_refusal w id records) (answer.InTransaction offset) (changed_world w records now) (answer.Appended (end_of (changed_log w.shared.log records now))) (by_begun w id records (Some offset) leads is)

pub register_appends : (w : World) (id broker : ℤ) (migrating : Bool) (now : ℤ) → leader_refusal w id ≡ None → begun_of w.shared.log ≡ None → next w (event.Register id broker migrating now) ≡ world_after_append w (registration broker migrating) now
unfolding next
register_appends w id broker migrating now leads is =
    let records = registration broker migrating in
    ap (λ a. outcome_unless w a (changed_world w records now) (answer.Appended (end_of (changed_log w.shared.log records now)))) (by_begun w id records None leads is)

-- ---- starts

allowed : (b : Bool) (a : Answer) → unless b a ≡ None → b ≡ true
allowed true a h = refl
allowed false a h = absurd (cc)

not_true : (b : Bool) → not b ≡ true → b ≡ false
not_true true h = absurd (cc)
not_true false h = refl

-- a controller that may start doesn't run
pub starts : (w : World) (id : ℤ) → start_refusal w id ≡ None → is_running id w.drivers ≡ false
starts w id h = not_true (is_running id w.drivers) (allowed (not (is_running id w.drivers)) answer.AlreadyRunning (first_none _ _ h).1)

-- ---- what a request leaves

-- the only pair
pub one_pair : (pair : Pair) → Contains (pair ∷ []) pair
one_pair pair = (0, omega arith, refl)

-- a pair that nothing refuses
pub pair_made : (refusal : Option Answer) (pair : Pair) → refusal ≡ None → Contains (pairs_unless refusal (pair ∷ [])) pair
pair_made refusal pair is = subst (λ (o : Option Answer). Contains (pairs_unless o (pair ∷ [])) pair) (sym is) (one_pair pair)

-- an election that the log takes
pub election_pair : (w : World) (id now : ℤ) (items : List MetaRecord) (m : Log) → running_refusal w id ≡ None → items ≡ election_records w.shared.log → elect w.shared.log now items ≡ Ok m → Contains (event_pairs w (event.Elect id now)) (pair_of (record w.shared { log = m }))
unfolding event_pairs
election_pair w id now items m runs items_are ok =
    let old = w.shared.log in
    let done = elect_ok (int_lt old.epoch MAX_EPOCH) (full_log old (election_records old)) (elected_log old now) m (ap (elect old now) (sym items_are) ∙ ok) in
    let refusal : election_refusal w id ≡ None = rw (runs, done.0, done.1) refl in
    subst (λ (l : Log). Contains (event_pairs w (event.Elect id now)) (pair_of (record w.shared { log = l }))) done.2 (pair_made (election_refusal w id) (pair_of (elected_world w id now).shared) refusal)

-- an append that it takes
pub append_pair : (w : World) (records : List MetaRecord) (now epoch : ℤ) (m : Log) → epoch ≡ w.shared.log.epoch → append w.shared.log epoch now records ≡ Ok m → Contains (append_pairs w records now) (pair_of (record w.shared { log = m }))
append_pair w records now epoch m is made =
    let l = w.shared.log in
    let taken = added_ok (full_log l records) (with_batch l l.epoch now records) m (sym (append_is l epoch now records is) ∙ made) in
    subst (λ (x : Log). Contains (append_pairs w records now) (pair_of (record w.shared { log = x }))) taken.1 (pair_made (full l records) (pair_of (changed_world w records now).shared) (ap (option_map over) taken.0))

-- those of a change and of a registration that only the log's room may refuse
pub change_pairs : (w : World) (id now : ℤ) (records : List MetaRecord) → leader_refusal w id ≡ None → records_refusal w.shared.log.epoch (image_of w.shared.log) records ≡ None → append_pairs w records now ≡ event_pairs w (event.Change id records now)
unfolding event_pairs
change_pairs w id now records leads taken = ap (λ a. pairs_unless a (pair_of (changed_world w records now).shared ∷ [])) (sym (by_records w id records None leads taken))

pub finalise_pairs : (w : World) (id now : ℤ) → leader_refusal w id ≡ None → end_refusal w id ≡ None → append_pairs w final_records now ≡ event_pairs w (event.Finalise id now)
unfolding event_pairs
finalise_pairs w id now leads taken = ap (λ a. pairs_unless a (pair_of (changed_world w final_records now).shared ∷ [])) (sym (by_end w id None leads taken))

pub register_pairs : (w : World) (id broker : ℤ) (migrating : Bool) (now : ℤ) → leader_refusal w id ≡ None → begun_of w.shared.log ≡ None → append_pairs w (registration broker migrating) now ≡ event_pairs w (event.Register id broker migrating now)
unfolding event_pairs
register_pairs w id broker migrating now leads is =
    let records = registration broker migrating in
    ap (λ a. pairs_unless a (pair_of (changed_world w records now).shared ∷ [])) (sym (by_begun w id records None leads is))

-- a change of the tree that is made
pub tree_pair : {E : Type 0} (w : World) (made : Result Tree E) (t : Tree) → made ≡ Ok t → Contains (tree_pairs w made) (pair_of (record w.shared { tree = t }))
tree_pair {E} w made t is = subst (λ (r : Result Tree E). Contains (tree_pairs w r) (pair_of (record w.shared { tree = t }))) (sym is) (one_pair (pair_of (record w.shared { tree = t })))

pub begin_pair : (w : World) (session : ℤ) (t : Tree) → begin_session w.shared.tree session ≡ Ok t → Contains (event_pairs w (event.ZkOpen session)) (pair_of (record w.shared { tree = t }))
unfolding event_pairs
begin_pair w session t is = tree_pair w (begin_session w.shared.tree session) t is

pub end_pair : (w : World) (session : ℤ) (t : Tree) → end_session w.shared.tree session ≡ Ok t → Contains (event_pairs w (event.ZkExpire session)) (pair_of (record w.shared { tree = t }))
unfolding event_pairs
end_pair w session t is = tree_pair w (end_session w.shared.tree session) t is

pub multi_pair : (w : World) (ops : List Op) (t : Tree) → client_refusal w.shared.tree ops ≡ None → multi w.shared.tree ops ≡ Ok t → Contains (event_pairs w (event.Zk ops)) (pair_of (record w.shared { tree = t }))
unfolding event_pairs
multi_pair w ops t taken is = subst (λ (o : Option Answer). Contains (pairs_unless o (tree_pairs w (multi w.shared.tree ops))) (pair_of (record w.shared { tree = t }))) (sym taken) (tree_pair w (multi w.shared.tree ops) t is)
