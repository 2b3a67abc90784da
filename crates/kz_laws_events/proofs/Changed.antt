-- Changes of the metadata, and registrations of brokers.
use Rattle.std.proofs.Common.{◌≡◌, ◌≤◌, nat_le, ℤ, pos, ◌+ℤ◌, Bool, true, false, List, [], ◌∷◌, length, Option, Some, None, is_some, option_map, All, refl, sym, ap, ◌∙◌, arith}
use Rattle.std.proofs.lemmas.List.Elements.{All-nil, All-cons, All-head, All-tail}
use Rattle.kz_types.specs.declared.limits.Limit.TheVariants as limits
use Rattle.kz_types.specs.Limits.{number_of_limit}
use Rattle.kz_types.specs.declared.limits.TheConstants.{MAX_CHANGE_RECORDS}
use Rattle.kz_types.specs.declared.image_fault.ImageRule.{ImageRule}
use Rattle.kz_types.specs.declared.machine.Answer.TheVariants as answer
use Rattle.kz_types.specs.declared.machine.Event.TheVariants as event
use Rattle.kz_types.specs.declared.record.MetaRecord.{MetaRecord}
use Rattle.kz_types.specs.declared.record.MetaRecord.TheVariants as meta
use Rattle.kz_types.specs.declared.record.RegisterBrokerRecord.{RegisterBrokerRecord}
use Rattle.kz_types.specs.Ids.{zero_id}
use Rattle.kz_spec_data.specs.Settlement.{is_marker}
use Rattle.kz_spec_data.specs.ImageRules.{is_kept_back, broken_rule}
use Rattle.kz_spec_data.specs.Image.{Image, all_applied, effect, unless_broken, image_with, first_bad, is_migrated_state}
use Rattle.kz_spec_data.specs.Log.{Log, end_of, entries_at_offsets, with_batch, full_log, image_of, is_migrated_log, is_open_log, begun_of}
use Rattle.kz_spec_data.specs.Rendering.{excess}
use Rattle.kz_spec_machine.specs.Driver.{Shared, Driver}
use Rattle.kz_spec_machine.specs.Machine.{World, first_of, unless, over, full, leader_refusal, bad_record, over_excess, change_refusal, changed_world, registration, register_refusal, next}
use Rattle.kz_spec_machine.specs.Sound.{IsEpoch, LogShape, Unmigrated, IsSharedSound, IsSoundDriver, Sound}
use Rattle.kz_laws_machine.specs.Effects.{IsLonger}
use Rattle.kz_laws_machine.proofs.Numbers.{at_least_itself}
use Rattle.kz_laws_machine.proofs.Longer.{others_longer}
use Rattle.kz_laws_machine.proofs.Keeps.{others_keep}
use Rattle.kz_laws_machine.specs.LogLaws.{IsPlain}
use Rattle.kz_laws_machine.proofs.Asked.{asked_all, asked_plain}
use Rattle.kz_laws_machine.proofs.TreeCommits.{commit_kept}
use Rattle.kz_laws_machine.proofs.Ends.{end_is_batch_end}
use Rattle.kz_laws_machine.proofs.Growth.{batch_shape, batch_lengthens}
use Rattle.kz_laws_machine.proofs.Migration.{next_entries, NoneEnds, plain_keeps_state}
use Rattle.kz_laws_machine.proofs.Begun.{none_begun, begun_log, open_log}
use Rattle.kz_laws_machine.proofs.Pending.{NoneMarks}
use Rattle.kz_laws_machine.proofs.Opened.{unmarked_keep_settled}
use Rattle.kz_laws_machine.proofs.Counted.{unmigrated_more, early_counted, unmarked_applied}
use Rattle.kz_laws_machine.proofs.Batches.{plain_end_none}
use Rattle.kz_laws_events.proofs.Resync.{recorded_within}
use Rattle.kz_laws_events.proofs.Tests.{true_or_false}
use Rattle.kz_laws_events.proofs.Refusals.{first_none, six_none, unless_none, over_none, bad_none, excess_none, begun_none, decided_by, led, led_epoch}
use Rattle.kz_laws_events.proofs.Grown.{IsSettledBatch, migrated_settled, agrees_more}

-- ---- a batch of the leader, without a marker

numbered_unmarked : (offset epoch : ℤ) (items : List MetaRecord) → All (λ (r : MetaRecord). is_marker r ≡ false) items → NoneMarks (entries_at_offsets offset epoch items)
numbered_unmarked offset epoch [] all = tt
numbered_unmarked offset epoch (r ∷ rs) all =
    (All-head (λ (x : MetaRecord). is_marker x ≡ false) r rs all, numbered_unmarked (offset +ℤ pos 1) epoch rs (All-tail (λ (x : MetaRecord). is_marker x ≡ false) r rs all))

-- what is known of it
pub record IsLeaderBatch (s : Shared) (now : ℤ) (items : List MetaRecord) : Type 0 where
  pub kept : IsSharedSound s
  pub same : is_migrated_log (with_batch s.log s.log.epoch now items) ≡ is_migrated_log s.log
  pub ends : NoneEnds (next_entries s.log s.log.epoch items)
  pub unmarked : All (λ (r : MetaRecord). is_marker r ≡ false) items
  pub some : 1 ≤ length items
  pub room : full_log s.log items ≡ None
  pub range : IsEpoch s.log.epoch
  pub settled : is_open_log s.log ≡ false

abbrev pub more_of : Shared → ℤ → List MetaRecord → Log
more_of s now items = with_batch s.log s.log.epoch now items

pub shape_more : (s : Shared) (now : ℤ) (items : List MetaRecord) → IsLeaderBatch s now items → LogShape (more_of s now items)
shape_more s now items b = batch_shape s.log s.log.epoch now items b.kept.log (at_least_itself s.log.epoch) b.range b.some b.room

pub longer : (s : Shared) (now : ℤ) (items : List MetaRecord) → IsLeaderBatch s now items → IsLonger s.log (more_of s now items)
longer s now items b = batch_lengthens s.log s.log.epoch now items b.kept.log (at_least_itself s.log.epoch) b.some (λ old. b.same ∙ old) (λ old. b.ends)

marks : (s : Shared) (now : ℤ) (items : List MetaRecord) → IsLeaderBatch s now items → NoneMarks (next_entries s.log s.log.epoch items)
marks s now items b = numbered_unmarked (end_of s.log +ℤ pos 1) s.log.epoch items b.unmarked

pub more_closed : (s : Shared) (now : ℤ) (items : List MetaRecord) → IsLeaderBatch s now items → is_open_log (more_of s now items) ≡ false
more_closed s now items b = unmarked_keep_settled s.log s.log.epoch now items b.kept.log (shape_more s now items b) (marks s now items b) b.settled

pub was : (s : Shared) (now : ℤ) (items : List MetaRecord) → IsLeaderBatch s now items → is_migrated_log (more_of s now items) ≡ true → is_migrated_log s.log ≡ true
was s now items b migrated = sym b.same ∙ migrated

applied : (s : Shared) (now : ℤ) (items : List MetaRecord) → IsLeaderBatch s now items → image_of (more_of s now items) ≡ all_applied s.log.epoch items (image_of s.log)
applied s now items b = unmarked_applied s.log s.log.epoch now items b.kept.log b.settled (marks s now items b) b.ends

settled_batch : (s : Shared) (now : ℤ) (items : List MetaRecord) → IsLeaderBatch s now items → excess (all_applied s.log.epoch items (image_of s.log)) ≡ None → IsSettledBatch s.log s.log.epoch now items
settled_batch s now items b fits = record {
  longer = longer s now items b;
  commit = commit_kept s.log s.log.epoch now items b.kept.log b.ends;
  closed = more_closed s now items b;
  fits = ap excess (applied s now items b) ∙ fits;
}

pub shared_more : (s : Shared) (now : ℤ) (items : List MetaRecord) → IsLeaderBatch s now items → (is_migrated_log s.log ≡ true → excess (all_applied s.log.epoch items (image_of s.log)) ≡ None) → (is_migrated_log s.log ≡ false → Unmigrated (more_of s now items))
    → IsSharedSound (record s { log = more_of s now items })
shared_more s now items b fits before = record {
  tree = b.kept.tree;
  log = shape_more s now items b;
  before = λ none. before (sym b.same ∙ none);
  agreement = λ migrated.
      let old = was s now items b migrated in
      agrees_more s.tree s.log s.log.epoch now items b.kept.log old (settled_batch s now items b (fits old)) (b.kept.agreement old);
}

each_more : (s : Shared) (now : ℤ) (items : List MetaRecord) (f : Driver) → IsLeaderBatch s now items → IsSoundDriver s f → IsSoundDriver (record s { log = more_of s now items }) f
each_more s now items f b fine =
    others_longer s (more_of s now items) f (longer s now items b) (was s now items b) (λ leads. (none_begun s.log b.kept.log b.settled, more_closed s now items b)) (λ r migrated found. recorded_within s r b.kept migrated found) fine

pub changed : (w : World) (now : ℤ) (items : List MetaRecord) → IsLeaderBatch w.shared now items → Sound w → IsSharedSound (record w.shared { log = more_of w.shared now items }) → Sound (changed_world w items now)
changed w now items b sound kept = record {
  kept = kept;
  each = λ id d found. each_more w.shared now items d b (sound.each id d found);
  apart = sound.apart;
}

-- plain records leave the migration's state, and end no transaction
plain_same : (l : Log) (now : ℤ) (items : List MetaRecord) → LogShape l → All IsPlain items → is_migrated_log (with_batch l l.epoch now items) ≡ is_migrated_log l
plain_same l now items shape plain = ap is_migrated_state (plain_keeps_state l l.epoch now items shape plain)

-- ---- changes

unkept_unmarked : (r : MetaRecord) → is_kept_back r ≡ false → is_marker r ≡ false
unkept_unmarked (meta.BeginTransaction name) is = absurd (cc)
unkept_unmarked meta.EndTransaction is = absurd (cc)
unkept_unmarked (meta.AbortTransaction reason) is = absurd (cc)
unkept_unmarked r is = refl

-- what a change that isn't refused has passed
pub record MayChange (w : World) (id : ℤ) (records : List MetaRecord) : Type 0 where
  pub leader : leader_refusal w id ≡ None
  pub migrated : is_migrated_log w.shared.log ≡ true
  pub lawful : first_bad 0 records (image_of w.shared.log) ≡ None
  pub fits : excess (all_applied w.shared.log.epoch records (image_of w.shared.log)) ≡ None
  pub room : full_log w.shared.log records ≡ None

pub may_change : (w : World) (id : ℤ) (records : List MetaRecord) → change_refusal w id records ≡ None → MayChange w id records
may_change w id records none =
    let l = w.shared.log in
    let all = six_none (leader_refusal w id) (unless (is_migrated_log l) answer.NotMigrated) (unless (nat_le (length records) MAX_CHANGE_RECORDS) (over (number_of_limit limits.ChangeRecords)))
    (bad_record (first_bad 0 records (image_of l))) (over_excess (excess (all_applied l.epoch records (image_of l)))) (full l records) none in
    record {
      leader = all.one;
      migrated = unless_none (is_migrated_log l) answer.NotMigrated all.two;
      lawful = bad_none (first_bad 0 records (image_of l)) all.four;
      fits = excess_none (excess (all_applied l.epoch records (image_of l))) all.five;
      room = over_none (full_log l records) all.six;
    }

pub change_batch : (w : World) (id now : ℤ) (records : List MetaRecord) → 1 ≤ length records → Sound w → MayChange w id records → IsLeaderBatch w.shared now records
change_batch w id now records some sound m = record {
  kept = sound.kept;
  same = plain_same w.shared.log now records sound.kept.log (asked_plain 0 records (image_of w.shared.log) m.lawful);
  ends = plain_end_none w.shared.log w.shared.log.epoch records (asked_plain 0 records (image_of w.shared.log) m.lawful);
  unmarked = asked_all (λ (r : MetaRecord). is_marker r ≡ false) unkept_unmarked 0 records (image_of w.shared.log) m.lawful;
  some = some;
  room = m.room;
  range = led_epoch w id sound (led w id m.leader);
  settled = migrated_settled w.shared.tree w.shared.log sound.kept.log (sound.kept.agreement m.migrated);
}

pub change_sound : (w : World) (id now : ℤ) (records : List MetaRecord) → 1 ≤ length records → Sound w → Sound (next w (event.Change id records now)).0
unfolding next
change_sound w id now records some sound = decided_by Sound w (change_refusal w id records) (changed_world w records now) _ sound (λ none.
    let m = may_change w id records none in
    let b = change_batch w id now records some sound m in
    changed w now records b sound (shared_more w.shared now records b (λ migrated. m.fits) (λ before. absurd (true_or_false (is_migrated_log w.shared.log) m.migrated before))))

-- ---- registrations

not_open : (l : Log) → LogShape l → begun_of l ≡ None → is_open_log l ≡ false
not_open l shape none = open_log l shape ∙ ap is_some (sym (begun_log l shape) ∙ none)

abbrev new_broker : ℤ → Bool → RegisterBrokerRecord
new_broker broker migrating = record { broker_id = broker; migrating = migrating; incarnation = record { bytes = zero_id }; broker_epoch = pos 0; endpoints = []; features = []; rack = None; fenced = true; in_shutdown = false }

pub register_batch : (w : World) (id broker now : ℤ) (migrating : Bool) → Sound w → register_refusal w id (registration broker migrating) ≡ None → IsLeaderBatch w.shared now (registration broker migrating)
register_batch w id broker now migrating sound none =
    let l = w.shared.log in
    let one = first_none (leader_refusal w id) (first_of (option_map (λ (offset : ℤ). answer.InTransaction offset) (begun_of l)) (full l (registration broker migrating))) none in
    let two = first_none (option_map (λ (offset : ℤ). answer.InTransaction offset) (begun_of l)) (full l (registration broker migrating)) one.1 in
    let plain = All-cons IsPlain (meta.RegisterBroker (new_broker broker migrating)) [] tt (All-nil IsPlain) in
    record {
      kept = sound.kept;
      same = plain_same l now (registration broker migrating) sound.kept.log plain;
      ends = plain_end_none l l.epoch (registration broker migrating) plain;
      unmarked = All-cons (λ (r : MetaRecord). is_marker r ≡ false) (meta.RegisterBroker (new_broker broker migrating)) [] refl (All-nil (λ (r : MetaRecord). is_marker r ≡ false));
      some = one_item;
      room = over_none (full_log l (registration broker migrating)) two.1;
      range = led_epoch w id sound (led w id one.0);
      settled = not_open l sound.kept.log (begun_none (begun_of l) two.0);
    }
  where
    one_item : 1 ≤ length (registration broker migrating)
    one_item = omega arith

broker_fits : (b : Option ImageRule) (brokers : List RegisterBrokerRecord) (i : Image) → excess (unless_broken b (record i { brokers = brokers }) i) ≡ excess i
broker_fits None brokers i = others_keep i brokers i.state
broker_fits (Some rule) brokers i = refl

one_broker : (epoch : ℤ) (r : RegisterBrokerRecord) (i : Image) → excess (image_with epoch (meta.RegisterBroker r) i) ≡ excess i
one_broker epoch r i = broker_fits (broken_rule i (meta.RegisterBroker r)) (effect epoch (meta.RegisterBroker r) i).brokers i

registered_fits : (w : World) (broker now : ℤ) (migrating : Bool) → Sound w → is_migrated_log w.shared.log ≡ true → excess (all_applied w.shared.log.epoch (registration broker migrating) (image_of w.shared.log)) ≡ None
registered_fits w broker now migrating sound migrated =
    let l = w.shared.log in
    one_broker l.epoch (new_broker broker migrating) (image_of l) ∙ (sound.kept.agreement migrated).fits (end_of l) (end_is_batch_end l)

registered_before : (s : Shared) (broker now : ℤ) (migrating : Bool) → IsLeaderBatch s now (registration broker migrating) → is_migrated_log s.log ≡ false → Unmigrated (more_of s now (registration broker migrating))
registered_before s broker now migrating b before =
    let items = registration broker migrating in
    unmigrated_more s.log s.log.epoch now items b.kept.log b.ends (early_counted s.log s.log.epoch now items b.kept.log (λ none. tt, tt)) (b.kept.before before)

pub registration_sound : (w : World) (id broker : ℤ) (migrating : Bool) (now : ℤ) → Sound w → Sound (next w (event.Register id broker migrating now)).0
unfolding next
registration_sound w id broker migrating now sound = decided_by Sound w (register_refusal w id (registration broker migrating)) (changed_world w (registration broker migrating) now) _ sound (λ none.
    let b = register_batch w id broker now migrating sound none in
    changed w now (registration broker migrating) b sound (shared_more w.shared now (registration broker migrating) b (registered_fits w broker now migrating sound) (registered_before w.shared broker now migrating b)))
