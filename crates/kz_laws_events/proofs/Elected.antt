-- The log after an election.
use Rattle.std.proofs.Common.{◌≡◌, ◌≤◌, ℤ, pos, ◌+ℤ◌, ◌≤ℤ◌, int_lt, Bool, true, false, List, length, Option, Some, None, refl, sym, ap, ◌∙◌, subst, arith}
use Rattle.std.specs.Prelude.{◌<ℤ◌}
use Rattle.std.specs.Ordering.{int_eq}
use Rattle.std.proofs.lemmas.Bool.Decides.{Decides-int_eq}
use Rattle.std.proofs.lemmas.Int.{ints}
use Rattle.kz_types.specs.Limits.{number_of_limit}
use Rattle.kz_types.specs.declared.limits.Limit.TheVariants as limits
use Rattle.kz_types.specs.declared.limits.TheConstants.{MAX_EPOCH}
use Rattle.kz_types.specs.declared.codes.TheConstants.{NO_MIGRATION}
use Rattle.kz_types.specs.declared.image_fault.ImageRule.{ImageRule}
use Rattle.kz_types.specs.declared.record.MetaRecord.{MetaRecord}
use Rattle.kz_types.specs.declared.record.MetaRecord.TheVariants as meta
use Rattle.kz_spec_data.specs.Image.{Image, all_applied, broken_rule, unless_broken, is_migrated_state}
use Rattle.kz_spec_data.specs.Log.{Log, end_of, with_batch, full_log, image_of, is_migrated_log, is_open_log}
use Rattle.kz_spec_data.specs.Rendering.{excess}
use Rattle.kz_spec_machine.specs.Driver.{Shared}
use Rattle.kz_spec_machine.specs.Machine.{World, first_of, unless, over, full, running_refusal, election_records, next_epoch, election_refusal}
use Rattle.kz_spec_machine.specs.Sound.{IsEpoch, LogShape, IsSharedSound, Sound}
use Rattle.kz_laws_machine.specs.Effects.{IsLonger}
use Rattle.kz_laws_machine.proofs.Ends.{end_is_batch_end}
use Rattle.kz_laws_machine.proofs.TreeCommits.{commit_kept}
use Rattle.kz_laws_machine.proofs.Growth.{batch_shape, batch_lengthens, plain_stays, uncommitted_was}
use Rattle.kz_laws_machine.proofs.Opened.{elected_records, election_closes}
use Rattle.kz_laws_machine.proofs.Counted.{unmarked_applied}
use Rattle.kz_laws_machine.proofs.Batches.{elected_uncommitted, elected_plain, elected_end_none, elected_unmigrated}
use Rattle.kz_laws_events.proofs.Tests.{true_or_false}
use Rattle.kz_laws_events.proofs.Refusals.{first_none, unless_none, over_none}
use Rattle.kz_laws_events.proofs.Grown.{IsSettledBatch, migrated_settled, agrees_more}

-- ---- the log

-- what an election that isn't refused has passed
pub record MayElect (s : Shared) : Type 0 where
  pub kept : IsSharedSound s
  pub below : int_lt s.log.epoch MAX_EPOCH ≡ true
  pub room : full_log s.log (election_records s.log) ≡ None

pub may_elect : (w : World) (id : ℤ) → Sound w → election_refusal w id ≡ None → MayElect w.shared
may_elect w id sound none =
    let l = w.shared.log in
    let one = first_none (running_refusal w id) (first_of (unless (int_lt l.epoch MAX_EPOCH) (over (number_of_limit limits.Epoch))) (full l (election_records l))) none in
    let two = first_none (unless (int_lt l.epoch MAX_EPOCH) (over (number_of_limit limits.Epoch))) (full l (election_records l)) one.1 in
    record {
      kept = sound.kept;
      below = unless_none (int_lt l.epoch MAX_EPOCH) (over (number_of_limit limits.Epoch)) two.0;
      room = over_none (full_log l (election_records l)) two.1;
    }

-- whether the log gets a first state of the migration
abbrev pub gets_state : Log → Bool
gets_state l = int_eq (image_of l).state NO_MIGRATION

abbrev pub elected_of : Log → ℤ → Log
elected_of l now = with_batch l (next_epoch l) now (elected_records (is_open_log l) (gets_state l))

is_less : (a b : ℤ) → int_lt a b ≡ true → a <ℤ b
is_less a b is = grind (arith, ints)

epoch_range : (e : ℤ) → pos 0 ≤ℤ e → e <ℤ MAX_EPOCH → IsEpoch (e +ℤ pos 1)
epoch_range e least below = record { least = omega (arith, ints, least); most = omega (arith, ints, below) }

next_low : (e : ℤ) → e ≤ℤ (e +ℤ pos 1)
next_low e = omega (arith, ints)

some_records : (opened first : Bool) → 1 ≤ length (elected_records opened first)
some_records true true = omega arith
some_records true false = omega arith
some_records false true = omega arith
some_records false false = omega arith

pub range_of : (s : Shared) → MayElect s → IsEpoch (next_epoch s.log)
range_of s m = epoch_range s.log.epoch m.kept.log.log.epoch (is_less s.log.epoch MAX_EPOCH m.below)

pub shape_elected : (s : Shared) (now : ℤ) → MayElect s → LogShape (elected_of s.log now)
shape_elected s now m = batch_shape s.log (next_epoch s.log) now (elected_records (is_open_log s.log) (gets_state s.log)) m.kept.log (next_low s.log.epoch) (range_of s m) (some_records (is_open_log s.log) (gets_state s.log)) m.room

-- a migrated log has a state
has_state : (state : ℤ) (b : Bool) → is_migrated_state state ≡ true → int_eq state NO_MIGRATION ≡ b → b ≡ false
has_state state true migrated is = absurd (let none : state ≡ NO_MIGRATION = (Decides-int_eq state NO_MIGRATION).0 is in true_or_false (is_migrated_state state) migrated (ap is_migrated_state none))
has_state state false migrated is = refl

pub stateless : (l : Log) → is_migrated_log l ≡ true → gets_state l ≡ false
stateless l migrated = has_state (image_of l).state (gets_state l) migrated refl

stays : (s : Shared) (now : ℤ) → MayElect s → is_migrated_log s.log ≡ true → is_migrated_log (elected_of s.log now) ≡ true
stays s now m migrated =
    subst (λ (first : Bool). is_migrated_log (with_batch s.log (next_epoch s.log) now (elected_records (is_open_log s.log) first)) ≡ true) (sym (stateless s.log migrated))
    (plain_stays s.log (next_epoch s.log) now (elected_records (is_open_log s.log) false) m.kept.log (elected_plain (is_open_log s.log)) migrated)

pub longer : (s : Shared) (now : ℤ) → MayElect s → IsLonger s.log (elected_of s.log now)
longer s now m =
    batch_lengthens s.log (next_epoch s.log) now (elected_records (is_open_log s.log) (gets_state s.log)) m.kept.log (next_low s.log.epoch) (some_records (is_open_log s.log) (gets_state s.log)) (stays s now m)
    (λ migrated. elected_end_none s.log (next_epoch s.log) (is_open_log s.log) (gets_state s.log))

pub was : (s : Shared) (now : ℤ) → MayElect s → is_migrated_log (elected_of s.log now) ≡ true → is_migrated_log s.log ≡ true
was s now m migrated = uncommitted_was s.log (next_epoch s.log) now (elected_records (is_open_log s.log) (gets_state s.log)) m.kept.log (elected_uncommitted (is_open_log s.log) (gets_state s.log)) migrated

pub elected_closed : (s : Shared) (now : ℤ) → MayElect s → is_open_log (elected_of s.log now) ≡ false
elected_closed s now m = election_closes s.log (next_epoch s.log) now (is_open_log s.log) (gets_state s.log) m.kept.log (shape_elected s now m) refl

-- ---- a migrated log

left_by : (b : Option ImageRule) (i : Image) → excess (unless_broken b i i) ≡ excess i
left_by None i = refl
left_by (Some rule) i = refl

nothing_fits : (epoch : ℤ) (i : Image) → excess (all_applied epoch (elected_records false false) i) ≡ excess i
nothing_fits epoch i = left_by (broken_rule i meta.NoOp) i

same_records : (l : Log) → is_open_log l ≡ false → gets_state l ≡ false → elected_records (is_open_log l) (gets_state l) ≡ elected_records false false
same_records l settled state = ap (λ (b : Bool). elected_records b (gets_state l)) settled ∙ ap (λ (b : Bool). elected_records false b) state

quiet_image : (l : Log) (epoch now : ℤ) → LogShape l → is_open_log l ≡ false → image_of (with_batch l epoch now (elected_records false false)) ≡ all_applied epoch (elected_records false false) (image_of l)
quiet_image l epoch now shape settled = unmarked_applied l epoch now (elected_records false false) shape settled (refl, tt) (elected_end_none l epoch false false)

elected_fits : (s : Shared) (now : ℤ) → MayElect s → is_migrated_log s.log ≡ true → excess (image_of (elected_of s.log now)) ≡ None
elected_fits s now m migrated =
    let l = s.log in
    let old = m.kept.agreement migrated in
    let settled = migrated_settled s.tree l m.kept.log old in
    ap (λ (items : List MetaRecord). excess (image_of (with_batch l (next_epoch l) now items))) (same_records l settled (stateless l migrated))
    ∙ ap excess (quiet_image l (next_epoch l) now m.kept.log settled) ∙ nothing_fits (next_epoch l) (image_of l) ∙ old.fits (end_of l) (end_is_batch_end l)

settled_batch : (s : Shared) (now : ℤ) → MayElect s → is_migrated_log s.log ≡ true → IsSettledBatch s.log (next_epoch s.log) now (elected_records (is_open_log s.log) (gets_state s.log))
settled_batch s now m migrated = record {
  longer = longer s now m;
  commit = commit_kept s.log (next_epoch s.log) now (elected_records (is_open_log s.log) (gets_state s.log)) m.kept.log (elected_end_none s.log (next_epoch s.log) (is_open_log s.log) (gets_state s.log));
  closed = elected_closed s now m;
  fits = elected_fits s now m migrated;
}

pub shared_elected : (s : Shared) (now : ℤ) → MayElect s → IsSharedSound (record s { log = elected_of s.log now })
shared_elected s now m = record {
  tree = m.kept.tree;
  log = shape_elected s now m;
  before = λ none. elected_unmigrated s.log (next_epoch s.log) now (is_open_log s.log) (gets_state s.log) m.kept.log (m.kept.before (not_yet (is_migrated_log s.log) refl none));
  agreement = λ migrated.
      let old = was s now m migrated in
      agrees_more s.tree s.log (next_epoch s.log) now (elected_records (is_open_log s.log) (gets_state s.log)) m.kept.log old (settled_batch s now m old) (m.kept.agreement old);
}
  where
    not_yet : (t : Bool) → is_migrated_log s.log ≡ t → is_migrated_log (elected_of s.log now) ≡ false → t ≡ false
    not_yet true is none = absurd (true_or_false (is_migrated_log (elected_of s.log now)) (stays s now m is) none)
    not_yet false is none = refl
