-- What a snapshot of the log makes of a world.
use Rattle.std.proofs.Common.{◌≡◌, Bool, true, false, ◌&&◌, ℤ, pos, int_le, [], ◌∷◌, Contains, Option, Some, None, is_some, Ok, IfOk, if◌then◌else◌, refl, sym, ap, ◌∙◌, subst, arith}
use Rattle.kz_types.specs.declared.fault.LogFault.{LogFault}
use Rattle.kz_types.specs.declared.fault.LogFault.TheVariants as log_fault
use Rattle.kz_types.specs.declared.machine.Answer.{Answer}
use Rattle.kz_types.specs.declared.machine.Answer.TheVariants as answer
use Rattle.kz_types.specs.declared.machine.Event.TheVariants as event
use Rattle.kz_types.specs.declared.machine.Recorded.{Recorded}
use Rattle.kz_spec_data.specs.Tree.{migration_record}
use Rattle.kz_spec_data.specs.Log.{Log, is_migrated_log, may_be_base, snapshot}
use Rattle.kz_spec_machine.specs.Machine.{World, Pair, pair_of, pairs_unless, next, event_pairs, outcome_unless, unless, snapshot_offset, snapshot_refusal, cut_log, cut_world}
use Rattle.kz_log.specs.Requests.{IsRefusal, made_by_snapshot}
use Rattle.kz_world_parts.specs.Faults.{after_log_fault}

-- the offset at which a world's log may be cut
abbrev pub offset_in : World → Option ℤ
offset_in w = snapshot_offset (migration_record w.shared.tree) w.shared.log

-- ---- where the log may be cut

some_where : (b : Bool) (o at : ℤ) → (if b then Some o else None) ≡ Some at → (b ≡ true) × (o ≡ at)
some_where true o at is = (refl, let same : o ≡ at = cc in same)
some_where false o at is = absurd (cc)

second : (a b : Bool) → a && b ≡ true → b ≡ true
second true b is = is
second false b is = absurd (cc)

may_by : (recorded : Option Recorded) (l : Log) (at : ℤ) → snapshot_offset recorded l ≡ Some at → may_be_base l at ≡ true
may_by None l at is = absurd (cc)
may_by (Some r) l at is =
    let found = some_where (int_le (pos 0) r.offset && may_be_base l r.offset) r.offset at is in
    subst (λ (o : ℤ). may_be_base l o ≡ true) found.1 (second (int_le (pos 0) r.offset) (may_be_base l r.offset) found.0)

pub may_cut : (w : World) (at : ℤ) → offset_in w ≡ Some at → may_be_base w.shared.log at ≡ true
may_cut w at is = may_by (migration_record w.shared.tree) w.shared.log at is

pub cut_is : (w : World) (at : ℤ) → offset_in w ≡ Some at → cut_world w ≡ record { shared = record w.shared { log = snapshot w.shared.log at }; drivers = w.drivers }
cut_is w at is = ap (λ (o : Option ℤ). record w { shared = record w.shared { log = cut_log w.shared.log o } }) is

-- ---- what is answered

refusal_by : (w : World) (m : Bool) (o : Option ℤ) → is_migrated_log w.shared.log ≡ m → offset_in w ≡ o → snapshot_refusal w ≡ unless (m && is_some o) answer.TooEarly
refusal_by w m o migrated at = ap (λ (b : Bool). unless (b && is_some (offset_in w)) answer.TooEarly) migrated ∙ ap (λ (x : Option ℤ). unless (m && is_some x) answer.TooEarly) at

pub taken : (w : World) (at : ℤ) → is_migrated_log w.shared.log ≡ true → offset_in w ≡ Some at → snapshot_refusal w ≡ None
taken w at migrated is = refusal_by w true (Some at) migrated is

pub unmigrated : (w : World) → is_migrated_log w.shared.log ≡ false → snapshot_refusal w ≡ Some answer.TooEarly
unmigrated w migrated = refusal_by w false (offset_in w) migrated refl

nothing_in : (m : Bool) → unless (m && false) answer.TooEarly ≡ Some answer.TooEarly
nothing_in true = refl
nothing_in false = refl

pub unrecorded : (w : World) → offset_in w ≡ None → snapshot_refusal w ≡ Some answer.TooEarly
unrecorded w is = refusal_by w (is_migrated_log w.shared.log) None refl is ∙ nothing_in (is_migrated_log w.shared.log)

pub cut_done : (w : World) → snapshot_refusal w ≡ None → next w event.Snapshot ≡ (cut_world w, answer.Done)
unfolding next
cut_done w none = ap (λ (o : Option Answer). outcome_unless w o (cut_world w) answer.Done) none

pub cut_refused : (w : World) → snapshot_refusal w ≡ Some answer.TooEarly → next w event.Snapshot ≡ (w, answer.TooEarly)
unfolding next
cut_refused w refused = ap (λ (o : Option Answer). outcome_unless w o (cut_world w) answer.Done) refused

pub cut_pairs : (w : World) → snapshot_refusal w ≡ None → pair_of (cut_world w).shared ∷ [] ≡ event_pairs w event.Snapshot
unfolding event_pairs
cut_pairs w none = ap (λ (o : Option Answer). pairs_unless o (pair_of (cut_world w).shared ∷ [])) (sym none)

-- nothing refuses a snapshot, so a fault of the log is told
pub cut_fault : (P : Answer → Type 0) (l : Log) (at : ℤ) (f : LogFault) → IsRefusal (made_by_snapshot l at) f → IfOk (after_log_fault f) P
cut_fault P l at (log_fault.Stale epoch) refused = absurd (cc)
cut_fault P l at log_fault.Failed refused = tt
cut_fault P l at (log_fault.Limit number) refused = absurd (cc)
cut_fault P l at log_fault.NoMemory refused = tt
cut_fault P l at log_fault.Down refused = tt
cut_fault P l at (log_fault.Full length) refused = tt

one_pair : (p : Pair) → Contains (p ∷ []) p
one_pair p = (0, omega arith, refl)

-- the log that the store makes is the one that is cut
pub cut_pair : (w : World) (at near : ℤ) (m : Log) → near ≡ at → offset_in w ≡ Some at → made_by_snapshot w.shared.log near ≡ Ok m → Contains (pair_of (cut_world w).shared ∷ []) (pair_of (record w.shared { log = m }))
cut_pair w at near m near_is is made =
    let log_is : snapshot w.shared.log near ≡ m = cc in
    let world_is : record w { shared = record w.shared { log = m } } ≡ cut_world w = ap (λ (l : Log). record w { shared = record w.shared { log = l } }) (sym log_is ∙ ap (snapshot w.shared.log) near_is) ∙ sym (cut_is w at is) in
    subst (λ (x : World). Contains (pair_of (cut_world w).shared ∷ []) (pair_of x.shared)) (sym world_is) (one_pair (pair_of (cut_world w).shared))
