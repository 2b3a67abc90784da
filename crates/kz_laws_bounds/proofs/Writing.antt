-- Steps of a driver that writes.
use Rattle.std.proofs.Common.{◌≡◌, ◌≢◌, ◌⊎◌, inl, inr, ℕ, zero, suc, ◌+◌, ◌≤◌, ℤ, pos, Bool, true, false, if◌then◌else◌, List, ◌∷◌, ◌++◌, length, Option, Some, None, option_map, refl, sym, ap, ◌∙◌, subst, arith}
use Rattle.std.specs.Prelude.{Result, Ok, Err, ◌≤ℤ◌}
use Rattle.std.specs.Ordering.{int_eq}
use Rattle.std.proofs.lemmas.Bool.Decides.{Decides-int_eq}
use Rattle.kz_types.specs.declared.codes.TheConstants.{BAD_VERSION, NO_NODE}
use Rattle.kz_types.specs.declared.tree.Row.{Row}
use Rattle.kz_types.specs.declared.tree.Op.{Op}
use Rattle.kz_types.specs.declared.tree.Op.TheVariants.{Check}
use Rattle.kz_types.specs.declared.driver.Stage.{Stage}
use Rattle.kz_types.specs.declared.driver.Stage.TheVariants as stage
use Rattle.kz_types.specs.declared.fault.TreeFault.{TreeFault}
use Rattle.kz_types.specs.declared.fault.TreeFault.TheVariants as tree_fault
use Rattle.kz_types.specs.declared.machine.DriverState.TheVariants as state
use Rattle.kz_types.specs.declared.machine.Recorded.{Recorded}
use Rattle.kz_types.specs.declared.machine.Reply.{Reply}
use Rattle.kz_types.specs.declared.machine.Reply.TheVariants as reply
use Rattle.kz_spec_data.specs.Control.{epoch_path}
use Rattle.kz_spec_data.specs.Tree.{Tree, row_at, check_refusal, multi}
use Rattle.kz_spec_data.specs.Log.{Log, image_at}
use Rattle.kz_spec_data.specs.Difference.{chunk, after_chunk}
use Rattle.kz_spec_machine.specs.Driver.{Shared, Driver, at_stage, begins_again, resigned_driver, epoch_or_zero, remaining_at, is_last_write, record_ops, write_ops, write, write_request, request_at, with_tree, shared_after, is_claim_refused, after_write, writes}
use Rattle.kz_spec_machine.specs.Sound.{IsSharedSound, IsCurrent, AtStage, Claims, HasBases, claim_version, shown_in, IsSoundDriver}
use Rattle.kz_laws_machine.proofs.FenceDrivers.{multi_refused, check_refused}
use Rattle.kz_laws_events.proofs.Tests.{true_or_false}
use Rattle.kz_laws_machine.proofs.Multi.{remaining_after_write}
use Rattle.kz_laws_machine.specs.Writes.{IsWriting, MayWrite}
use Rattle.kz_laws_machine.proofs.Writing.{writes_taken}
use Rattle.kz_laws_bounds.proofs.Chunks.{WritesIn}
use Rattle.kz_laws_bounds.proofs.Left.{Afterwards, afterwards_nearer, afterwards_least, WritesUpTo, LeftAt, Left, Goes}

-- ---- a write under a claim that isn't current

-- the check of a claim that isn't current is refused
pub record IsFenced (t : Tree) (ops : List Op) : Type 0 where
  pub code : ℤ
  pub made : multi t ops ≡ Err (tree_fault.Refused 0 code)
  pub told : is_claim_refused 0 code ≡ true

absent_refused : (t : Tree) (claim : ℤ) (rest : List Op) → row_at epoch_path t.rows ≡ None → IsFenced t (Check epoch_path claim ∷ rest)
absent_refused t claim rest is = record { code = NO_NODE; made = multi_refused t (Check epoch_path claim) rest NO_NODE (ap (check_refusal claim) is); told = refl }

other_refused : (t : Tree) (claim : ℤ) (rest : List Op) (r : Row) → pos 0 ≤ℤ claim → row_at epoch_path t.rows ≡ Some r → int_eq claim r.version ≡ false → IsFenced t (Check epoch_path claim ∷ rest)
other_refused t claim rest r low is other = record {
  code = BAD_VERSION;
  made = multi_refused t (Check epoch_path claim) rest BAD_VERSION (ap (check_refusal claim) is ∙ check_refused claim r low (λ same. true_or_false (int_eq claim r.version) ((Decides-int_eq claim r.version).1 same) other));
  told = refl;
}

version_of : (t : Tree) (claim : ℤ) (r : Row) → row_at epoch_path t.rows ≡ Some r → claim ≡ r.version → Some claim ≡ claim_version t
version_of t claim r is same = ap (λ (v : ℤ). Some v) same ∙ sym (ap (option_map (λ (x : Row). x.version)) is)

by_version : (t : Tree) (claim : ℤ) (rest : List Op) (r : Row) (b : Bool) → pos 0 ≤ℤ claim → row_at epoch_path t.rows ≡ Some r → int_eq claim r.version ≡ b → (Some claim ≡ claim_version t) ⊎ IsFenced t (Check epoch_path claim ∷ rest)
by_version t claim rest r true low is test = inl (version_of t claim r is ((Decides-int_eq claim r.version).0 test))
by_version t claim rest r false low is test = inr (other_refused t claim rest r low is test)

by_row : (t : Tree) (claim : ℤ) (rest : List Op) (m : Option Row) → pos 0 ≤ℤ claim → row_at epoch_path t.rows ≡ m → (Some claim ≡ claim_version t) ⊎ IsFenced t (Check epoch_path claim ∷ rest)
by_row t claim rest None low is = inr (absent_refused t claim rest is)
by_row t claim rest (Some r) low is = by_version t claim rest r (int_eq claim r.version) low is refl

claim_least : (log_epoch : ℤ) (version shown epoch m : Option ℤ) (claim : ℤ) → m ≡ Some claim → Claims log_epoch version shown epoch m → pos 0 ≤ℤ claim
claim_least log_epoch version shown epoch None claim is claims = absurd (cc)
claim_least log_epoch version shown epoch (Some c) claim is claims = let same : c ≡ claim = cc in subst (λ (x : ℤ). pos 0 ≤ℤ x) same claims.least

current_by : (t : Tree) (own : Option ℤ) (claim : ℤ) → own ≡ Some claim → Some claim ≡ claim_version t → IsCurrent t own
current_by t own claim is same = (is ∙ same, λ none. cc (is, none))

-- a claim is current, or the write is fenced off
pub current_or_fenced : (s : Shared) (d : Driver) (claim : ℤ) (ops : List Op) (target : Recorded) → IsSoundDriver s d → d.claim ≡ Some claim → IsCurrent s.tree d.claim ⊎ IsFenced s.tree (write_ops claim ops target)
current_or_fenced s d claim ops target fine is =
    either (by_row s.tree claim (chunk ops ++ record_ops (is_last_write ops) target) (row_at epoch_path s.tree.rows) (claim_least s.log.epoch (claim_version s.tree) (shown_in s.tree) d.epoch d.claim claim is fine.claims) refl)
  where
    either : (Some claim ≡ claim_version s.tree) ⊎ IsFenced s.tree (write_ops claim ops target) → IsCurrent s.tree d.claim ⊎ IsFenced s.tree (write_ops claim ops target)
    either (inl same) = inl (current_by s.tree d.claim claim is same)
    either (inr fenced) = inr fenced

-- ---- a write that is taken

-- what a driver has left that has written
record Written (target : Recorded) (more : List Op → Stage) (last : Stage) (before : ℕ) : Type 0 where
  more_left : (t : Tree) (l : Log) (d : Driver) (ops : List Op) (n : ℕ) → WritesUpTo t l target before n → LeftAt t l (at_stage (more ops) d) (more ops) n
  last_left : (t : Tree) (l : Log) (d : Driver) (offset : ℤ) (n : ℕ) → Afterwards l offset before n → LeftAt t l (record d { stage = last; recorded = Some offset }) last n

taken_more : (s : Shared) (d : Driver) (target : Recorded) (new : Tree) (more : List Op → Stage) (last : Stage) (before writes n : ℕ) → Written target more last before → is_last_write (remaining_at s.tree s.log target.offset) ≡ false
    → remaining_at new s.log target.offset ≡ after_chunk (remaining_at s.tree s.log target.offset)
    → WritesIn writes (remaining_at s.tree s.log target.offset) → Afterwards s.log target.offset (before + writes) (suc n) → Left (record s { tree = new }) (at_stage (more (after_chunk (remaining_at s.tree s.log target.offset))) d) n
taken_more s d target new more last before zero n w earlier same writes after = absurd writes
taken_more s d target new more last before (suc k) n w earlier same (inl end) after = absurd (true_or_false (is_last_write (remaining_at s.tree s.log target.offset)) end earlier)
taken_more s d target new more last before (suc k) n w earlier same (inr rest) after =
    let left : WritesUpTo new s.log target before n = (k, subst (WritesIn k) (sym same) rest, afterwards_nearer s.log target.offset (before + k) (before + suc k) (suc n) n (by before k) after) in
    record {
      some = let least = afterwards_least s.log target.offset (before + suc k) (suc n) after in omega (arith, least);
      at = w.more_left new s.log d (after_chunk (remaining_at s.tree s.log target.offset)) n left;
    }
  where
    by : (b x : ℕ) → suc n + (b + x) ≤ n + (b + suc x)
    by b x = omega arith

taken_last : (s : Shared) (d : Driver) (target : Recorded) (new : Tree) (more : List Op → Stage) (last : Stage) (before writes n : ℕ) → Written target more last before → WritesIn writes (remaining_at s.tree s.log target.offset)
    → Afterwards s.log target.offset (before + writes) (suc n) → Left (record s { tree = new }) (record d { stage = last; recorded = Some target.offset }) n
taken_last s d target new more last before zero n w writes after = absurd writes
taken_last s d target new more last before (suc k) n w writes after = record {
  some = let least = afterwards_least s.log target.offset (before + suc k) (suc n) after in omega (arith, least);
  at = w.last_left new s.log d target.offset n (afterwards_nearer s.log target.offset before (before + suc k) (suc n) n (by before k) after);
}
  where
    by : (b x : ℕ) → suc n + b ≤ n + (b + suc x)
    by b x = omega arith

taken_by : (s : Shared) (d : Driver) (target : Recorded) (new : Tree) (more : List Op → Stage) (last : Stage) (before n : ℕ) (b : Bool) → Written target more last before → is_last_write (remaining_at s.tree s.log target.offset) ≡ b
    → remaining_at new s.log target.offset ≡ after_chunk (remaining_at s.tree s.log target.offset) → WritesUpTo s.tree s.log target before (suc n)
    → Goes (record s { tree = new }) (if◌then◌else◌ {A = Driver × Reply} b (record d { stage = last; recorded = Some target.offset }, reply.Recorded target.offset)
    (at_stage (more (after_chunk (remaining_at s.tree s.log target.offset))) d, reply.Wrote (length (chunk (remaining_at s.tree s.log target.offset))))) n
taken_by s d target new more last before n true w is same left = inr (taken_last s d target new more last before left.0 n w left.1 left.2)
taken_by s d target new more last before n false w is same left = inr (taken_more s d target new more last before left.0 n w is same left.1 left.2)

-- ---- any write

-- what a write gives that isn't taken
write_ended : (s : Shared) (d : Driver) (claim : ℤ) (target : Recorded) (ops : List Op) (more : List Op → Stage) (last : Stage) (n : ℕ) (f : TreeFault) → ((index : ℕ) (c : ℤ) → f ≡ tree_fault.Refused index c → is_claim_refused index c ≡ true)
    → Goes s (after_write claim ops target more last d (Err f)) n
write_ended s d claim target ops more last n (tree_fault.Refused index c) fenced =
    inl (ap (λ (b : Bool). Rattle.kz_spec_machine.specs.Machine.ends (if◌then◌else◌ {A = Driver × Reply} b (resigned_driver d, reply.FencedWrite claim) (begins_again d, reply.Moved state.BecomeController)).1) (fenced index c refl))
write_ended s d claim target ops more last n (tree_fault.Limit index number) fenced = inl refl
write_ended s d claim target ops more last n tree_fault.NoMemory fenced = inl refl
write_ended s d claim target ops more last n tree_fault.Device fenced = inl refl
write_ended s d claim target ops more last n tree_fault.Down fenced = inl refl
write_ended s d claim target ops more last n (tree_fault.Full length) fenced = inl refl

abbrev Outcome : Shared → Driver → ℤ → Recorded → (List Op → Stage) → Stage → ℕ → Result Tree TreeFault → Type 0
Outcome s d claim target more last n r = Goes (with_tree s r) (after_write claim (remaining_at s.tree s.log target.offset) target more last d r) n

same_refusal : (i j : ℕ) (c e : ℤ) → tree_fault.Refused i c ≡ tree_fault.Refused j e → is_claim_refused i c ≡ is_claim_refused j e
same_refusal i j c e is = let first : i ≡ j = cc in let second : c ≡ e = cc in ap (λ (x : ℕ). is_claim_refused x c) first ∙ ap (is_claim_refused j) second

current_outcome : (s : Shared) (d : Driver) (claim : ℤ) (target : Recorded) (more : List Op → Stage) (last : Stage) (before n : ℕ) (r : Result Tree TreeFault) → Written target more last before
    → multi s.tree (write_ops claim (remaining_at s.tree s.log target.offset) target) ≡ r → IsSharedSound s
    → ((index : ℕ) (c : ℤ) → multi s.tree (write_ops claim (remaining_at s.tree s.log target.offset) target) ≢ Err (tree_fault.Refused index c)) → WritesUpTo s.tree s.log target before (suc n) → Outcome s d claim target more last n r
current_outcome s d claim target more last before n (Ok new) w is kept taken left =
    taken_by s d target new more last before n (is_last_write (remaining_at s.tree s.log target.offset)) w refl (remaining_after_write s.tree new (image_at s.log target.offset) claim target kept.tree is) left
current_outcome s d claim target more last before n (Err f) w is kept taken left =
    write_ended s d claim target (remaining_at s.tree s.log target.offset) more last n f (λ index c same. absurd (taken index c (is ∙ ap (λ (x : TreeFault). Err x) same)))

fenced_outcome : (s : Shared) (d : Driver) (claim : ℤ) (target : Recorded) (more : List Op → Stage) (last : Stage) (n : ℕ) (f : IsFenced s.tree (write_ops claim (remaining_at s.tree s.log target.offset) target)) → Outcome s d claim target more last n (Err (tree_fault.Refused 0 f.code))
fenced_outcome s d claim target more last n f =
    write_ended s d claim target (remaining_at s.tree s.log target.offset) more last n (tree_fault.Refused 0 f.code) (λ index c same. sym (same_refusal 0 index f.code c same) ∙ f.told)

write_outcome : (s : Shared) (d : Driver) (claim : ℤ) (target : Recorded) (more : List Op → Stage) (last : Stage) (before n : ℕ) → Written target more last before → IsSharedSound s
    → IsCurrent s.tree d.claim ⊎ IsFenced s.tree (write_ops claim (remaining_at s.tree s.log target.offset) target)
    → (IsCurrent s.tree d.claim → (index : ℕ) (c : ℤ) → multi s.tree (write_ops claim (remaining_at s.tree s.log target.offset) target) ≢ Err (tree_fault.Refused index c))
    → (IsCurrent s.tree d.claim → WritesUpTo s.tree s.log target before (suc n)) → Outcome s d claim target more last n (multi s.tree (write_ops claim (remaining_at s.tree s.log target.offset) target))
write_outcome s d claim target more last before n w kept (inl current) taken left = current_outcome s d claim target more last before n (multi s.tree (write_ops claim (remaining_at s.tree s.log target.offset) target)) w refl kept (taken current) (left current)
write_outcome s d claim target more last before n w kept (inr fenced) taken left = subst (Outcome s d claim target more last n) (sym fenced.made) (fenced_outcome s d claim target more last n fenced)

-- ---- a step that writes

-- what a driver with this claim does
writes_goes : (s : Shared) (now : ℤ) (d : Driver) (m : Option ℤ) (target : Recorded) (more : List Op → Stage) (last : Stage) (before n : ℕ) → Written target more last before → d.claim ≡ m → m ≢ None → IsSharedSound s → IsSoundDriver s d
    → (IsCurrent s.tree d.claim → (ops : List Op) → write_request m (remaining_at s.tree s.log target.offset) target ≡ write ops → (index : ℕ) (c : ℤ) → multi s.tree ops ≢ Err (tree_fault.Refused index c))
    → (IsCurrent s.tree d.claim → WritesUpTo s.tree s.log target before (suc n))
    → Goes (shared_after s (epoch_or_zero d.epoch) now (write_request m (remaining_at s.tree s.log target.offset) target)) (writes s.tree m (remaining_at s.tree s.log target.offset) target more last d) n
writes_goes s now d None target more last before n w is some kept fine taken left = absurd (some refl)
writes_goes s now d (Some claim) target more last before n w is some kept fine taken left =
    let ops : List Op = write_ops claim (remaining_at s.tree s.log target.offset) target in
    write_outcome s d claim target more last before n w kept (current_or_fenced s d claim (remaining_at s.tree s.log target.offset) target fine is) (λ current. taken current ops refl) left

resync_written : (target : Recorded) → Written target (λ rest. stage.WriteResync target rest) stage.KraftControllerToBrokerComm 1
resync_written target = record {
  more_left = λ t l d ops n left. λ c. left;
  last_left = λ t l d offset n after. (let least = afterwards_least l offset 1 n after in omega (arith, least), λ c. (offset, refl, after));
}

delta_written : (target : Recorded) → Written target (λ rest. stage.WriteDelta target rest) stage.DualWrite 0
delta_written target = record {
  more_left = λ t l d ops n left. λ c. left;
  last_left = λ t l d offset n after. (let least = afterwards_least l offset 0 n after in omega (arith, least), λ c. (offset, refl, after));
}

may_write : (s : Shared) (d : Driver) (x : Stage) → d.stage ≡ x → IsWriting x → IsSharedSound s → IsSoundDriver s d → (d.claim ≢ None → HasBases s.tree) → IsCurrent s.tree d.claim → MayWrite s d
may_write s d x at writing kept fine bases current = record { kept = kept; fine = fine; bases = bases current.1; claim = current; stage = subst IsWriting (sym at) writing }

pub goes_resync_written : (s : Shared) (now : ℤ) (d : Driver) (target : Recorded) (ops : List Op) (n : ℕ) → d.stage ≡ stage.WriteResync target ops → IsSharedSound s → IsSoundDriver s d → (d.claim ≢ None → HasBases s.tree)
    → (IsCurrent s.tree d.claim → WritesUpTo s.tree s.log target 1 (suc n))
    → Goes (shared_after s (epoch_or_zero d.epoch) now (write_request d.claim (remaining_at s.tree s.log target.offset) target))
    (writes s.tree d.claim (remaining_at s.tree s.log target.offset) target (λ rest. stage.WriteResync target rest) stage.KraftControllerToBrokerComm d) n
goes_resync_written s now d target ops n at kept fine bases left =
    let held : AtStage s.tree s.log d (stage.WriteResync target ops) = subst (AtStage s.tree s.log d) at fine.stage in
    writes_goes s now d d.claim target (λ rest. stage.WriteResync target rest) stage.KraftControllerToBrokerComm 1 n (resync_written target) refl held.0.claimed kept fine
    (λ current asked made. writes_taken s d (may_write s d (stage.WriteResync target ops) at tt kept fine bases current) now asked (ap (request_at s now d) at ∙ made)) left

pub goes_delta_written : (s : Shared) (now : ℤ) (d : Driver) (target : Recorded) (ops : List Op) (n : ℕ) → d.stage ≡ stage.WriteDelta target ops → IsSharedSound s → IsSoundDriver s d → (d.claim ≢ None → HasBases s.tree)
    → (IsCurrent s.tree d.claim → WritesUpTo s.tree s.log target 0 (suc n))
    → Goes (shared_after s (epoch_or_zero d.epoch) now (write_request d.claim (remaining_at s.tree s.log target.offset) target))
    (writes s.tree d.claim (remaining_at s.tree s.log target.offset) target (λ rest. stage.WriteDelta target rest) stage.DualWrite d) n
goes_delta_written s now d target ops n at kept fine bases left =
    let held : AtStage s.tree s.log d (stage.WriteDelta target ops) = subst (AtStage s.tree s.log d) at fine.stage in
    writes_goes s now d d.claim target (λ rest. stage.WriteDelta target rest) stage.DualWrite 0 n (delta_written target) refl held.0.claimed kept fine
    (λ current asked made. writes_taken s d (may_write s d (stage.WriteDelta target ops) at tt kept fine bases current) now asked (ap (request_at s now d) at ∙ made)) left
