-- What a stop leaves where a step failed.
use Rattle.std.proofs.Common.{◌≡◌, ◌⊎◌, inl, inr, ℤ, Bool, true, false, if◌then◌else◌, List, [], ◌∷◌, Option, Some, Result, Ok, Err, refl, sym, ap, ◌∙◌, subst, arith}
use Rattle.std.specs.Prelude.{Contains}
use Rattle.std.proofs.lemmas.List.Elements.{All-nil, All-cons, All-contains, Contains-append_right, Contains-append_cases}
use Rattle.kz_types.specs.declared.plan.Plan.{Plan}
use Rattle.kz_types.specs.declared.fault.TreeFault.{TreeFault}
use Rattle.kz_types.specs.declared.fault.LogFault.{LogFault}
use Rattle.kz_types.specs.declared.machine.Reply.{Reply}
use Rattle.kz_spec_data.specs.Tree.{Tree, multi}
use Rattle.kz_spec_data.specs.Log.{Log, append}
use Rattle.kz_spec_data.specs.Requests.{Disk, Only, Either}
use Rattle.kz_spec_machine.specs.Driver.{Shared, Driver, Request, nothing, write, add, with_tree, with_log, shared_after, reaches_store, epoch_or_zero, request_at, step_of_request, planned_step}
use Rattle.kz_spec_machine.specs.Machine.{Pair, pair_of, pairs_after, step_pairs}
use Rattle.kz_requests.specs.declared.fault.StepFault.{StepFault}
use Rattle.kz_driver.specs.Disks.{Disks, StepLeaves}
use Rattle.kz_world_parts.specs.TurnStops.{AreUp, LeavesOneOf}
use Rattle.kz_world_parts.proofs.Requests.{StaysUpUnless, tree_failed, log_failed, StayUp}

-- ---- lists of pairs

-- the first is among them
pub first_of_all : (pair : Pair) (rest : List Pair) → Contains (pair ∷ rest) pair
first_of_all pair rest = (0, omega arith, refl)

none_of_none : (pair : Pair) → Contains [] pair → ⊥
none_of_none pair h = omega (arith, h.1)

-- what is among a pair and a list of them
pub among_both : (first : Pair) (rest more : List Pair) (pair : Pair) → Contains more first → (Contains rest pair → Contains more pair) → Contains (first ∷ rest) pair → Contains more pair
among_both first rest more pair head tail h = by_place (Contains-append_cases (first ∷ []) rest pair h)
  where
    by_place : Contains (first ∷ []) pair ⊎ Contains rest pair → Contains more pair
    by_place (inl one) = All-contains (λ (x : Pair). Contains more x) (first ∷ []) pair (All-cons (λ (x : Pair). Contains more x) first [] head (All-nil (λ (x : Pair). Contains more x))) one
    by_place (inr other) = tail other

-- a stop leaves one of more pairs
pub leaves_more : (pairs more : List Pair) (tree_left : Option Tree → Type 0) (log_left : Option Log → Type 0) → ((pair : Pair) → Contains pairs pair → Contains more pair) → LeavesOneOf pairs tree_left log_left → LeavesOneOf more tree_left log_left
leaves_more pairs more tree_left log_left among h t l in_tree in_log =
    let found = h t l in_tree in_log in
    (found.0, among found.0 found.1, found.2, found.3)

-- ---- a step

-- a step changes the tree or the log, and not both
abbrev OneStays : Shared → Shared → Type 0
OneStays s q = (q.log ≡ s.log) ⊎ (q.tree ≡ s.tree)

chosen : (b : Bool) (s q : Shared) → OneStays s q → OneStays s (if b then q else s)
chosen true s q h = h
chosen false s q h = inl refl

tree_changed : (s : Shared) (made : Result Tree TreeFault) → OneStays s (with_tree s made)
tree_changed s (Ok t) = inl refl
tree_changed s (Err f) = inl refl

log_changed : (s : Shared) (made : Result Log LogFault) → OneStays s (with_log s made)
log_changed s (Ok l) = inr refl
log_changed s (Err f) = inr refl

after_request : (s : Shared) (epoch now : ℤ) (request : Request) → OneStays s (shared_after s epoch now request)
after_request s epoch now (write ops) = tree_changed s (multi s.tree ops)
after_request s epoch now (add records) = log_changed s (append s.log epoch now records)
after_request s epoch now request = inl refl

one_stays : (p : Plan) (s : Shared) (running : List ℤ) (now : ℤ) (d : Driver) → OneStays s (planned_step p s running now d).shared
unfolding planned_step
one_stays p s running now d =
    let request = request_at s now d d.stage in
    chosen (reaches_store p request) s (shared_after s (epoch_or_zero d.epoch) now request) (after_request s (epoch_or_zero d.epoch) now request)

-- a step without a request leaves the pair
same_pair : (b : Bool) (s : Shared) → pair_of (if b then s else s) ≡ pair_of s
same_pair true s = refl
same_pair false s = refl

after_pairs : (p : Plan) (s : Shared) (running : List ℤ) (now : ℤ) (d : Driver) (request : Request) → Contains (pair_of s ∷ pairs_after request (step_of_request p s running now d request).shared) (pair_of (step_of_request p s running now d request).shared)
after_pairs p s running now d nothing = subst (λ (x : Pair). Contains (pair_of s ∷ []) x) (sym (same_pair (reaches_store p nothing) s)) (first_of_all (pair_of s) [])
after_pairs p s running now d request =
    let q = (step_of_request p s running now d request).shared in
    Contains-append_right (pair_of s ∷ []) (pair_of q ∷ []) (pair_of q) (first_of_all (pair_of q) [])

-- What a step leaves is its pair, or, where it makes no request, the pair from before it.
pub pair_after_step : (p : Plan) (s : Shared) (running : List ℤ) (now : ℤ) (d : Driver) → Contains (pair_of s ∷ step_pairs p s running now d) (pair_of (planned_step p s running now d).shared)
unfolding planned_step
pair_after_step p s running now d = after_pairs p s running now d (request_at s now d d.stage)

-- ---- a stop

-- a tree and a log that are those of one of these pairs
abbrev Found : List Pair → Option Tree → Option Log → Type 0
Found pairs t l = (pair : Pair) × Contains pairs pair × (t ≡ Some pair.tree) × (l ≡ Some pair.log)

found_before : (s q : Shared) (t : Option Tree) (l : Option Log) → t ≡ Some s.tree → l ≡ Some s.log → Found (pair_of s ∷ pair_of q ∷ []) t l
found_before s q t l tree log = (pair_of s, first_of_all (pair_of s) (pair_of q ∷ []), tree, log)

found_after : (s q : Shared) (t : Option Tree) (l : Option Log) → t ≡ Some q.tree → l ≡ Some q.log → Found (pair_of s ∷ pair_of q ∷ []) t l
found_after s q t l tree log = (pair_of q, Contains-append_right (pair_of s ∷ []) (pair_of q ∷ []) (pair_of q) (first_of_all (pair_of q) []), tree, log)

found_between : (s q : Shared) (t : Option Tree) (l : Option Log) → OneStays s q → (t ≡ Some s.tree) ⊎ (t ≡ Some q.tree) → (l ≡ Some s.log) ⊎ (l ≡ Some q.log) → Found (pair_of s ∷ pair_of q ∷ []) t l
found_between s q t l one (inl tree) (inl log) = found_before s q t l tree log
found_between s q t l one (inr tree) (inr log) = found_after s q t l tree log
found_between s q t l (inl same) (inl tree) (inr log) = found_before s q t l tree (log ∙ ap (λ (x : Log). Some x) same)
found_between s q t l (inl same) (inr tree) (inl log) = found_after s q t l tree (log ∙ ap (λ (x : Log). Some x) (sym same))
found_between s q t l (inr same) (inl tree) (inr log) = found_after s q t l (tree ∙ ap (λ (x : Tree). Some x) (sym same)) log
found_between s q t l (inr same) (inr tree) (inl log) = found_before s q t l (tree ∙ ap (λ (x : Tree). Some x) same) log

-- the pairs of before and after are those of the step
either_pair : (p : Plan) (s : Shared) (running : List ℤ) (now : ℤ) (d : Driver) (pair : Pair) → Contains (pair_of s ∷ pair_of (planned_step p s running now d).shared ∷ []) pair → Contains (pair_of s ∷ step_pairs p s running now d) pair
either_pair p s running now d pair among =
    let q = pair_of (planned_step p s running now d).shared in
    let all = pair_of s ∷ step_pairs p s running now d in
    among_both (pair_of s) (q ∷ []) all pair (first_of_all (pair_of s) (step_pairs p s running now d)) (λ h. among_both q [] all pair (pair_after_step p s running now d) (λ none. absurd (none_of_none pair none)) h) among

-- A stop leaves each store's value from before the step, or the one that the step would have made.
pub record LeavesEither (s q : Shared) (tree_left : Option Tree → Type 0) (log_left : Option Log → Type 0) : Type 0 where
  pub tree : Either s.tree q.tree tree_left
  pub log : Either s.log q.log log_left

leaves_between : (p : Plan) (s : Shared) (running : List ℤ) (now : ℤ) (d : Driver) (tree_left : Option Tree → Type 0) (log_left : Option Log → Type 0) → LeavesEither s (planned_step p s running now d).shared tree_left log_left → LeavesOneOf (pair_of s ∷ step_pairs p s running now d) tree_left log_left
leaves_between p s running now d tree_left log_left h =
    let q = (planned_step p s running now d).shared in
    leaves_more (pair_of s ∷ pair_of q ∷ []) (pair_of s ∷ step_pairs p s running now d) tree_left log_left (either_pair p s running now d)
    (λ t l in_tree in_log. found_between s q t l (one_stays p s running now d) (h.tree t in_tree) (h.log l in_log))

-- While a store is up, a stop leaves its value and nothing else.
pub record Settled (s : Shared) (disks : Disks) (tree_left : Option Tree → Type 0) (log_left : Option Log → Type 0) : Type 0 where
  pub tree : disks.tree.down ≡ false → Only s.tree tree_left
  pub log : disks.log.down ≡ false → Only s.log log_left

-- a stop leaves this pair, where neither store is down
pub leaves_present : (s : Shared) (rest : List Pair) (disks : Disks) (tree_left : Option Tree → Type 0) (log_left : Option Log → Type 0) → Settled s disks tree_left log_left → AreUp disks → LeavesOneOf (pair_of s ∷ rest) tree_left log_left
leaves_present s rest disks tree_left log_left settled up t l in_tree in_log = (pair_of s, first_of_all (pair_of s) rest, settled.tree up.tree t in_tree, settled.log up.log l in_log)

-- a store that was up, by its failure
by_failure : {V : Type 0} (failure outcome : Result Reply StepFault) (before after : V) (old new : Disk) (left : Option V → Type 0) → (outcome ≡ failure → Either before after left) → old.down ≡ false → (new.down ≡ false → Only before left) → StaysUpUnless failure outcome old new → Either before after left
by_failure failure outcome before after old new left failed up settled (inl fails) = failed fails
by_failure failure outcome before after old new left failed up settled (inr stays) = λ found in_left. inl (settled (stays ∙ up) found in_left)

-- Where a step failed and neither store was down before, a stop leaves the pair from before it, or one of the step's.
pub failed_step_leaves : (p : Plan) (s : Shared) (running : List ℤ) (now : ℤ) (d : Driver) (outcome : Result Reply StepFault) (old new : Disks) (tree_left : Option Tree → Type 0) (log_left : Option Log → Type 0) → StayUp outcome old new → StepLeaves outcome s (planned_step p s running now d).shared tree_left log_left → AreUp old → Settled s new tree_left log_left
    → LeavesOneOf (pair_of s ∷ step_pairs p s running now d) tree_left log_left
failed_step_leaves p s running now d outcome old new tree_left log_left stay stop up settled =
    let q = (planned_step p s running now d).shared in
    let leaves = λ (x : Result Reply StepFault). StepLeaves x s q tree_left log_left in
    leaves_between p s running now d tree_left log_left (record {
      tree = by_failure tree_failed outcome s.tree q.tree old.tree new.tree tree_left (λ fails. subst leaves fails stop) up.tree settled.tree stay.tree;
      log = by_failure log_failed outcome s.log q.log old.log new.log log_left (λ fails. subst leaves fails stop) up.log settled.log stay.log;
    })
