-- A turn of a sound driver, step by step.
use Rattle.std.proofs.Common.{◌≡◌, inl, inr, ℕ, zero, suc, ◌<◌, Bool, true, false, if◌then◌else◌, ℤ, List, [], ◌∷◌, ◌++◌, length, Option, Err, refl, sym, ap, subst, ◌∙◌, arith, append-nil}
use Rattle.std.specs.List.{list_any}
use Rattle.kz_types.specs.declared.plan.Plan.TheVariants as plan
use Rattle.kz_types.specs.declared.machine.Reply.{Reply}
use Rattle.kz_types.specs.declared.machine.Reply.TheVariants as reply
use Rattle.kz_spec_data.specs.Tree.{Tree}
use Rattle.kz_spec_data.specs.Log.{Log}
use Rattle.kz_spec_data.specs.Requests.{Disk}
use Rattle.kz_spec_machine.specs.Driver.{Shared, Driver, StepResult, planned_step, step, epoch_or_zero, Request, nothing}
use Rattle.kz_spec_machine.specs.Machine.{Pair, pair_of, step_pairs, TurnResult, ends, turn, with_reply}
use Rattle.kz_spec_machine.specs.Failures.{is_failed_step, IsCutOff}
use Rattle.kz_laws_events.specs.Steps.{StepKeeps}
use Rattle.kz_laws_events.proofs.Named.{IsOf}
use Rattle.kz_laws_events.proofs.Turned.{one_step, turn_keeps, turn_own}
use Rattle.kz_connection.specs.Connections.{Wired}
use Rattle.kz_requests.specs.declared.fault.StepFault.TheVariants as step_fault
use Rattle.kz_driver.specs.Disks.{Disks, disks_of, Payloads, RequestDisks}
use Rattle.kz_driver.specs.Steps.{shared_over, made_request, KeepsViews}
use Rattle.kz_world_parts.specs.Pairs.{IsSoundPair}
use Rattle.kz_world_parts.specs.TurnDisks.{StepRequestDisks, TurnDisks}
use Rattle.kz_world_parts.specs.TurnStops.{AreUp, LeavesOneOf, last_step_pairs}
use Rattle.kz_world_parts.specs.Steps.{StepEnds, TurnEnds}
use Rattle.kz_world_parts.proofs.Replies.{goes_on}
use Rattle.kz_world_parts.proofs.Requests.{step_keeps_up}
use Rattle.kz_world_parts.proofs.TurnStops.{Settled, leaves_present}

-- ---- one step of a turn

abbrev stepped : Shared → Driver → Reply → StepResult
stepped s d r = record { shared = s; driver = d; reply = r }

abbrev turned : Shared → Driver → List Reply → TurnResult
turned s d rs = record { shared = s; driver = d; replies = rs }

-- a turn by its first step
abbrev by_step : ℕ → List ℤ → ℤ → StepResult → TurnResult
by_step n running now x = if ends x.reply then turned x.shared x.driver (x.reply ∷ []) else with_reply x.reply (turn n x.shared running now x.driver)

first_step : (n : ℕ) (s : Shared) (running : List ℤ) (now : ℤ) (d : Driver) → turn (suc n) s running now d ≡ by_step n running now (step s running now d)
unfolding turn
first_step n s running now d = refl

ends_at : (n : ℕ) (s : Shared) (running : List ℤ) (now : ℤ) (d : Driver) (t : Shared) (e : Driver) (r : Reply) → step s running now d ≡ stepped t e r → ends r ≡ true → turn (suc n) s running now d ≡ turned t e (r ∷ [])
ends_at n s running now d t e r is last = first_step n s running now d ∙ ap (by_step n running now) is ∙ ap (λ b. if b then turned t e (r ∷ []) else with_reply r (turn n t running now e)) last

goes_on_at : (n : ℕ) (s : Shared) (running : List ℤ) (now : ℤ) (d : Driver) (t : Shared) (e : Driver) (r : Reply) → step s running now d ≡ stepped t e r → ends r ≡ false → turn (suc n) s running now d ≡ with_reply r (turn n t running now e)
goes_on_at n s running now d t e r is more = first_step n s running now d ∙ ap (by_step n running now) is ∙ ap (λ b. if b then turned t e (r ∷ []) else with_reply r (turn n t running now e)) more

step_is : (s : Shared) (running : List ℤ) (now : ℤ) (d : Driver) (x : StepResult) → planned_step plan.Deliver s running now d ≡ x → step s running now d ≡ x
unfolding step
step_is s running now d x is = is

-- a step keeps what is sound
sound_after : (s : Shared) (running : List ℤ) (now : ℤ) (d : Driver) (t : Shared) (e : Driver) (r : Reply) → step s running now d ≡ stepped t e r → IsSoundPair s now d → IsSoundPair t now e
sound_after s running now d t e r is sound =
    let keeps : StepKeeps s d t e = subst (λ (x : StepResult). StepKeeps s d x.shared x.driver) is (one_step s running now d sound.time sound.shared sound.driver) in
    record { time = sound.time; shared = keeps.shared; driver = keeps.driver }

-- ---- the steps so far

-- What is shared, the driver, and the disks, at a moment of a turn.
pub record Moment : Type 0 where
  pub shared : Shared
  pub driver : Driver
  pub disks : Disks

-- over two connections, each of whose stores is told by these functions of it
abbrev pub moment_over : {T L : Type 0} → (T → Tree) → (L → Log) → (T → Disk) → (L → Disk) → List ℤ → Wired T → Wired L → Driver → Moment
moment_over tree_of log_of tree_disk log_disk ids tree log d = record { shared = shared_over tree_of log_of ids tree log; driver = d; disks = disks_of (tree_disk tree.inner) (log_disk log.inner) }

-- what is shared and the driver are sound
abbrev pub IsSoundAt : ℤ → Moment → Type 0
IsSoundAt now m = IsSoundPair m.shared now m.driver

-- what a step with this reply does to the disks
abbrev pub StepMoves : Payloads → ℤ → Moment → Reply → Moment → Type 0
StepMoves payloads now m r n = StepRequestDisks plan.Deliver m.shared now m.driver payloads r m.disks n.disks

-- how a step with this reply ends
abbrev pub EndsAs : List ℤ → ℤ → Moment → Reply → Moment → Type 0
EndsAs running now m r n = IsSoundAt now m → StepEnds plan.Deliver m.shared running now m.driver r n.shared n.driver

-- one step, which didn't end the turn
pub record IsStep (payloads : Payloads) (running : List ℤ) (now : ℤ) (m : Moment) (r : Reply) (n : Moment) : Type 0 where
  pub made : step m.shared running now m.driver ≡ stepped n.shared n.driver r
  pub on : ends r ≡ false
  pub moves : StepMoves payloads now m r n

-- such steps with these replies, one after another
abbrev pub AreSteps : Payloads → List ℤ → ℤ → Moment → List Reply → Moment → Type 0
AreSteps payloads running now m [] n = m ≡ n
AreSteps payloads running now m (r ∷ rs) n = (mid : Moment) × IsStep payloads running now m r mid × AreSteps payloads running now mid rs n

one_more : (payloads : Payloads) (running : List ℤ) (now : ℤ) (m : Moment) (rs : List Reply) (n : Moment) (r : Reply) (o : Moment) → AreSteps payloads running now m rs n → IsStep payloads running now n r o → AreSteps payloads running now m (rs ++ r ∷ []) o
one_more payloads running now m [] n r o same is = (o, subst (λ x. IsStep payloads running now x r o) (sym same) is, refl)
one_more payloads running now m (q ∷ qs) n r o h is = (h.0, h.1, one_more payloads running now h.0 qs n r o h.2 is)

-- they keep what is sound
sound_still : (payloads : Payloads) (running : List ℤ) (now : ℤ) (m : Moment) (rs : List Reply) (n : Moment) → AreSteps payloads running now m rs n → IsSoundAt now m → IsSoundAt now n
sound_still payloads running now m [] n same sound = subst (IsSoundAt now) same sound
sound_still payloads running now m (q ∷ qs) n h sound = sound_still payloads running now h.0 qs n h.2 (sound_after m.shared running now m.driver h.0.shared h.0.driver q h.1.made sound)

-- and leave both stores up
up_still : (payloads : Payloads) (running : List ℤ) (now : ℤ) (m : Moment) (rs : List Reply) (n : Moment) → AreSteps payloads running now m rs n → AreUp m.disks → AreUp n.disks
up_still payloads running now m [] n same up = subst (λ (x : Moment). AreUp x.disks) same up
up_still payloads running now m (q ∷ qs) n h up = up_still payloads running now h.0 qs n h.2 (step_keeps_up plan.Deliver m.shared now m.driver payloads q m.disks h.0.disks (goes_on q h.1.on) h.1.moves up)

-- A further step.
pub further : (payloads : Payloads) (running : List ℤ) (now : ℤ) (m : Moment) (rs : List Reply) (n : Moment) (r : Reply) (o : Moment) → ends r ≡ false → EndsAs running now n r o → StepMoves payloads now n r o → AreSteps payloads running now m rs n → IsSoundAt now m → AreSteps payloads running now m (rs ++ r ∷ []) o
further payloads running now m rs n r o on end moves steps sound =
    let made = (end (sound_still payloads running now m rs n steps sound)).done (goes_on r on) in
    one_more payloads running now m rs n r o steps (record { made = step_is n.shared running now n.driver (stepped o.shared o.driver r) made; on = on; moves = moves })

-- ---- what the steps so far say of the turn

-- as many steps as the turn may have
all_steps : (payloads : Payloads) (running : List ℤ) (now : ℤ) (m : Moment) (rs : List Reply) (n : Moment) → AreSteps payloads running now m rs n → turn (length rs) m.shared running now m.driver ≡ turned n.shared n.driver rs
unfolding turn
all_steps payloads running now m [] n same = ap (λ (x : Moment). turned x.shared x.driver []) same
all_steps payloads running now m (q ∷ qs) n h =
    goes_on_at (length qs) m.shared running now m.driver h.0.shared h.0.driver q h.1.made h.1.on ∙ ap (with_reply q) (all_steps payloads running now h.0 qs n h.2)

-- the last step ends the turn
last_step : (payloads : Payloads) (running : List ℤ) (now : ℤ) (most : ℕ) (m : Moment) (rs : List Reply) (n : Moment) (r : Reply) (t : Shared) (e : Driver) → length rs < most → AreSteps payloads running now m rs n → step n.shared running now n.driver ≡ stepped t e r → ends r ≡ true
    → turn most m.shared running now m.driver ≡ turned t e (rs ++ r ∷ [])
last_step payloads running now zero m rs n r t e few h is last = absurd (omega (arith, few))
last_step payloads running now (suc k) m [] n r t e few same is last =
    ends_at k m.shared running now m.driver t e r (ap (λ (x : Moment). step x.shared running now x.driver) same ∙ is) last
last_step payloads running now (suc k) m (q ∷ qs) n r t e few h is last =
    goes_on_at k m.shared running now m.driver h.0.shared h.0.driver q h.1.made h.1.on ∙ ap (with_reply q) (last_step payloads running now k h.0 qs n r t e (omega (arith, few)) h.2 is last)

-- a step that went on, before a turn that was cut off
cut_after : (k : ℕ) (s : Shared) (running : List ℤ) (now : ℤ) (d : Driver) (q : Reply) (mid : Shared) (next : Driver) (rest : List Reply) (t : Shared) (e : Driver) → step s running now d ≡ stepped mid next q → ends q ≡ false
    → IsCutOff k mid running now next rest t e → IsCutOff (suc k) s running now d (q ∷ rest) t e
unfolding IsCutOff
cut_after zero s running now d q mid next [] t e is on h = absurd h
cut_after (suc k) s running now d q mid next [] t e is on h = absurd h
cut_after k s running now d q mid next (p ∷ ps) t e is on h =
    (sym (ap (λ (x : StepResult). x.reply) is), on, subst (λ (x : StepResult). IsCutOff k x.shared running now x.driver (p ∷ ps) t e) (sym is) h)

-- a step fails
fails_here : (k : ℕ) (s : Shared) (running : List ℤ) (now : ℤ) (d : Driver) (r : Reply) (t : Shared) (e : Driver) → is_failed_step r ≡ true → (t ≡ s) × (e ≡ d) → IsCutOff (suc k) s running now d (r ∷ []) t e
unfolding IsCutOff
fails_here k s running now d r t e failed left = (failed, left.0, left.1)

cut_step : (payloads : Payloads) (running : List ℤ) (now : ℤ) (most : ℕ) (m : Moment) (rs : List Reply) (n : Moment) (r : Reply) (t : Shared) (e : Driver) → length rs < most → AreSteps payloads running now m rs n → is_failed_step r ≡ true → (t ≡ n.shared) × (e ≡ n.driver)
    → IsCutOff most m.shared running now m.driver (rs ++ r ∷ []) t e
cut_step payloads running now zero m rs n r t e few h failed left = absurd (omega (arith, few))
cut_step payloads running now (suc k) m [] n r t e few same failed left =
    fails_here k m.shared running now m.driver r t e failed (subst (λ (x : Moment). (t ≡ x.shared) × (e ≡ x.driver)) (sym same) left)
cut_step payloads running now (suc k) m (q ∷ qs) n r t e few h failed left =
    cut_after k m.shared running now m.driver q h.0.shared h.0.driver (qs ++ r ∷ []) t e h.1.made h.1.on (cut_step payloads running now k h.0 qs n r t e (omega (arith, few)) h.2 failed left)

-- the replies of these steps tell of no failure
no_failure : (payloads : Payloads) (running : List ℤ) (now : ℤ) (m : Moment) (rs : List Reply) (n : Moment) (rest : List Reply) → AreSteps payloads running now m rs n → list_any is_failed_step rest ≡ false → list_any is_failed_step (rs ++ rest) ≡ false
no_failure payloads running now m [] n rest same h = h
no_failure payloads running now m (q ∷ qs) n rest steps h = rw (goes_on q steps.1.on) (no_failure payloads running now steps.0 qs n rest steps.2 h)

-- what all steps do to the disks
all_disks : (payloads : Payloads) (running : List ℤ) (now : ℤ) (m : Moment) (rs : List Reply) (n : Moment) (rest : List Reply) (new : Disks) → AreSteps payloads running now m rs n → TurnDisks n.shared running now n.driver payloads rest n.disks new
    → TurnDisks m.shared running now m.driver payloads (rs ++ rest) m.disks new
all_disks payloads running now m [] n rest new same h = subst (λ (x : Moment). TurnDisks x.shared running now x.driver payloads rest x.disks new) (sym same) h
all_disks payloads running now m (q ∷ qs) n rest new steps h = (
  steps.0.disks,
  steps.1.moves,
  subst (λ (x : StepResult). TurnDisks x.shared running now x.driver payloads (qs ++ rest) steps.0.disks new) (sym steps.1.made) (all_disks payloads running now steps.0 qs n rest new steps.2 h),
)

-- and a last one
last_disks : (payloads : Payloads) (running : List ℤ) (now : ℤ) (m : Moment) (rs : List Reply) (n : Moment) (r : Reply) (o : Moment) → AreSteps payloads running now m rs n → StepMoves payloads now n r o → TurnDisks m.shared running now m.driver payloads (rs ++ r ∷ []) m.disks o.disks
last_disks payloads running now m rs n r o steps moves = all_disks payloads running now m rs n (r ∷ []) o.disks steps (o.disks, moves, refl)

-- The pairs of the last step are those of the step to come.
last_pairs : (payloads : Payloads) (running : List ℤ) (now : ℤ) (m : Moment) (rs : List Reply) (n : Moment) (r : Reply) → AreSteps payloads running now m rs n → last_step_pairs (rs ++ r ∷ []) m.shared running now m.driver ≡ pair_of n.shared ∷ step_pairs plan.Deliver n.shared running now n.driver
unfolding last_step_pairs
last_pairs payloads running now m [] n r same = ap (λ (x : Moment). pair_of x.shared ∷ step_pairs plan.Deliver x.shared running now x.driver) same
last_pairs payloads running now m (q ∷ []) n r h = ap (λ (x : StepResult). last_step_pairs (r ∷ []) x.shared running now x.driver) h.1.made ∙ last_pairs payloads running now h.0 [] n r h.2
last_pairs payloads running now m (q ∷ p ∷ ps) n r h = ap (λ (x : StepResult). last_step_pairs (p ∷ (ps ++ r ∷ [])) x.shared running now x.driver) h.1.made ∙ last_pairs payloads running now h.0 (p ∷ ps) n r h.2

-- what a stop leaves of the step to come
last_leaves : (payloads : Payloads) (running : List ℤ) (now : ℤ) (m : Moment) (rs : List Reply) (n : Moment) (r : Reply) (tree_left : Option Tree → Type 0) (log_left : Option Log → Type 0) → AreSteps payloads running now m rs n → LeavesOneOf (pair_of n.shared ∷ step_pairs plan.Deliver n.shared running now n.driver) tree_left log_left
    → LeavesOneOf (last_step_pairs (rs ++ r ∷ []) m.shared running now m.driver) tree_left log_left
last_leaves payloads running now m rs n r tree_left log_left steps h = subst (λ (ps : List Pair). LeavesOneOf ps tree_left log_left) (sym (last_pairs payloads running now m rs n r steps)) h

-- ---- how a turn ends

-- What a turn tells and leaves, where it began sound.
pub record IsTurn (most : ℕ) (payloads : Payloads) (running : List ℤ) (now : ℤ) (m : Moment) (replies : List Reply) (n : Moment) (tree_left : Option Tree → Type 0) (log_left : Option Log → Type 0) : Type 0 where
  pub ends : TurnEnds most m.shared running now m.driver replies n.shared n.driver
  pub disks : TurnDisks m.shared running now m.driver payloads replies m.disks n.disks
  pub stop : AreUp m.disks → list_any is_failed_step replies ≡ true → LeavesOneOf (last_step_pairs replies m.shared running now m.driver) tree_left log_left

-- what a stop leaves where a step fails
abbrev pub StopsAs : List ℤ → ℤ → Moment → Reply → (Option Tree → Type 0) → (Option Log → Type 0) → Type 0
StopsAs running now m r tree_left log_left = IsSoundAt now m → AreUp m.disks → is_failed_step r ≡ true → LeavesOneOf (pair_of m.shared ∷ step_pairs plan.Deliver m.shared running now m.driver) tree_left log_left

-- There is no memory for the reply of the next step.
out_of_memory : (s : Shared) (epoch now : ℤ) (payloads : Payloads) (request : Request) (disks : Disks) → RequestDisks {A = Reply} s epoch now payloads plan.Deliver request (Err step_fault.NoMemory) disks disks
out_of_memory s epoch now payloads nothing disks = (tt, refl)
out_of_memory s epoch now payloads request disks = (refl, refl)

pub memory_ends : (most : ℕ) (payloads : Payloads) (running : List ℤ) (now : ℤ) (m : Moment) (rs : List Reply) (n : Moment) (tree_left : Option Tree → Type 0) (log_left : Option Log → Type 0) → length rs < most → AreSteps payloads running now m rs n → Settled n.shared n.disks tree_left log_left
    → IsTurn most payloads running now m (rs ++ reply.NoMemory ∷ []) n tree_left log_left
memory_ends most payloads running now m rs n tree_left log_left few steps settled = record {
  ends = inr (cut_step payloads running now most m rs n reply.NoMemory n.shared n.driver few steps refl (refl, refl));
  disks = last_disks payloads running now m rs n reply.NoMemory n steps (out_of_memory n.shared (epoch_or_zero n.driver.epoch) now payloads (made_request n.shared now n.driver n.driver.stage) n.disks);
  stop = λ up any. last_leaves payloads running now m rs n reply.NoMemory tree_left log_left steps (leaves_present n.shared (step_pairs plan.Deliver n.shared running now n.driver) n.disks tree_left log_left settled (up_still payloads running now m rs n steps up));
}

-- The last step: where it doesn't fail, it ends the turn.
last_by : (b : Bool) (most : ℕ) (payloads : Payloads) (running : List ℤ) (now : ℤ) (m : Moment) (rs : List Reply) (n : Moment) (r : Reply) (o : Moment) (tree_left : Option Tree → Type 0) (log_left : Option Log → Type 0) → is_failed_step r ≡ b → length rs < most → ends r ≡ true → StepEnds plan.Deliver n.shared running now n.driver r o.shared o.driver
    → StepMoves payloads now n r o → (AreUp n.disks → is_failed_step r ≡ true → LeavesOneOf (pair_of n.shared ∷ step_pairs plan.Deliver n.shared running now n.driver) tree_left log_left) → AreSteps payloads running now m rs n → IsTurn most payloads running now m (rs ++ r ∷ []) o tree_left log_left
last_by true most payloads running now m rs n r o tree_left log_left is few last end moves stop steps = record {
  ends = inr (cut_step payloads running now most m rs n r o.shared o.driver few steps is (end.failed is));
  disks = last_disks payloads running now m rs n r o steps moves;
  stop = λ up any. last_leaves payloads running now m rs n r tree_left log_left steps (stop (up_still payloads running now m rs n steps up) is);
}
last_by false most payloads running now m rs n r o tree_left log_left is few last end moves stop steps =
    let none : list_any is_failed_step (rs ++ r ∷ []) ≡ false = no_failure payloads running now m rs n (r ∷ []) steps (rw is refl) in
    record {
      ends = inl (last_step payloads running now most m rs n r o.shared o.driver few steps (step_is n.shared running now n.driver (stepped o.shared o.driver r) (end.done is)) last, none);
      disks = last_disks payloads running now m rs n r o steps moves;
      stop = λ up any. absurd (cc);
    }

pub last_ends : (most : ℕ) (payloads : Payloads) (running : List ℤ) (now : ℤ) (m : Moment) (rs : List Reply) (n : Moment) (r : Reply) (o : Moment) (tree_left : Option Tree → Type 0) (log_left : Option Log → Type 0) → length rs < most → ends r ≡ true → EndsAs running now n r o → StepMoves payloads now n r o → StopsAs running now n r tree_left log_left
    → AreSteps payloads running now m rs n → IsSoundAt now m → IsTurn most payloads running now m (rs ++ r ∷ []) o tree_left log_left
last_ends most payloads running now m rs n r o tree_left log_left few last end moves stop steps sound =
    let here = sound_still payloads running now m rs n steps sound in
    last_by (is_failed_step r) most payloads running now m rs n r o tree_left log_left refl few last (end here) moves (stop here) steps

-- All steps that the turn may have are made.
pub all_made : (most : ℕ) (payloads : Payloads) (running : List ℤ) (now : ℤ) (m : Moment) (rs : List Reply) (n : Moment) (tree_left : Option Tree → Type 0) (log_left : Option Log → Type 0) → most ≡ length rs → AreSteps payloads running now m rs n → IsTurn most payloads running now m rs n tree_left log_left
all_made most payloads running now m rs n tree_left log_left count steps =
    let none : list_any is_failed_step rs ≡ false = ap (list_any is_failed_step) (sym (append-nil rs)) ∙ no_failure payloads running now m rs n [] steps refl in
    record {
      ends = inl (ap (λ k. turn k m.shared running now m.driver) count ∙ all_steps payloads running now m rs n steps, none);
      disks = subst (λ (xs : List Reply). TurnDisks m.shared running now m.driver payloads xs m.disks n.disks) (append-nil rs) (all_disks payloads running now m rs n [] n.disks steps refl);
      stop = λ up any. absurd (cc);
    }

-- The same of other words for the time and the replies.
pub told_as : (most : ℕ) (payloads : Payloads) (running : List ℤ) (now at : ℤ) (m : Moment) (replies made : List Reply) (n : Moment) (tree_left : Option Tree → Type 0) (log_left : Option Log → Type 0) → at ≡ now → replies ≡ made → (IsSoundAt at m → IsTurn most payloads running at m made n tree_left log_left)
    → IsSoundAt now m → IsTurn most payloads running now m replies n tree_left log_left
told_as most payloads running now at m replies made n tree_left log_left same are turn =
    subst (λ (x : ℤ). IsSoundAt x m → IsTurn most payloads running x m replies n tree_left log_left) same
    (λ sound. subst (λ (rs : List Reply). IsTurn most payloads running at m rs n tree_left log_left) (sym are) (turn sound))

-- ---- a turn that was cut off

-- It tells of a failure.
pub cut_off_fails : (n : ℕ) (s : Shared) (running : List ℤ) (now : ℤ) (d : Driver) (rs : List Reply) (t : Shared) (e : Driver) → IsCutOff n s running now d rs t e → list_any is_failed_step rs ≡ true
unfolding IsCutOff
cut_off_fails zero s running now d rs t e h = absurd h
cut_off_fails (suc n) s running now d [] t e h = absurd h
cut_off_fails (suc n) s running now d (r ∷ []) t e h = rw h.0 refl
cut_off_fails (suc n) s running now d (r ∷ q ∷ rs) t e h = rw (goes_on r h.1) (cut_off_fails n (step s running now d).shared running now (step s running now d).driver (q ∷ rs) t e h.2)

-- It leaves what a turn of fewer steps leaves.
pub record IsShorter (s : Shared) (running : List ℤ) (now : ℤ) (d : Driver) (t : Shared) (e : Driver) : Type 0 where
  pub steps : ℕ
  pub shared : (turn steps s running now d).shared ≡ t
  pub driver : (turn steps s running now d).driver ≡ e

no_steps : (s : Shared) (running : List ℤ) (now : ℤ) (d : Driver) (t : Shared) (e : Driver) → t ≡ s → e ≡ d → IsShorter s running now d t e
unfolding turn
no_steps s running now d t e shared driver = record { steps = 0; shared = sym shared; driver = sym driver }

a_step_more : (s : Shared) (running : List ℤ) (now : ℤ) (d : Driver) (t : Shared) (e : Driver) → ends (step s running now d).reply ≡ false → IsShorter (step s running now d).shared running now (step s running now d).driver t e → IsShorter s running now d t e
a_step_more s running now d t e on h =
    let x = step s running now d in
    let is : turn (suc h.steps) s running now d ≡ with_reply x.reply (turn h.steps x.shared running now x.driver) = goes_on_at h.steps s running now d x.shared x.driver x.reply refl on in
    record { steps = suc h.steps; shared = ap (λ (y : TurnResult). y.shared) is ∙ h.shared; driver = ap (λ (y : TurnResult). y.driver) is ∙ h.driver }

pub cut_off_is_shorter : (n : ℕ) (s : Shared) (running : List ℤ) (now : ℤ) (d : Driver) (rs : List Reply) (t : Shared) (e : Driver) → IsCutOff n s running now d rs t e → IsShorter s running now d t e
unfolding IsCutOff
cut_off_is_shorter zero s running now d rs t e h = absurd h
cut_off_is_shorter (suc n) s running now d [] t e h = absurd h
cut_off_is_shorter (suc n) s running now d (r ∷ []) t e h = no_steps s running now d t e h.1 h.2
cut_off_is_shorter (suc n) s running now d (r ∷ q ∷ rs) t e h =
    a_step_more s running now d t e (sym (ap ends h.0) ∙ h.1) (cut_off_is_shorter n (step s running now d).shared running now (step s running now d).driver (q ∷ rs) t e h.2)

-- So it keeps what is sound, and the driver is that of its controller.
pub cut_off_keeps : (n : ℕ) (s : Shared) (running : List ℤ) (now : ℤ) (d : Driver) (rs : List Reply) (t : Shared) (e : Driver) → IsCutOff n s running now d rs t e → IsSoundPair s now d → StepKeeps s d t e × IsOf d e
cut_off_keeps n s running now d rs t e cut sound =
    let shorter = cut_off_is_shorter n s running now d rs t e cut in
    let made = turn shorter.steps s running now d in
    let keeps = turn_keeps shorter.steps s running now d sound.time sound.shared sound.driver in
    let own = turn_own shorter.steps s running now d sound.time sound.shared sound.driver in
    (subst (λ (x : Driver). StepKeeps s d t x) shorter.driver (subst (λ (x : Shared). StepKeeps s d x made.driver) shorter.shared keeps), subst (IsOf d) shorter.driver own)

-- ---- the loop

-- What a driver and others know of the log stays right over two steps.
pub keeps_views : (l mid new : Log) (id : ℤ) (next after : Driver) → KeepsViews l mid id next → KeepsViews mid new next.id after → KeepsViews l new id after
keeps_views l mid new id next after one two = record { same_id = two.same_id ∙ one.same_id; own_view = two.own_view; views = λ v h. two.views v (one.views v h) }

-- So many steps of a turn are made, and it goes on from here: the last place of the replies is kept.
pub record IsTurning (made_so_far : ℕ) (replies : List Reply) (payloads : Payloads) (running : List ℤ) (now : ℤ) (first here : Moment) : Type 0 where
  pub made : List Reply
  pub kept : replies ≡ made ++ reply.NoMemory ∷ []
  pub count : length made ≡ made_so_far
  pub steps : IsSoundAt now first → AreSteps payloads running now first made here
  pub views : KeepsViews first.shared.log here.shared.log first.driver.id here.driver
