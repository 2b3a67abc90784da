-- A connection to a store: what a plan makes of a request, and what the request did to the store's disk.
use Rattle.std.specs.Prelude.{◌≡◌, ℕ, ⊤}
use Rattle.kz_types.specs.Causes.{Rose}
use Rattle.kz_types.specs.declared.plan.Plan.{Plan}
use Rattle.kz_types.specs.declared.plan.Plan.TheVariants as plan
use Rattle.kz_spec_data.specs.Requests.{Disk, StoreAnswer}

-- The store, the plan for the next request, and how often a request wasn't answered.
pub record Wired (T : Type 0) : Type 0 where
  pub inner : T
  pub plan : Plan
  pub faults : ℕ

-- The plan of a store that knows no sessions: a request is delivered where the session had expired.
abbrev pub without_sessions : Plan → Plan
without_sessions plan.Deliver = plan.Deliver
without_sessions plan.LostBefore = plan.LostBefore
without_sessions plan.LostAfter = plan.LostAfter
without_sessions plan.Expired = plan.Deliver

-- What comes of a request over a connection.
pub data Arrival : Type 0 where
  Answered : StoreAnswer → Arrival  -- the store's answer
  Lost : Arrival  -- the request or its answer was lost
  Expired : Arrival  -- the session had expired

-- How often a request wasn't answered: once more where nothing arrived of this one.
abbrev pub Counts : Arrival → ℕ → ℕ → Type 0
Counts (Answered answer) old new = new ≡ old
Counts Lost old new = Rose old new
Counts Expired old new = Rose old new

-- After a request: its plan is spent, so the next request is delivered, and the count tells whether it was answered.
abbrev pub IsSpent : {T : Type 0} → Arrival → Wired T → Wired T → Type 0
IsSpent arrival old new = (new.plan ≡ plan.Deliver) × Counts arrival old.faults new.faults

-- the store's answer arrived
abbrev pub IsAnswered : Arrival → Type 0
IsAnswered (Answered answer) = ⊤
IsAnswered Lost = ⊥
IsAnswered Expired = ⊥

-- How a request ends by its plan. `still` says that the store is as it was, and `unanswered` what is so where the request
-- arrives and its answer is lost.
abbrev pub EndsBy : Plan → Arrival → Type 0 → Type 0 → Type 0
EndsBy plan.Deliver arrival still unanswered = IsAnswered arrival
EndsBy plan.LostBefore arrival still unanswered = (arrival ≡ Lost) × still
EndsBy plan.LostAfter arrival still unanswered = unanswered
EndsBy plan.Expired arrival still unanswered = (arrival ≡ Expired) × still

-- What a request did to the store's disk, which `Changes` says for each answer of the store: by the answer that arrived, by
-- the store's own answer where that was lost, and nothing where the request didn't arrive.
abbrev pub OverConnection : (StoreAnswer → Disk → Disk → Type 0) → StoreAnswer → Plan → Arrival → Disk → Disk → Type 0
OverConnection Changes own plan.Deliver (Answered answer) old new = Changes answer old new
OverConnection Changes own plan.Deliver Lost old new = ⊥
OverConnection Changes own plan.Deliver Expired old new = ⊥
OverConnection Changes own plan.LostBefore arrival old new = new ≡ old
OverConnection Changes own plan.LostAfter (Answered answer) old new = Changes answer old new
OverConnection Changes own plan.LostAfter Lost old new = Changes own old new
OverConnection Changes own plan.LostAfter Expired old new = ⊥
OverConnection Changes own plan.Expired arrival old new = new ≡ old
