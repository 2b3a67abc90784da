-- Which events keep a world based.
use Rattle.std.specs.Prelude.{◌≡◌, ◌⊎◌, false, ℤ, List, [], ◌∷◌, Some, All, ⊤}
use Rattle.kz_types.specs.declared.tree.Op.{Op}
use Rattle.kz_types.specs.declared.tree.Op.TheVariants as op
use Rattle.kz_types.specs.declared.driver.Stage.{Stage}
use Rattle.kz_types.specs.declared.driver.Stage.TheVariants as stage
use Rattle.kz_types.specs.declared.machine.Answer.TheVariants as answer
use Rattle.kz_types.specs.declared.machine.Event.{Event}
use Rattle.kz_types.specs.declared.machine.Event.TheVariants as event
use Rattle.kz_types.specs.Paths.{base_paths, is_among}
use Rattle.kz_types.specs.declared.machine.Reply.{Reply}
use Rattle.kz_spec_data.specs.Tree.{Tree}
use Rattle.kz_spec_data.specs.Log.{Log}
use Rattle.kz_spec_machine.specs.Driver.{Driver}
use Rattle.kz_spec_machine.specs.Machine.{World, running_ids, driver_of, turn, work, next, after_events}
use Rattle.kz_spec_machine.specs.Sound.{IsTime, SeesPresent, Each, Sound, Based, IsLawful}
use Rattle.kz_spec_machine.specs.Openings.{opened_world}
use Rattle.kz_laws_bounds.specs.Bounds.{EndsByItself}

-- an operation that isn't the delete of a base znode
abbrev pub DeletesNoBase : Op → Type 0
DeletesNoBase (op.Delete path version) = is_among base_paths path ≡ false
DeletesNoBase o = ⊤

-- A driver at this stage isn't between a look that saw what is there and its claim.
abbrev pub RestsOnNoLook : Tree → Stage → Type 0
RestsOnNoLook t (stage.ClaimLeadership seen) = SeesPresent t seen → ⊥
RestsOnNoLook t x = ⊤

-- An event that isn't a client's multi with such a delete while a driver is between its look and its claim.
abbrev pub LeavesBases : World → Event → Type 0
LeavesBases w (event.Zk ops) = All DeletesNoBase ops ⊎ Each (λ (d : Driver). RestsOnNoLook w.shared.tree d.stage) w.drivers
LeavesBases w e = ⊤

-- Every other event keeps a sound world based.
abbrev pub EventsKeepBased : Type 0
EventsKeepBased = (w : World) (e : Event) → IsLawful e → LeavesBases w e → Sound w → Based w → Based (next w e).0

-- The world in which a run begins is based.
abbrev pub BeginsBased : Type 0
BeginsBased = (t : Tree) (l : Log) → Based (opened_world t l)

-- each event of a run from this world on is such a one
abbrev pub AllLeaveBases : World → List Event → Type 0
AllLeaveBases w [] = ⊤
AllLeaveBases w (e ∷ es) = LeavesBases w e × AllLeaveBases (next w e).0 es

-- A run of such events keeps a sound world based.
abbrev pub RunsKeepBased : Type 0
RunsKeepBased = (es : List Event) (w : World) → All IsLawful es → AllLeaveBases w es → Sound w → Based w → Based (after_events w es)

-- a turn in this world ends by itself
abbrev pub TurnEnds : World → ℤ → Driver → Type 0
TurnEnds w now d = EndsByItself (turn (work w.shared d) w.shared (running_ids w.drivers) now d).replies

-- After a run of such events from a sound tree and log, each turn ends by itself.
abbrev pub TurnsOfRunsEnd : Type 0
TurnsOfRunsEnd = (t : Tree) (l : Log) (es : List Event) (id now : ℤ) (d : Driver) → Sound (opened_world t l) → All IsLawful es → AllLeaveBases (opened_world t l) es → IsTime now → driver_of id (after_events (opened_world t l) es).drivers ≡ Some d → TurnEnds (after_events (opened_world t l) es) now d

-- And where a turn is answered after it, the last of the replies is one that ends a turn.
abbrev pub AnswersOfRunsEnd : Type 0
AnswersOfRunsEnd = (t : Tree) (l : Log) (es : List Event) (id now : ℤ) (replies : List Reply) → Sound (opened_world t l) → All IsLawful es → AllLeaveBases (opened_world t l) es → IsTime now
    → (next (after_events (opened_world t l) es) (event.Turn id now)).1 ≡ answer.Turn replies → EndsByItself replies
