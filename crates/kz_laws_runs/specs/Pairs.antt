-- The pairs of a tree and a log that a run, or a stop of it, leaves: a further run may begin with each of them.
use Rattle.std.specs.Prelude.{ℕ, List, ◌∷◌, All, Contains}
use Rattle.kz_types.specs.declared.machine.Event.{Event}
use Rattle.kz_spec_data.specs.Tree.{Tree, empty_tree}
use Rattle.kz_spec_data.specs.Log.{Log, empty_log}
use Rattle.kz_spec_machine.specs.Machine.{Pair, pair_of, after_events, request_pairs}
use Rattle.kz_spec_machine.specs.Sound.{IsLawful}
use Rattle.kz_spec_machine.specs.InStep.{script_events}
use Rattle.kz_spec_machine.specs.Moments.{Moment, replayed_moments}
use Rattle.kz_spec_machine.specs.Openings.{opened_world, IsSoundPair}

-- The tree and the log of a moment are a sound pair.
abbrev pub IsSoundMoment : Pair → Type 0
IsSoundMoment p = IsSoundPair p.tree p.log

-- The empty tree and log are a sound pair.
abbrev pub EmptyIsSoundPair : Type 0
EmptyIsSoundPair = IsSoundPair empty_tree empty_log

-- Those after a run from a sound pair are one.
abbrev pub RunsLeaveSoundPairs : Type 0
RunsLeaveSoundPairs = (t : Tree) (l : Log) (es : List Event) → IsSoundPair t l → All IsLawful es → IsSoundMoment (pair_of (after_events (opened_world t l) es).shared)

-- So are those at each moment of it.
abbrev pub MomentsAreSoundPairs : Type 0
MomentsAreSoundPairs = (t : Tree) (l : Log) (es : List Event) → IsSoundPair t l → All IsLawful es → All IsSoundMoment (pair_of (opened_world t l).shared ∷ request_pairs (opened_world t l) es)

-- What a stop of a replay finds at each of its moments is the tree and the log of the run's beginning or after one of its requests, and a
-- sound pair.
abbrev pub ReplayMomentsArePairs : Type 0
ReplayMomentsArePairs = (t : Tree) (l : Log) (script : List ℕ) → IsSoundPair t l → All IsLawful (script_events script)
    → All (λ (m : Moment). Contains (pair_of (opened_world t l).shared ∷ request_pairs (opened_world t l) (script_events script)) m.pair) (replayed_moments (opened_world t l) script)

abbrev pub ReplayMomentsAreSoundPairs : Type 0
ReplayMomentsAreSoundPairs = (t : Tree) (l : Log) (script : List ℕ) → IsSoundPair t l → All IsLawful (script_events script) → All (λ (m : Moment). IsSoundMoment m.pair) (replayed_moments (opened_world t l) script)
