-- What is true of every run from a sound pair of a tree and a log.
use Rattle.std.specs.Prelude.{List, All}
use Rattle.kz_types.specs.declared.machine.Event.{Event}
use Rattle.kz_spec_data.specs.Tree.{Tree}
use Rattle.kz_spec_data.specs.Log.{Log}
use Rattle.kz_spec_machine.specs.Sound.{IsLawful}
use Rattle.kz_spec_machine.specs.Openings.{opened_world, IsSoundPair}
use Rattle.kz_spec_machine.specs.Promises.{CommittedWhole, Agreeing, StayingAsRecorded, StayingInAgreement, FinalisedForGood}

abbrev pub RunsCommitWhole : Type 0
RunsCommitWhole = (t : Tree) (l : Log) (es : List Event) → IsSoundPair t l → All IsLawful es → CommittedWhole (opened_world t l) es

abbrev pub RunsAgree : Type 0
RunsAgree = (t : Tree) (l : Log) (es : List Event) → IsSoundPair t l → All IsLawful es → Agreeing (opened_world t l) es

abbrev pub RunsStayAsRecorded : Type 0
RunsStayAsRecorded = (t : Tree) (l : Log) (es : List Event) → IsSoundPair t l → All IsLawful es → StayingAsRecorded (opened_world t l) es

abbrev pub RunsStayInAgreement : Type 0
RunsStayInAgreement = (t : Tree) (l : Log) (es : List Event) → IsSoundPair t l → All IsLawful es → StayingInAgreement (opened_world t l) es

abbrev pub RunsStayFinalised : Type 0
RunsStayFinalised = (t : Tree) (l : Log) (es : List Event) → IsSoundPair t l → All IsLawful es → FinalisedForGood (opened_world t l) es
