-- What holds from every sound world on: a migrated log and its tree are in agreement; and where each path of the migrated area
-- agrees with the log, each stays so.
use Rattle.std.specs.Prelude.{List, [], ◌∷◌, All}
use Rattle.kz_types.specs.declared.machine.Event.{Event}
use Rattle.kz_types.specs.declared.tree.Rendered.{Rendered}
use Rattle.kz_spec_machine.specs.Machine.{World, Pair, pair_of, next, event_pairs, after_events, request_pairs}
use Rattle.kz_spec_machine.specs.Sound.{Sound, IsLawful}
use Rattle.kz_spec_machine.specs.Promises.{PathsAgree, source_after, AgreeFrom, IsInAgreement}

-- the migrated area as it was at the last moment before the log was migrated, as is known at the last of these moments
abbrev pub source_through : List Rendered → Pair → List Pair → List Rendered
source_through source p [] = source
source_through source p (q ∷ qs) = source_through (source_after source p) q qs

-- The paths agree at these moments, and at this last one.
abbrev pub AgreeThrough : List Rendered → Pair → List Pair → Pair → Type 0
AgreeThrough source p qs last = AgreeFrom source p qs × PathsAgree (source_through source p qs) last

-- Every event keeps it, at each of its moments and in the world after it.
abbrev pub EventsKeepPaths : Type 0
EventsKeepPaths = (source : List Rendered) (w : World) (e : Event) → IsLawful e → Sound w → PathsAgree source (pair_of w.shared) → AgreeThrough source (pair_of w.shared) (event_pairs w e) (pair_of (next w e).0.shared)

-- So does every run.
abbrev pub RunsKeepPaths : Type 0
RunsKeepPaths = (source : List Rendered) (w : World) (es : List Event) → All IsLawful es → Sound w → PathsAgree source (pair_of w.shared) → AgreeThrough source (pair_of w.shared) (request_pairs w es) (pair_of (after_events w es).shared)

-- At every moment of a run from a sound world on, a migrated log and its tree are in agreement.
abbrev pub RunsKeepAgreement : Type 0
RunsKeepAgreement = (w : World) (es : List Event) → All IsLawful es → Sound w → All IsInAgreement (pair_of w.shared ∷ request_pairs w es)
