-- From every sound world on each path stays in agreement with the log.
use Rattle.std.proofs.Common.{List, [], ◌∷◌, All, subst}
use Rattle.kz_types.specs.declared.machine.Event.{Event}
use Rattle.kz_types.specs.declared.tree.Rendered.{Rendered}
use Rattle.kz_spec_machine.specs.Machine.{World, Pair, pair_of, next, event_pairs, after_events, request_pairs}
use Rattle.kz_spec_machine.specs.Sound.{Sound, IsLawful}
use Rattle.kz_spec_machine.specs.Promises.{PathsAgree, source_after}
use Rattle.kz_laws_runs.specs.Paths.{source_through, AgreeThrough}
use Rattle.kz_laws_runs.proofs.Agrees.{Anything, Agrees, agrees_promised, agree_from}
use Rattle.kz_laws_runs.proofs.Linked.{LinkedTo, linked_of, event_linked, run_linked}

agree_last : (source : List Rendered) (p : Pair) (qs : List Pair) (last : Pair) → LinkedTo Agrees p qs last → PathsAgree source p → PathsAgree (source_through source p qs) last
agree_last source p [] last linked agrees = subst (PathsAgree source) linked agrees
agree_last source p (q ∷ qs) last linked agrees = agree_last (source_after source p) q qs last linked.1 (linked.0 source agrees)

agree_through : (source : List Rendered) (p : Pair) (qs : List Pair) (last : Pair) → LinkedTo Agrees p qs last → PathsAgree source p → AgreeThrough source p qs last
agree_through source p qs last linked agrees = (agree_from source p qs (linked_of Agrees p qs last linked) agrees, agree_last source p qs last linked agrees)

pub event_agrees : (source : List Rendered) (w : World) (e : Event) → IsLawful e → Sound w → PathsAgree source (pair_of w.shared) → AgreeThrough source (pair_of w.shared) (event_pairs w e) (pair_of (next w e).0.shared)
event_agrees source w e lawful sound agrees =
    agree_through source (pair_of w.shared) (event_pairs w e) (pair_of (next w e).0.shared) (event_linked Anything Agrees w e agrees_promised lawful sound (λ id d found. tt)) agrees

pub run_agrees_through : (source : List Rendered) (w : World) (es : List Event) → All IsLawful es → Sound w → PathsAgree source (pair_of w.shared) → AgreeThrough source (pair_of w.shared) (request_pairs w es) (pair_of (after_events w es).shared)
run_agrees_through source w es lawful sound agrees =
    agree_through source (pair_of w.shared) (request_pairs w es) (pair_of (after_events w es).shared) (run_linked Anything Agrees es w agrees_promised lawful sound (λ id d found. tt)) agrees
