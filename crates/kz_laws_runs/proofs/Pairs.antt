-- What a run from a sound pair of a tree and a log leaves, at each of its moments, is a sound pair.
use Rattle.std.proofs.Common.{◌⊎◌, inl, inr, ℕ, List, [], ◌∷◌, All, refl}
use Rattle.std.proofs.lemmas.List.Elements.{All-nil, All-cons, All-head, All-tail}
use Rattle.kz_types.specs.declared.machine.Event.{Event}
use Rattle.kz_types.specs.declared.machine.Recorded.{Recorded}
use Rattle.kz_types.specs.declared.tree.Rendered.{Rendered}
use Rattle.kz_spec_data.specs.Tree.{Tree, area, empty_tree}
use Rattle.kz_spec_data.specs.Log.{Log, empty_log}
use Rattle.kz_spec_machine.specs.Machine.{World, Pair, pair_of, after_events, request_pairs}
use Rattle.kz_spec_machine.specs.Sound.{IsSharedSound, Sound, IsLawful}
use Rattle.kz_spec_machine.specs.Openings.{opened_world, IsSoundPair}
use Rattle.kz_spec_machine.specs.Promises.{IsAsCommitted, IsRendered, PathsAgree, source_after, AgreeFrom}
use Rattle.kz_laws_events.proofs.Runs.{empty_sound, not_migrated, run_sound}
use Rattle.kz_laws_exits.proofs.Final.{not_final}
use Rattle.kz_laws_exits.proofs.Events.{run_ends}
use Rattle.kz_laws_agreement.proofs.Effects.{nothing_owed}
use Rattle.kz_laws_runs.specs.Paths.{source_through, AgreeThrough}
use Rattle.kz_laws_runs.specs.Pairs.{IsSoundMoment}
use Rattle.kz_laws_runs.proofs.Agrees.{run_agrees}
use Rattle.kz_laws_runs.proofs.Finalised.{opened_ends}
use Rattle.kz_laws_runs.proofs.Kept.{IsKept, world_kept, moments_kept}
use Rattle.kz_laws_runs.proofs.Paths.{run_agrees_through}

-- ---- the source of a further run

-- A path that is as it was at the commit is as it is now.
own_path : (source : List Rendered) (t : Tree) (l : Log) (r : Recorded) (path : List ℕ) → IsAsCommitted t source r path ⊎ IsRendered t l r path → IsAsCommitted t (area t) r path ⊎ IsRendered t l r path
own_path source t l r path (inl committed) = inl (record { none = committed.none; same = refl })
own_path source t l r path (inr rendered) = inr rendered

-- The paths agree, with the area that stands as the source.
abbrev AgreesItself : Pair → Type 0
AgreesItself p = PathsAgree (area p.tree) p

agrees_itself : (source : List Rendered) (p : Pair) → PathsAgree source p → AgreesItself p
agrees_itself source p agrees migrated r found path = own_path source p.tree p.log r path (agrees migrated r found path)

all_agree : (source : List Rendered) (p : Pair) (qs : List Pair) → AgreeFrom source p qs → All AgreesItself (p ∷ qs)
all_agree source p [] agrees = All-cons AgreesItself p [] (agrees_itself source p agrees) (All-nil AgreesItself)
all_agree source p (q ∷ qs) agrees = All-cons AgreesItself p (q ∷ qs) (agrees_itself source p agrees.0) (all_agree (source_after source p) q qs agrees.1)

-- ---- a moment

-- What is asked of drivers is trivial where there are none.
opened_sound : (t : Tree) (l : Log) → IsSharedSound (opened_world t l).shared → Sound (opened_world t l)
opened_sound t l kept = record { kept = kept; each = λ id d found. absurd (cc); apart = λ i j d e found-d found-e differ some. absurd (cc) }

sound_pair : (p : Pair) → IsKept p → AgreesItself p → IsSoundMoment p
sound_pair p k agrees = record { sound = opened_sound p.tree p.log k.kept; paths = agrees; closed = k.closed }

sound_pairs : (ps : List Pair) → All IsKept ps → All AgreesItself ps → All IsSoundMoment ps
sound_pairs [] all agree = All-nil IsSoundMoment
sound_pairs (p ∷ ps) all agree =
    All-cons IsSoundMoment p ps (sound_pair p (All-head IsKept p ps all) (All-head AgreesItself p ps agree)) (sound_pairs ps (All-tail IsKept p ps all) (All-tail AgreesItself p ps agree))

-- ---- runs

pub empty_pair : IsSoundPair empty_tree empty_log
empty_pair = record { sound = empty_sound; paths = nothing_owed (area empty_tree) (opened_world empty_tree empty_log).shared not_migrated; closed = λ final. absurd (not_final empty_log not_migrated final) }

pub moments_sound : (t : Tree) (l : Log) (es : List Event) → IsSoundPair t l → All IsLawful es → All IsSoundMoment (pair_of (opened_world t l).shared ∷ request_pairs (opened_world t l) es)
moments_sound t l es pair lawful =
    let w : World = opened_world t l in
    sound_pairs (pair_of w.shared ∷ request_pairs w es) (moments_kept es w lawful pair.sound (opened_ends t l pair)) (all_agree (area t) (pair_of w.shared) (request_pairs w es) (run_agrees t l es pair lawful))

pub run_leaves_pair : (t : Tree) (l : Log) (es : List Event) → IsSoundPair t l → All IsLawful es → IsSoundMoment (pair_of (after_events (opened_world t l) es).shared)
run_leaves_pair t l es pair lawful =
    let w : World = opened_world t l in
    let new : World = after_events w es in
    let source = source_through (area t) (pair_of w.shared) (request_pairs w es) in
    let through : AgreeThrough (area t) (pair_of w.shared) (request_pairs w es) (pair_of new.shared) = run_agrees_through (area t) w es lawful pair.sound pair.paths in
    sound_pair (pair_of new.shared) (world_kept new (run_sound es w lawful pair.sound) (run_ends es w lawful pair.sound (opened_ends t l pair)))
    (agrees_itself source (pair_of new.shared) through.1)
