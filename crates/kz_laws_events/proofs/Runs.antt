-- Runs of events.
use Rattle.std.proofs.Common.{◌≡◌, ℤ, pos, ◌≤ℤ◌, false, List, [], ◌∷◌, ◌++◌, All, refl, arith}
use Rattle.std.proofs.lemmas.Int.{ints}
use Rattle.std.proofs.lemmas.List.Elements.{All-nil, All-cons, All-head, All-tail}
use Rattle.kz_types.specs.declared.log.Entry.{Entry}
use Rattle.kz_types.specs.declared.machine.Event.{Event}
use Rattle.kz_spec_data.specs.Tree.{empty_tree}
use Rattle.kz_spec_data.specs.Log.{empty_log, image_at, is_migrated_log}
use Rattle.kz_spec_machine.specs.Machine.{World, empty_world, next, after_events}
use Rattle.kz_spec_machine.specs.Sound.{IsStamped, IsNotRoot, IsUnreserved, Lasts, IsOwned, IsSmall, IsBeforeMigration, TreeShape, LogShape, Sound, IsLawful}
use Rattle.kz_laws_events.proofs.Exits.{empty_in_order}
use Rattle.kz_laws_events.proofs.Every.{event_sound}

-- ---- the empty world

empty_tree_shape : TreeShape empty_tree
empty_tree_shape = record {
  zxid = record { least = omega (arith, ints); most = omega (arith, ints) };
  rise = tt;
  not_root = All-nil IsNotRoot;
  free = All-nil IsUnreserved;
  parents = λ path there. absurd (cc);
  stamped = All-nil (IsStamped (pos 0));
  last = All-nil Lasts;
  stay = λ path there. absurd (cc);
  live = tt;
  least = All-nil (λ (s : ℤ). pos 1 ≤ℤ s);
  owned = All-nil (IsOwned []);
  limits = record { each = All-nil IsSmall; migrated = omega arith; others = omega arith };
}

empty_log_shape : LogShape empty_log
empty_log_shape = record {
  log = record { epoch = omega (arith, ints); base = omega (arith, ints); base_image = λ first. refl; follow = tt; epochs = tt; end = omega (arith, ints) };
  epoch = omega (arith, ints);
  image = empty_in_order;
}

pub not_migrated : is_migrated_log empty_log ≡ false
unfolding image_at
not_migrated = refl

pub empty_sound : Sound empty_world
empty_sound = record {
  kept = record {
    tree = empty_tree_shape;
    log = empty_log_shape;
    before = λ none. record { base = refl; records = All-nil (λ (e : Entry). IsBeforeMigration e.item) };
    agreement = λ migrated. absurd (let none = not_migrated in cc);
  };
  each = λ id d found. absurd (cc);
  apart = λ i j d e found-d found-e differ some. absurd (cc);
}

-- ---- a run

pub run_sound : (es : List Event) (w : World) → All IsLawful es → Sound w → Sound (after_events w es)
unfolding after_events
run_sound [] w lawful sound = sound
run_sound (e ∷ es) w lawful sound = run_sound es (next w e).0 (All-tail IsLawful e es lawful) (event_sound w e (All-head IsLawful e es lawful) sound)

-- ---- lawful events

pub lawful_before : (before rest : List Event) → All IsLawful (before ++ rest) → All IsLawful before
lawful_before [] rest all = All-nil IsLawful
lawful_before (e ∷ es) rest all = All-cons IsLawful e es (All-head IsLawful e (es ++ rest) all) (lawful_before es rest (All-tail IsLawful e (es ++ rest) all))

pub lawful_next : (before after : List Event) (e : Event) → All IsLawful (before ++ e ∷ after) → IsLawful e
lawful_next [] after e all = All-head IsLawful e after all
lawful_next (f ∷ fs) after e all = lawful_next fs after e (All-tail IsLawful f (fs ++ e ∷ after) all)
