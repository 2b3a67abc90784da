-- The tree of a load and an empty log are a sound pair.
use Rattle.std.proofs.Common.{◌≡◌, ℤ, true, false, List, [], All, refl}
use Rattle.kz_types.specs.declared.tree.Row.{Row}
use Rattle.kz_spec_data.specs.Tree.{Tree}
use Rattle.kz_spec_data.specs.Log.{empty_log, image_at}
use Rattle.kz_spec_data.specs.Loads.{is_header, are_loadable, is_load}
use Rattle.kz_spec_machine.specs.Machine.{is_finalised_log}
use Rattle.kz_spec_machine.specs.Sound.{IsNotRoot, TreeShape}
use Rattle.kz_spec_machine.specs.Openings.{IsSoundPair}
use Rattle.kz_spec_machine.specs.Loading.{tree_with}
use Rattle.kz_laws_machine.proofs.KeptLimits.{count_of}
use Rattle.kz_laws_events.proofs.Runs.{empty_sound, not_migrated}
use Rattle.kz_laws_loads.proofs.Sessions.{and_parts, header}
use Rattle.kz_laws_loads.proofs.Further.{loaded_rows}

shape : (zxid : ℤ) (sessions : List ℤ) (rows : List Row) → is_load zxid sessions rows ≡ true → All IsNotRoot rows → TreeShape (tree_with zxid sessions rows)
shape zxid sessions rows load named =
    let parts = and_parts (is_header zxid sessions) (are_loadable zxid sessions [] rows) load in
    let h = header zxid sessions parts.0 in
    let kept = loaded_rows zxid sessions rows parts.1 named in
    record {
      zxid = h.zxid_range;
      rise = kept.rise;
      not_root = named;
      free = kept.free;
      parents = kept.parents;
      stamped = kept.stamped;
      last = kept.last;
      stay = kept.stay;
      live = h.live;
      least = h.least;
      owned = kept.owned;
      limits = record { each = kept.each; migrated = count_of true rows (kept.few true); others = count_of false rows (kept.few false) };
    }

not_finalised : is_finalised_log empty_log ≡ false
unfolding image_at
not_finalised = refl

pub of_shape : (t : Tree) → TreeShape t → IsSoundPair t empty_log
of_shape t tree = record {
  sound = record {
    kept = record {
      tree = tree;
      log = empty_sound.kept.log;
      before = empty_sound.kept.before;
      agreement = λ migrated. absurd (let none = not_migrated in cc);
    };
    each = λ id d found. absurd (cc);
    apart = λ i j d e found-d found-e differ some. absurd (cc);
  };
  paths = λ migrated. absurd (let none = not_migrated in cc);
  closed = λ final. absurd (let none = not_finalised in cc);
}

pub loaded_pair : (zxid : ℤ) (sessions : List ℤ) (rows : List Row) → is_load zxid sessions rows ≡ true → All IsNotRoot rows → IsSoundPair (tree_with zxid sessions rows) empty_log
loaded_pair zxid sessions rows load named = of_shape (tree_with zxid sessions rows) (shape zxid sessions rows load named)
