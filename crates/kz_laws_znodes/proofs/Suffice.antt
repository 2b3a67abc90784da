-- The keys that a feed touches have the difference of the metadata that it leads from and of those that it leads to.
use Rattle.std.proofs.Common.{◌≡◌, ℕ, ℤ, true, List, ◌++◌, Option, Some, None, is_some, Contains, refl, sym, ◌∙◌, subst}
use Rattle.std.specs.Prelude.{if◌then◌else◌}
use Rattle.std.proofs.lemmas.List.Elements.{Contains-append_left, Contains-append_right}
use Rattle.kz_types.specs.declared.key.EntityKey.{EntityKey}
use Rattle.kz_types.specs.Paths.{is_legal}
use Rattle.kz_spec_data.specs.Metadata.{Image}
use Rattle.kz_spec_data.specs.InOrder.{IsInOrder}
use Rattle.kz_spec_data.specs.Log.{Feed}
use Rattle.kz_laws_znodes.specs.RoundTrip.{IsWritable}
use Rattle.kz_laws_znodes.proofs.Within.{to_flat}
use Rattle.kz_spec_data.specs.Spans.{spanned_paths, all_spanned_paths}
use Rattle.kz_spec_data.specs.Touched.{touched_keys, keys_of_image, records_of_feed, AreTouched, Leads}
use Rattle.kz_laws_znodes.specs.Delta.{HaveDifference, TouchedSuffices, TouchedCover}
use Rattle.kz_laws_znodes.proofs.AllKeys.{nothing_held}
use Rattle.kz_laws_znodes.proofs.DeltaAlike.{covered}
use Rattle.kz_laws_znodes.proofs.Touched.{same_at}

module _ (old new : Image) (oo : IsInOrder old) (wo : IsWritable old) (on : IsInOrder new) (wn : IsWritable new) (f : Feed) (lead : Leads old f new) (ks : List EntityKey) (touched : AreTouched old f new ks) where
  -- the keys of which the feed speaks, by its base
  abbrev spoken_by : Option (ℤ × Image) → List EntityKey
  spoken_by base = if is_some base then keys_of_image old ++ keys_of_image new else touched_keys old new (records_of_feed f)

  -- at a path that none of these keys spans, the feed speaks of no legal key that spans it
  unspoken : (base : Option (ℤ × Image)) → f.base ≡ base → (p : List ℕ) → (Contains (all_spanned_paths ks) p → ⊥) → (k : EntityKey) → is_legal k ≡ true → Contains (spanned_paths k) p → Contains (spoken_by base) k → ⊥
  unspoken base is p outside k legal within has = outside (to_flat spanned_paths ks k p (touched.all k legal (subst (λ b. Contains (spoken_by b) k) (sym is) has)) within)

  by_base : (base : Option (ℤ × Image)) → f.base ≡ base → HaveDifference ks old new
  by_base None is k legal texts p within outside = same_at old new oo wo on wn (records_of_feed f) (lead is) p (unspoken None is p outside) k legal texts within
  by_base (Some base) is k legal texts p within outside =
      let none = unspoken (Some base) is p outside k legal within in
      nothing_held old oo wo k (legal, texts) (λ has. none (Contains-append_left (keys_of_image old) (keys_of_image new) k has))
      ∙ sym (nothing_held new on wn k (legal, texts) (λ has. none (Contains-append_right (keys_of_image old) (keys_of_image new) k has)))

  suffices : HaveDifference ks old new
  suffices = by_base f.base refl

pub touched_suffices : TouchedSuffices
touched_suffices old new oo wo on wn f lead ks touched = suffices old new oo wo on wn f lead ks touched

pub touched_cover : TouchedCover
touched_cover old new oo wo on wn f lead ks touched = covered old new oo wo on wn ks (touched_suffices old new oo wo on wn f lead ks touched)
