-- Records of several epochs, and the metadata that they make.
use Rattle.std.proofs.Common.{◌≡◌, ℤ, false, List, [], ◌∷◌, ◌++◌, map, Option, refl, sym, ap, ◌∙◌, subst, append_assoc, append-nil}
use Rattle.std.specs.List.{All, flat_map}
use Rattle.std.proofs.lemmas.List.Elements.{All-head, All-tail}
use Rattle.kz_types.specs.declared.record.MetaRecord.{MetaRecord}
use Rattle.kz_types.specs.declared.image_fault.ImageRule.{ImageRule}
use Rattle.kz_spec_data.specs.Metadata.{Image}
use Rattle.kz_spec_data.specs.Image.{effect, unless_broken, image_with, all_applied}
use Rattle.kz_spec_data.specs.ImageRules.{is_misnamed, lacks, repeats, is_misvalued}
use Rattle.kz_laws_znodes.proofs.Accepting.{Leads, unbroken}
use Rattle.kz_types.specs.declared.log.EpochRecord.{EpochRecord}
use Rattle.kz_spec_data.specs.SnapshotRecords.{in_epoch, image_after}
use Rattle.std.proofs.lemmas.List.{map-append}

-- These records make the second metadata of the first.
abbrev pub Make : List EpochRecord → Image → Image → Type 0
Make rs i j = image_after rs i ≡ j

after_append : (rs ss : List EpochRecord) (i : Image) → image_after (rs ++ ss) i ≡ image_after ss (image_after rs i)
after_append [] ss i = refl
after_append (r ∷ rs) ss i = after_append rs ss (image_with r.epoch r.item i)

pub make_append : (rs ss : List EpochRecord) (i j k : Image) → Make rs i j → Make ss j k → Make (rs ++ ss) i k
make_append rs ss i j k a b = after_append rs ss i ∙ ap (image_after ss) a ∙ b

in_one_epoch : (epoch : ℤ) (rs : List MetaRecord) (i : Image) → image_after (map (in_epoch epoch) rs) i ≡ all_applied epoch rs i
in_one_epoch epoch [] i = refl
in_one_epoch epoch (r ∷ rs) i = in_one_epoch epoch rs (image_with epoch r i)

-- records of one epoch
pub make_led : (epoch : ℤ) (rs : List MetaRecord) (i j : Image) → Leads epoch rs i j → Make (map (in_epoch epoch) rs) i j
make_led epoch rs i j l = in_one_epoch epoch rs i ∙ l.made

-- ---- one record

pub make_one : (epoch : ℤ) (r : MetaRecord) (i : Image) → is_misnamed r ≡ false → lacks i r ≡ false → repeats i r ≡ false → is_misvalued i r ≡ false → Make (in_epoch epoch r ∷ []) i (effect epoch r i)
make_one epoch r i named there new valued = ap (λ (o : Option ImageRule). unless_broken o (effect epoch r i) i) (unbroken i r named there new valued)

-- ---- records for each item of a list

-- what all items of a list have, the one at a place has
pub all_at : {A : Type 0} (P : A → Type 0) (xs : List A) (y : A) (ys : List A) → All P (xs ++ y ∷ ys) → P y
all_at P [] y ys h = All-head P y ys h
all_at P (x ∷ xs) y ys h = all_at P xs y ys (All-tail P x (xs ++ y ∷ ys) h)

-- `state` is what stands once the records of some items are taken in, and before those of the others
module _ {A : Type 0} (items : List A) (records_of : A → List EpochRecord) (state : List A → List A → Image)
    (one : (done : List A) (a : A) (rest : List A) → items ≡ done ++ a ∷ rest → Make (records_of a) (state done (a ∷ rest)) (state (done ++ a ∷ []) rest)) where
  make_from : (done todo : List A) → items ≡ done ++ todo → Make (flat_map records_of todo) (state done todo) (state (done ++ todo) [])
  make_from done [] whole = ap (λ (l : List A). state l []) (sym (append-nil done))
  make_from done (a ∷ todo) whole =
      let joined : (done ++ a ∷ []) ++ todo ≡ done ++ a ∷ todo = append_assoc done (a ∷ []) todo in
      make_append (records_of a) (flat_map records_of todo) (state done (a ∷ todo)) (state (done ++ a ∷ []) todo) (state (done ++ a ∷ todo) [])
      (one done a todo whole)
      (subst (λ (l : List A). Make (flat_map records_of todo) (state (done ++ a ∷ []) todo) (state l [])) joined (make_from (done ++ a ∷ []) todo (whole ∙ sym joined)))

  pub make_each : Make (flat_map records_of items) (state [] items) (state items [])
  make_each = make_from [] items refl

-- records of one epoch, for each item
pub map_flat : {A B C : Type 0} (f : B → C) (g : A → List B) (xs : List A) → map f (flat_map g xs) ≡ flat_map (λ (x : A). map f (g x)) xs
map_flat f g [] = refl
map_flat f g (x ∷ xs) = map-append f (g x) (flat_map g xs) ∙ ap (λ (l : List _). map f (g x) ++ l) (map_flat f g xs)
