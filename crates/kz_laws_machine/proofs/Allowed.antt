-- Where the test of an offset lets a log be cut, and what stays true of a log that passed it.
use Rattle.std.proofs.Common.{◌≡◌, ℤ, negsuc, filter, Bool, true, false, not, ◌&&◌, ◌||◌, List, [], ◌∷◌, ◌++◌, refl, sym, ap, ◌∙◌, arith}
use Rattle.std.proofs.lemmas.Int.{ints}
use Rattle.std.specs.Ordering.{int_eq}
use Rattle.std.specs.List.{list_any}
use Rattle.kz_spec_data.specs.Metadata.{Image, empty_image}
use Rattle.kz_spec_data.specs.Settlement.{is_open}
use Rattle.kz_spec_data.specs.Log.{Log, View, IsLog, IsViewOf, batch_ends, begins_after, entries, image_at, may_be_base, snapshot}
use Rattle.kz_laws_machine.specs.Snapshots.{MayBeBase}
use Rattle.kz_laws_machine.proofs.Cut.{log_stays, view_stays, based_is_log as any_based, empty_there as cut_empty}

-- An offset among others, with those before and after it.
record Among (o : ℤ) (all : List ℤ) : Type 0 where
  before : List ℤ
  after : List ℤ
  whole : all ≡ before ++ o ∷ after

same_offset : (o x : ℤ) → int_eq o x ≡ true → x ≡ o
same_offset o x is = grind (arith, ints)

among : (o : ℤ) (all : List ℤ) → list_any (int_eq o) all ≡ true → Among o all
among o [] is = absurd (cc)
among o (x ∷ xs) is = by (int_eq o x) refl is (λ h. among o xs h) where
  by : (b : Bool) → int_eq o x ≡ b → b || list_any (int_eq o) xs ≡ true → (list_any (int_eq o) xs ≡ true → Among o xs) → Among o (x ∷ xs)
  by true same h later = record { before = []; after = xs; whole = ap (λ (n : ℤ). n ∷ xs) (same_offset o x same) }
  by false other h later =
      let rest = later h in
      record { before = x ∷ rest.before; after = rest.after; whole = ap (λ (ns : List ℤ). x ∷ ns) rest.whole }

-- both parts of the test
pub record BothTests (end settled : Bool) : Type 0 where
  pub is_end : end ≡ true
  pub is_settled : settled ≡ false

both_tests : (end inside : Bool) → end && not inside ≡ true → BothTests end inside
both_tests true false is = record { is_end = refl; is_settled = refl }
both_tests true true is = absurd (cc)
both_tests false inside is = absurd (cc)

pub allowed : (l : Log) (at : ℤ) → may_be_base l at ≡ true → MayBeBase l at
allowed l at is =
    let both = both_tests (list_any (int_eq at) (batch_ends l)) (is_open (entries l.batches) at) is in
    let found = among at (batch_ends l) both.is_end in
    record { end = record { before = found.before; after = found.after; among = found.whole }; settled = both.is_settled }

-- what was known of the log stays true, and it stays a log
pub view_of_cut : (l : Log) (at : ℤ) (v : View) → IsLog l → may_be_base l at ≡ true → IsViewOf l v → IsViewOf (snapshot l at) v
view_of_cut l at v log may known = view_stays l at log (allowed l at may) v known

pub cut_is_log : (l : Log) (at : ℤ) → IsLog l → may_be_base l at ≡ true → IsLog (snapshot l at)
cut_is_log l at log may = log_stays l at log (allowed l at may)

-- with other metadata at the base, too
pub based_is_log : (l : Log) (at : ℤ) (i : Image) → IsLog l → may_be_base l at ≡ true → (at ≡ negsuc 0 → i ≡ empty_image) → IsLog (record l { base = at; base_image = i; batches = filter (begins_after at) l.batches })
based_is_log l at i log may empty = any_based l at log (allowed l at may) i empty

pub empty_there : (l : Log) (at : ℤ) → IsLog l → may_be_base l at ≡ true → at ≡ negsuc 0 → image_at l at ≡ empty_image
empty_there l at log may = cut_empty l at log (allowed l at may)
