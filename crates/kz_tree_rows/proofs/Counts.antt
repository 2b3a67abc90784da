-- How many znodes there are after a change.
use Rattle.std.proofs.Common.{◌≡◌, ◌≢◌, ℕ, ◌+◌, ◌^◌, ◌<◌, ◌≤◌, Bool, true, false, cond, not, List, [], ◌∷◌, length, None, refl, sym, ap, ◌∙◌, arith}
use Rattle.std.specs.List.{count_by}
use Rattle.std.proofs.lemmas.List.Sums.{sum_by-cons, count_by-le-length}
use Rattle.kz_types.specs.Paths.{is_migrated}
use Rattle.kz_types.specs.declared.tree.Row.{Row}
use Rattle.kz_types.proofs.Order.{bytes_order}
use Rattle.kz_types.proofs.Lookup.{key_of_found, Rises-put, Rises-without}
use Rattle.kz_spec_data.specs.Tree.{path_of_row, row_at, put_row, without_row, count_beside}
use Rattle.kz_row_parts.proofs.Sizes.{sum_by-put_new, sum_by-put_found, sum_by-without, ones, there, length_found, length_without}
use Rattle.kz_tree_rows.specs.Kept.{AreCounted}

abbrev pub part : Row → ℕ
part r = cond (is_migrated r.path) 1 0

same_part : (r s : Row) → r.path ≡ s.path → part r ≡ part s
same_part r s e = ap (λ path. cond (is_migrated path) 1 0) e

pub counted_new : (rows : List Row) (migrated : ℕ) (r : Row) → AreCounted rows migrated → row_at r.path rows ≡ None → length rows + 1 < 2 ^ 64 → AreCounted (put_row r rows) (migrated + part r)
counted_new rows migrated r h none room = record {
  rise = Rises-put bytes_order path_of_row r rows h.rise;
  fits = omega (arith, room, ones rows, ones (put_row r rows), sum_by-put_new bytes_order path_of_row (λ (x : Row). 1) r rows none);
  inside = omega (arith, h.inside, sum_by-put_new bytes_order path_of_row part r rows none);
}

pub counted_found : (rows : List Row) (migrated : ℕ) (r : Row) → AreCounted rows migrated → row_at r.path rows ≢ None → AreCounted (put_row r rows) migrated
counted_found rows migrated r h known =
    let old = there (row_at r.path rows) known in
    let same = sym (key_of_found bytes_order path_of_row r.path rows old.0 old.1) in
    record {
      rise = Rises-put bytes_order path_of_row r rows h.rise;
      fits = omega (arith, h.fits, length_found rows r old.0 h.rise old.1);
      inside = h.inside ∙ sym (sum_by-put_found bytes_order path_of_row part r rows old.0 h.rise old.1 (same_part r old.0 same));
    }

-- what a path that is there counts, and what is left without it
pub record AreLess (path : List ℕ) (rows : List Row) (migrated : ℕ) : Type 0 where
  pub all : 1 + length (without_row path rows) ≡ length rows
  pub inside : cond (is_migrated path) 1 0 + count_by (λ (r : Row). is_migrated r.path) (without_row path rows) ≡ migrated

pub counted_less : (rows : List Row) (migrated : ℕ) (path : List ℕ) → AreCounted rows migrated → row_at path rows ≢ None → AreLess path rows migrated
counted_less rows migrated path h known =
    let old = there (row_at path rows) known in
    let same : part old.0 ≡ cond (is_migrated path) 1 0 = ap (λ p. cond (is_migrated p) 1 0) (key_of_found bytes_order path_of_row path rows old.0 old.1) in
    record {
      all = length_without path rows known;
      inside = ap (λ n. n + count_by (λ (r : Row). is_migrated r.path) (without_row path rows)) (sym same) ∙ sum_by-without bytes_order path_of_row part path rows old.0 old.1 ∙ sym h.inside;
    }

pub counted_without : (rows : List Row) (migrated m : ℕ) (path : List ℕ) → AreCounted rows migrated → AreLess path rows migrated → m + cond (is_migrated path) 1 0 ≡ migrated → AreCounted (without_row path rows) m
counted_without rows migrated m path h less f = record {
  rise = Rises-without bytes_order path_of_row path rows h.rise;
  fits = omega (arith, less.all, h.fits);
  inside = omega (arith, less.inside, f);
}

pub migrated_within : (rows : List Row) (migrated : ℕ) → AreCounted rows migrated → migrated ≤ length rows
migrated_within rows migrated h = omega (arith, h.inside, count_by-le-length (λ (r : Row). is_migrated r.path) rows)

-- ---- on one side of the border

two_sides : (b : Bool) → cond b 1 0 + cond (not b) 1 0 ≡ 1
two_sides true = refl
two_sides false = refl

pub both_sides : (rows : List Row) → count_by (λ (r : Row). is_migrated r.path) rows + count_by (λ (r : Row). not (is_migrated r.path)) rows ≡ length rows
both_sides [] = refl
both_sides (r ∷ rs) = omega (arith, both_sides rs, two_sides (is_migrated r.path), sum_by-cons part r rs, sum_by-cons (λ (x : Row). cond (not (is_migrated x.path)) 1 0) r rs)

pub beside_inside : (path : List ℕ) (rows : List Row) (migrated : ℕ) → AreCounted rows migrated → is_migrated path ≡ true → migrated ≡ count_beside path rows
beside_inside path rows migrated h e = rw e h.inside

pub beside_outside : (path : List ℕ) (rows : List Row) (migrated n : ℕ) → AreCounted rows migrated → is_migrated path ≡ false → n + migrated ≡ length rows → n ≡ count_beside path rows
beside_outside path rows migrated n h e is = rw e (omega (arith, h.inside, both_sides rows, is))
