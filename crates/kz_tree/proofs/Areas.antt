-- The migrated area and its pages rise where the znodes do.
use Rattle.std.proofs.Common.{◌≡◌, ℕ, zero, suc, List, [], ◌∷◌, length, map, take, Option, refl, sym, ap, ◌∙◌}
use Rattle.std.specs.List.{filter, count_by}
use Rattle.std.proofs.lemmas.List.Sums.{length-filter}
use Rattle.kz_types.specs.declared.tree.Row.{Row}
use Rattle.kz_types.specs.Paths.{is_migrated}
use Rattle.kz_types.specs.Order.{bytes_cmp}
use Rattle.kz_types.specs.Ordered.{Rises, RisesAbove}
use Rattle.kz_types.proofs.Order.{bytes_order}
use Rattle.kz_types.proofs.Maps.{Rises-map, Rises-filter}
use Rattle.kz_spec_data.specs.Tree.{path_of_row, rendered_row, is_after, path_of_rendered}
use Rattle.kz_tree.specs.Kept.{AreRows}

pub migrated_rise : (rows : List Row) → AreRows rows → Rises bytes_cmp path_of_row (filter (λ (row : Row). is_migrated row.path) rows)
migrated_rise rows h = Rises-filter bytes_order path_of_row (λ (row : Row). is_migrated row.path) rows h

pub area_rises : (rows : List Row) → AreRows rows → Rises bytes_cmp path_of_rendered (map rendered_row (filter (λ (row : Row). is_migrated row.path) rows))
area_rises rows h = Rises-map bytes_cmp path_of_row path_of_rendered rendered_row (λ row. refl) _ (migrated_rise rows h)

first_above : (n : ℕ) (path : List ℕ) (rows : List Row) → RisesAbove bytes_cmp path_of_row path rows → RisesAbove bytes_cmp path_of_row path (take n rows)
first_above zero path rows h = tt
first_above (suc n) path [] h = tt
first_above (suc n) path (r ∷ rs) h = (h.0, first_above n r.path rs h.1)

first_rise : (n : ℕ) (rows : List Row) → AreRows rows → AreRows (take n rows)
first_rise zero rows h = tt
first_rise (suc n) [] h = tt
first_rise (suc n) (r ∷ rs) h = first_above n r.path rs h

pub page_rises : (rows : List Row) (after : Option (List ℕ)) (n : ℕ) → AreRows rows → AreRows (take n (filter (is_after after) (filter (λ (row : Row). is_migrated row.path) rows)))
page_rises rows after n h = first_rise n _ (Rises-filter bytes_order path_of_row (is_after after) _ (migrated_rise rows h))

-- ---- how many znodes the migrated area has

as_many : (rows : List Row) → length (map rendered_row rows) ≡ length rows
as_many [] = refl
as_many (r ∷ rs) = ap suc (as_many rs)

pub area_count : (rows : List Row) → count_by (λ (row : Row). is_migrated row.path) rows ≡ length (map rendered_row (filter (λ (row : Row). is_migrated row.path) rows))
area_count rows = sym (as_many (filter (λ (row : Row). is_migrated row.path) rows) ∙ length-filter (λ (row : Row). is_migrated row.path) rows)
