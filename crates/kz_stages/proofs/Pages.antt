-- The znodes that a driver reads page by page rise by path.
use Rattle.std.proofs.Common.{◌≡◌, Bool, true, false, List, [], ◌∷◌, ◌++◌, map, Ordering, Less, Equal, Greater, All, refl, if◌then◌else◌}
use Rattle.std.specs.List.{filter}
use Rattle.std.proofs.lemmas.List.Elements.{All-head, All-nil, All-cons, All-take}
use Rattle.std.specs.Ordering.{match_ordering}
use Rattle.kz_types.specs.declared.limits.TheConstants.{MAX_SCAN_ROWS}
use Rattle.kz_types.specs.declared.tree.Row.{Row}
use Rattle.kz_types.specs.Order.{bytes_cmp}
use Rattle.kz_types.specs.Ordered.{Rises, AllBelow}
use Rattle.kz_types.proofs.Order.{bytes_order}
use Rattle.kz_types.proofs.Maps.{Rises-map}
use Rattle.kz_types.proofs.Append.{Rises-append}
use Rattle.kz_spec_data.specs.Tree.{Tree, path_of_row, rendered_row, is_after, scan, migrated_rows, path_of_rendered}
use Rattle.kz_spec_machine.specs.Driver.{last_path}

pub rendered_rise : (rows : List Row) → Rises bytes_cmp path_of_row rows → Rises bytes_cmp path_of_rendered (map rendered_row rows)
rendered_rise rows h = Rises-map bytes_cmp path_of_row path_of_rendered rendered_row (λ row. refl) rows h

-- what is after the last path of a list that rises is after each of its paths
IsAfter : List Row → Row → Type 0
IsAfter xs y = is_after (last_path xs) y ≡ true

less_of_after : (o : Ordering) → match_ordering o true false false ≡ true → o ≡ Less
less_of_after Less h = refl
less_of_after Equal h = absurd (cc)
less_of_after Greater h = absurd (cc)

after_all : (xs : List Row) (y : Row) → Rises bytes_cmp path_of_row xs → is_after (last_path xs) y ≡ true → AllBelow bytes_cmp path_of_row xs y.path
after_all [] y rises h = All-nil (λ (x : Row). bytes_cmp x.path y.path ≡ Less)
after_all (x ∷ []) y rises h = All-cons (λ (z : Row). bytes_cmp z.path y.path ≡ Less) x [] (less_of_after _ h) (All-nil (λ (z : Row). bytes_cmp z.path y.path ≡ Less))
after_all (x ∷ z ∷ zs) y rises h =
    let rest = after_all (z ∷ zs) y rises.1 h in
    All-cons (λ (w : Row). bytes_cmp w.path y.path ≡ Less) x (z ∷ zs) (bytes_order.chain x.path z.path y.path rises.0 (All-head (λ (w : Row). bytes_cmp w.path y.path ≡ Less) z zs rest)) rest

kept_pass : (p : Row → Bool) (b : Bool) (x : Row) (xs : List Row) → p x ≡ b → All (λ r. p r ≡ true) xs → All (λ r. p r ≡ true) (if b then x ∷ xs else xs)
kept_pass p true x xs is all = All-cons (λ r. p r ≡ true) x xs is all
kept_pass p false x xs is all = all

all_pass : (p : Row → Bool) (xs : List Row) → All (λ r. p r ≡ true) (filter p xs)
all_pass p [] = All-nil (λ r. p r ≡ true)
all_pass p (x ∷ xs) = kept_pass p (p x) x (filter p xs) refl (all_pass p xs)

all_weaker : (P Q : Row → Type 0) (xs : List Row) → ((r : Row) → P r → Q r) → All P xs → All Q xs
all_weaker P Q xs so all k d within = so _ (all k d within)

pub joined_rise : (rows : List Row) (t : Tree) → Rises bytes_cmp path_of_row rows → Rises bytes_cmp path_of_row (scan t (last_path rows) MAX_SCAN_ROWS) → Rises bytes_cmp path_of_row (rows ++ scan t (last_path rows) MAX_SCAN_ROWS)
joined_rise rows t h page =
    let test = is_after (last_path rows) in
    let passed : All (λ r. test r ≡ true) (scan t (last_path rows) MAX_SCAN_ROWS) = All-take (λ r. test r ≡ true) MAX_SCAN_ROWS _ (all_pass test (migrated_rows t)) in
    Rises-append bytes_order path_of_row rows _ h page (all_weaker (λ r. test r ≡ true) (λ r. AllBelow bytes_cmp path_of_row rows r.path) _ (λ r is. after_all rows r h is) passed)
