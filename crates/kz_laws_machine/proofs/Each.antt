-- What holds of each znode after operations, and a tree of which no znode is later than what is recorded.
use Rattle.std.proofs.Common.{◌≡◌, ◌⊎◌, ℕ, ℤ, ◌≤ℤ◌, false, ◌||◌, cond, List, [], ◌∷◌, Option, Some, None, Contains, All, refl, ap, ◌∙◌, subst, inl, inr, filter, arith}
use Rattle.std.specs.Prelude.{int_lt}
use Rattle.std.proofs.lemmas.Int.{ints}
use Rattle.std.proofs.lemmas.List.Elements.{Contains-get_or, All-contains, All-head, All-tail}
use Rattle.kz_types.specs.declared.tree.Row.{Row}
use Rattle.kz_types.specs.declared.tree.Op.{Op}
use Rattle.kz_types.specs.declared.tree.Op.TheVariants.{Create, Set, Delete, Check}
use Rattle.kz_types.proofs.Order.{bytes_order}
use Rattle.kz_types.proofs.Lookup.{Contains-put_cases, Contains-without, found_is_contained, key_of_found}
use Rattle.kz_spec_data.specs.Tree.{path_of_row, row_at, put_row, without_row, parent_of, create_refusal, set_refusal, op_refusal, created_row, set_row, with_child_change, after_set, after_op, is_later}
use Rattle.kz_laws_machine.specs.TreeLaws.{KeepsShape}
use Rattle.kz_laws_machine.proofs.Runs.{ran, Passes}

pub all_from_contains : {A : Type 0} (P : A → Type 0) (xs : List A) → ((x : A) → Contains xs x → P x) → All P xs
all_from_contains P xs h k d within = h _ (Contains-get_or xs k d within)

pub all_put : (P : Row → Type 0) (r : Row) (rows : List Row) → P r → All P rows → All P (put_row r rows)
all_put P r rows own all = all_from_contains P (put_row r rows) (λ x has. either x (Contains-put_cases bytes_order path_of_row r rows x has))
  where
    either : (x : Row) → (r ≡ x) ⊎ Contains rows x → P x
    either x (inl e) = subst P e own
    either x (inr has) = All-contains P rows x all has

pub all_without : (P : Row → Type 0) (path : List ℕ) (rows : List Row) → All P rows → All P (without_row path rows)
all_without P path rows all = all_from_contains P (without_row path rows) (λ x has. All-contains P rows x all (Contains-without bytes_order path_of_row path rows x has))

-- What a create that isn't refused and keeps the shape gives a new znode, and what stays when its body is set so and when
-- its children change.
pub record Keeps (P : Row → Type 0) (sessions : List ℤ) (zxid : ℤ) : Type 0 where
  pub made : (path body : List ℕ) (owner : Option ℤ) (rows : List Row) → create_refusal sessions path body owner rows ≡ None → KeepsShape (Create path body owner) → P (created_row zxid path body owner)
  pub set : (path body : List ℕ) (version : ℤ) (r : Row) → set_refusal body version (Some r) ≡ None → KeepsShape (Set path body version) → r.path ≡ path → P r → P (set_row zxid body r)
  pub touched : (r : Row) → P r → P (record r { pzxid = zxid })

all_touched : (P : Row → Type 0) (zxid : ℤ) (q : List ℕ) (rows : List Row) (m : Option Row) → row_at q rows ≡ m → ((r : Row) → P r → P (record r { pzxid = zxid })) → All P rows → All P (with_child_change zxid m rows)
all_touched P zxid q rows None is touch all = all
all_touched P zxid q rows (Some r) is touch all = all_put P (record r { pzxid = zxid }) rows (touch r (All-contains P rows r all (found_is_contained bytes_order path_of_row q rows r is))) all

all_set : (P : Row → Type 0) (sessions : List ℤ) (zxid : ℤ) (path body : List ℕ) (version : ℤ) (rows : List Row) (m : Option Row) → row_at path rows ≡ m → set_refusal body version m ≡ None → KeepsShape (Set path body version) → Keeps P sessions zxid → All P rows → All P (after_set zxid body m rows)
all_set P sessions zxid path body version rows None is pass shaped keeps all = all
all_set P sessions zxid path body version rows (Some r) is pass shaped keeps all =
    all_put P (set_row zxid body r) rows
    (keeps.set path body version r pass shaped (key_of_found bytes_order path_of_row path rows r is) (All-contains P rows r all (found_is_contained bytes_order path_of_row path rows r is))) all

all_after_op : (P : Row → Type 0) (sessions : List ℤ) (zxid : ℤ) (o : Op) (rows : List Row) → op_refusal sessions o rows ≡ None → KeepsShape o → Keeps P sessions zxid → All P rows → All P (after_op zxid o rows)
all_after_op P sessions zxid (Create path body owner) rows pass shaped keeps all =
    all_put P (created_row zxid path body owner) (with_child_change zxid (row_at (parent_of path) rows) rows) (keeps.made path body owner rows pass shaped)
    (all_touched P zxid (parent_of path) rows (row_at (parent_of path) rows) refl keeps.touched all)
all_after_op P sessions zxid (Set path body version) rows pass shaped keeps all = all_set P sessions zxid path body version rows (row_at path rows) refl pass shaped keeps all
all_after_op P sessions zxid (Delete path version) rows pass shaped keeps all =
    all_without P path (with_child_change zxid (row_at (parent_of path) rows) rows) (all_touched P zxid (parent_of path) rows (row_at (parent_of path) rows) refl keeps.touched all)
all_after_op P sessions zxid (Check path version) rows pass shaped keeps all = all

pub all_ran : (P : Row → Type 0) (sessions : List ℤ) (zxid : ℤ) (os : List Op) (rows : List Row) → Passes sessions zxid os rows → All KeepsShape os → Keeps P sessions zxid → All P rows → All P (ran zxid os rows)
all_ran P sessions zxid [] rows passes shaped keeps all = all
all_ran P sessions zxid (o ∷ os) rows passes shaped keeps all =
    all_ran P sessions zxid os (after_op zxid o rows) passes.1 (All-tail KeepsShape o os shaped) keeps (all_after_op P sessions zxid o rows passes.0 (All-head KeepsShape o os shaped) keeps all)

-- ---- none is later

not_less : (a b : ℤ) → a ≤ℤ b → int_lt b a ≡ false
not_less a b h = grind (arith, ints)

pub none_later : (P : Row → Type 0) (zxid : ℤ) → ((r : Row) → P r → (r.mzxid ≤ℤ zxid) × (r.pzxid ≤ℤ zxid)) → (rows : List Row) → All P rows → filter (is_later zxid) rows ≡ []
none_later P zxid low [] all = refl
none_later P zxid low (r ∷ rows) all =
    let both = low r (All-head P r rows all) in
    ap (λ b. cond b (r ∷ filter (is_later zxid) rows) (filter (is_later zxid) rows)) (ap (λ b. b || int_lt zxid r.pzxid) (not_less r.mzxid zxid both.0) ∙ not_less r.pzxid zxid both.1)
    ∙ none_later P zxid low rows (All-tail P r rows all)
