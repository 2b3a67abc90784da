-- The tree of an input keeps the rules of a load.
use Rattle.std.proofs.Common.{◌≡◌, ℕ, ◌+◌, ℤ, Bool, true, false, cond, ◌&&◌, List, [], ◌∷◌, ◌++◌, Option, Some, None, Result, Ok, Err, is_none, All, refl, sym, ap, ◌∙◌, subst, append_assoc}
use Rattle.std.specs.Str.{is_utf8}
use Rattle.std.proofs.lemmas.List.{append-nil}
use Rattle.std.proofs.lemmas.List.Elements.{All-nil, All-cons, All-weaker}
use Rattle.kz_types.specs.declared.outside.Status.{Status}
use Rattle.kz_types.specs.declared.outside.Status.TheVariants as status
use Rattle.kz_types.specs.declared.tree.Row.{Row}
use Rattle.kz_types.specs.PathRule.{is_path, has_path_form}
use Rattle.kz_spec_data.specs.Lines.{Item, line, long, much, items}
use Rattle.kz_spec_data.specs.Tree.{Tree, is_root}
use Rattle.kz_spec_data.specs.Log.{empty_log}
use Rattle.kz_spec_data.specs.Loads.{LoadRefusal, is_header, row_refusal, are_loadable}
use Rattle.kz_spec_machine.specs.Sound.{IsNotRoot}
use Rattle.kz_spec_machine.specs.Openings.{IsSoundPair}
use Rattle.kz_spec_machine.specs.declared.dumps.LoadLine.{LoadLine}
use Rattle.kz_spec_machine.specs.declared.dumps.LoadLine.TheVariants.{Head, Znode}
use Rattle.kz_spec_machine.specs.LoadLines.{load_line}
use Rattle.kz_spec_machine.specs.Loading.{tree_with, with_znode, at_line, tree_after, at_head, tree_of_items, loaded}
use Rattle.kz_laws_scripts.proofs.Given.{OfSome}
use Rattle.kz_laws_loads.specs.Loads.{HasPath, IsLoadOf}
use Rattle.kz_laws_loads.proofs.Lines.{IsNamed, line_named}
use Rattle.kz_laws_loads.proofs.Pairs.{loaded_pair}

same_ok : (t u : Tree) (r : Result Tree Status) → r ≡ Ok t → r ≡ Ok u → t ≡ u
same_ok t u r h g = cc

-- ---- the lines after the first

-- the tree has further znodes after these, which keep the rules
record IsWithMore (zxid : ℤ) (sessions : List ℤ) (before : List Row) (t : Tree) : Type 0 where
  rows : List Row
  is : t ≡ tree_with zxid sessions (before ++ rows)
  load : are_loadable zxid sessions before rows ≡ true
  paths : All HasPath rows

-- what is said of the lines after one
abbrev Goes : ℤ → List ℤ → (List Row → Result Tree Status) → Type 0
Goes zxid sessions go = (rows : List Row) (t : Tree) → go rows ≡ Ok t → IsWithMore zxid sessions rows t

znode_more : (number : ℕ) (zxid : ℤ) (sessions : List ℤ) (before : List Row) (r : Row) (go : List Row → Result Tree Status) (t : Tree) (m : Option LoadRefusal)
    → row_refusal zxid sessions before r ≡ m → HasPath r → Goes zxid sessions go → with_znode number m before r go ≡ Ok t → IsWithMore zxid sessions before t
znode_more number zxid sessions before r go t (Some refusal) is named goes h = absurd (cc)
znode_more number zxid sessions before r go t None is named goes h =
    let more = goes (before ++ r ∷ []) t h in
    record {
      rows = r ∷ more.rows;
      is = more.is ∙ ap (tree_with zxid sessions) (append_assoc before (r ∷ []) more.rows);
      load = ap (λ m. is_none m && are_loadable zxid sessions (before ++ r ∷ []) more.rows) is ∙ more.load;
      paths = All-cons HasPath r more.rows named more.paths;
    }

line_more : (number : ℕ) (zxid : ℤ) (sessions : List ℤ) (before : List Row) (go : List Row → Result Tree Status) (t : Tree) (o : Option LoadLine)
    → OfSome IsNamed o → Goes zxid sessions go → at_line number zxid sessions before o go ≡ Ok t → IsWithMore zxid sessions before t
line_more number zxid sessions before go t None named goes h = absurd (cc)
line_more number zxid sessions before go t (Some (Head z ss)) named goes h = absurd (cc)
line_more number zxid sessions before go t (Some (Znode r)) named goes h = znode_more number zxid sessions before r go t (row_refusal zxid sessions before r) refl named goes h

lines_more : (number : ℕ) (zxid : ℤ) (sessions : List ℤ) (is : List Item) (before : List Row) (t : Tree) → tree_after number zxid sessions before is ≡ Ok t → IsWithMore zxid sessions before t
lines_more number zxid sessions [] before t h = record {
  rows = [];
  is = same_ok t (tree_with zxid sessions (before ++ [])) (Ok t) refl (sym h ∙ ap (λ rows. Ok (tree_with zxid sessions rows)) (sym (append-nil before)));
  load = refl;
  paths = All-nil HasPath;
}
lines_more number zxid sessions (line l ∷ is) before t h =
    line_more number zxid sessions before (λ rows. tree_after (number + 1) zxid sessions rows is) t (load_line l) (line_named l) (λ rows u g. lines_more (number + 1) zxid sessions is rows u g) h
lines_more number zxid sessions (long ∷ is) before t h = absurd (cc)
lines_more number zxid sessions (much ∷ is) before t h = absurd (cc)

-- ---- the whole input

load_of : (zxid : ℤ) (sessions : List ℤ) (t : Tree) → is_header zxid sessions ≡ true → IsWithMore zxid sessions [] t → IsLoadOf t
load_of zxid sessions t header more = subst IsLoadOf (sym more.is) (record { load = ap (λ b. b && are_loadable zxid sessions [] more.rows) header ∙ more.load; paths = more.paths })

checked : (zxid : ℤ) (sessions : List ℤ) (t : Tree) (r : Result Tree Status) (b : Bool) → is_header zxid sessions ≡ b → (r ≡ Ok t → IsWithMore zxid sessions [] t)
    → cond b r (Err (status.Script 1)) ≡ Ok t → IsLoadOf t
checked zxid sessions t r true is goes h = load_of zxid sessions t is (goes h)
checked zxid sessions t r false is goes h = absurd (cc)

head_load : (is : List Item) (t : Tree) (o : Option LoadLine) → at_head o (λ zxid sessions. tree_after 2 zxid sessions [] is) ≡ Ok t → IsLoadOf t
head_load is t None h = absurd (cc)
head_load is t (Some (Znode r)) h = absurd (cc)
head_load is t (Some (Head zxid sessions)) h =
    checked zxid sessions t (tree_after 2 zxid sessions [] is) (is_header zxid sessions) refl (λ g. lines_more 2 zxid sessions is [] t g) h

items_load : (is : List Item) (t : Tree) → tree_of_items is ≡ Ok t → IsLoadOf t
items_load [] t h = absurd (cc)
items_load (line l ∷ is) t h = head_load is t (load_line l) h
items_load (long ∷ is) t h = absurd (cc)
items_load (much ∷ is) t h = absurd (cc)

pub input_load : (input : List ℕ) (t : Tree) → loaded input ≡ Ok t → IsLoadOf t
unfolding loaded
input_load input t h = items_load (items input) t h

-- ---- a run may begin

no_slash : (a : Bool) → (a && false && true && true) ≡ false
no_slash true = refl
no_slash false = refl

empty_path : is_path [] ≡ false
unfolding is_path has_path_form
empty_path = no_slash (is_utf8 [])

named_by_path : (path : List ℕ) → is_path path ≡ true → is_root path ≡ false
named_by_path [] is = absurd (cc (empty_path))
named_by_path (b ∷ bs) is = refl

not_root : (r : Row) → HasPath r → IsNotRoot r
not_root r named = named_by_path r.path named

pub input_pair : (input : List ℕ) (t : Tree) → loaded input ≡ Ok t → IsSoundPair t empty_log
input_pair input t h =
    let l = input_load input t h in
    loaded_pair t.zxid t.sessions t.rows l.load (All-weaker HasPath IsNotRoot not_root t.rows l.paths)
