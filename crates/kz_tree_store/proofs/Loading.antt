-- The znodes of a load, one after another.
use Rattle.std.proofs.Common.{◌≡◌, ℤ, Bool, true, false, cond, List, [], ◌∷◌, ◌++◌, Option, Some, None, Err, refl, sym, ap, ◌∙◌, subst}
use Rattle.std.specs.Prelude.{is_none, ◌&&◌}
use Rattle.kz_types.specs.declared.tree.Row.{Row}
use Rattle.kz_spec_data.specs.Tree.{Tree}
use Rattle.kz_spec_data.specs.Loads.{LoadRefusal, is_header, row_refusal, are_loadable, is_load}
use Rattle.kz_spec_data.specs.TreeFile.{over, under_way, stored_by_load}
use Rattle.kz_tree.specs.declared.load.LoadFault.{LoadFault}
use Rattle.kz_tree.specs.declared.load.LoadFault.TheVariants.{Broken, Limit, NoMemory}
use Rattle.kz_tree.specs.Loads.{IsHeaderFaultOf, IsRowFaultOf, with_row}
use Rattle.kz_tree_store.specs.declared.fault.FrameFault.{FrameFault}
use Rattle.kz_tree_store.specs.Taken.{Says, ended, frame_fault_of}

-- a znode that keeps the rules
pub load_more : (zxid : ℤ) (sessions : List ℤ) (before : List Row) (r : Row) (rs : List Row) → row_refusal zxid sessions before r ≡ None
    → are_loadable zxid sessions (before ++ r ∷ []) rs ≡ are_loadable zxid sessions before (r ∷ rs)
load_more zxid sessions before r rs h = sym (ap (λ (o : Option LoadRefusal). is_none o && are_loadable zxid sessions (before ++ r ∷ []) rs) h)

load_stops : (zxid : ℤ) (sessions : List ℤ) (before : List Row) (r : Row) (rs : List Row) (why : LoadRefusal) → row_refusal zxid sessions before r ≡ Some why → are_loadable zxid sessions before (r ∷ rs) ≡ false
load_stops zxid sessions before r rs why h = ap (λ (o : Option LoadRefusal). is_none o && are_loadable zxid sessions (before ++ r ∷ []) rs) h

no_load : (zxid : ℤ) (sessions : List ℤ) (rows : List Row) → is_load zxid sessions rows ≡ false → stored_by_load zxid sessions (under_way rows) ≡ None
no_load zxid sessions rows h = ap (λ b. cond b (Some (record { tree = record { zxid = zxid; sessions = sessions; rows = rows }; load = over })) None) h

not_all : (a b : Bool) → b ≡ false → (a && b) ≡ false
not_all true b h = h
not_all false b h = refl

-- a header that isn't taken
pub header_stops : (f : LoadFault) (zxid : ℤ) (sessions : List ℤ) (rows : List Row) → IsHeaderFaultOf (is_header zxid sessions) f → Says {X = Tree} ended (Err (frame_fault_of f)) (stored_by_load zxid sessions (under_way rows))
header_stops Broken zxid sessions rows h = no_load zxid sessions rows (ap (λ b. b && are_loadable zxid sessions [] rows) h)
header_stops (Limit n) zxid sessions rows h = absurd h
header_stops NoMemory zxid sessions rows h = tt

-- a znode that isn't taken
pub row_stops : (f : LoadFault) (zxid : ℤ) (sessions : List ℤ) (before : List Row) (r : Row) (rs rows : List Row) → IsRowFaultOf (row_refusal zxid sessions before r) f
    → are_loadable zxid sessions before (r ∷ rs) ≡ are_loadable zxid sessions [] rows → Says {X = Tree} ended (Err (frame_fault_of f)) (stored_by_load zxid sessions (under_way rows))
row_stops Broken zxid sessions before r rs rows h same = no_load zxid sessions rows (not_all (is_header zxid sessions) _ (sym same ∙ load_stops zxid sessions before r rs _ h))
row_stops (Limit n) zxid sessions before r rs rows h same = no_load zxid sessions rows (not_all (is_header zxid sessions) _ (sym same ∙ load_stops zxid sessions before r rs _ h))
row_stops NoMemory zxid sessions before r rs rows h same = tt

-- ---- one znode more

-- a tree has these parts
pub record Has (zxid : ℤ) (sessions : List ℤ) (rows : List Row) (t : Tree) : Type 0 where
  pub zxid_is : t.zxid ≡ zxid
  pub sessions_are : t.sessions ≡ sessions
  pub rows_are : t.rows ≡ rows

pub refusal_here : (zxid : ℤ) (sessions : List ℤ) (before : List Row) (t : Tree) (r : Row) → Has zxid sessions before t → row_refusal t.zxid t.sessions t.rows r ≡ row_refusal zxid sessions before r
refusal_here zxid sessions before t r h =
    ap (λ z. row_refusal z t.sessions t.rows r) h.zxid_is ∙ ap (λ ss. row_refusal zxid ss t.rows r) h.sessions_are ∙ ap (λ rs. row_refusal zxid sessions rs r) h.rows_are

pub has_more : (zxid : ℤ) (sessions : List ℤ) (before : List Row) (t new : Tree) (r : Row) → Has zxid sessions before t → new ≡ with_row r t → Has zxid sessions (before ++ r ∷ []) new
has_more zxid sessions before t new r h made = record {
  zxid_is = ap (λ (x : Tree). x.zxid) made ∙ h.zxid_is;
  sessions_are = ap (λ (x : Tree). x.sessions) made ∙ h.sessions_are;
  rows_are = ap (λ (x : Tree). x.rows) made ∙ ap (λ b. b ++ r ∷ []) h.rows_are;
}

pub rest_more : (zxid : ℤ) (sessions : List ℤ) (before left rest rows : List Row) (t : Tree) (r : Row) → Has zxid sessions before t → left ≡ r ∷ rest → row_refusal t.zxid t.sessions t.rows r ≡ None
    → are_loadable zxid sessions before left ≡ are_loadable zxid sessions [] rows → are_loadable zxid sessions (before ++ r ∷ []) rest ≡ are_loadable zxid sessions [] rows
rest_more zxid sessions before left rest rows t r h is none same = load_more zxid sessions before r rest (sym (refusal_here zxid sessions before t r h) ∙ none) ∙ sym (ap (are_loadable zxid sessions before) is) ∙ same

pub stops_here : (f : LoadFault) (zxid : ℤ) (sessions : List ℤ) (before left rest rows : List Row) (t : Tree) (r : Row) → Has zxid sessions before t → left ≡ r ∷ rest → IsRowFaultOf (row_refusal t.zxid t.sessions t.rows r) f
    → are_loadable zxid sessions before left ≡ are_loadable zxid sessions [] rows → (told : FrameFault) → told ≡ frame_fault_of f → Says {X = Tree} ended (Err told) (stored_by_load zxid sessions (under_way rows))
stops_here f zxid sessions before left rest rows t r h is refused same told told_is =
    subst (λ (e : FrameFault). Says {X = Tree} ended (Err e) (stored_by_load zxid sessions (under_way rows))) (sym told_is)
    (row_stops f zxid sessions before r rest rows (subst (λ (o : Option LoadRefusal). IsRowFaultOf o f) (refusal_here zxid sessions before t r h) refused) (sym (ap (are_loadable zxid sessions before) is) ∙ same))
