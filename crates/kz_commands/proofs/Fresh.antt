-- Which tree a file stands for that holds nothing but an unfinished load.
use Rattle.std.proofs.Common.{◌≡◌, ℕ, Bool, true, false, not, cond, List, [], ◌∷◌, Option, Some, None, Result, Ok, Err, refl, ap}
use Rattle.std.specs.Prelude.{⊤, ℤ}
use Rattle.kz_types.specs.declared.tree.Row.{Row}
use Rattle.kz_spec_data.specs.Tree.{Tree, empty_tree}
use Rattle.kz_spec_data.specs.declared.files.Txn.{Txn}
use Rattle.kz_spec_data.specs.declared.files.Txn.TheVariants.{Multi, LoadRows, LoadEnd, Begin, End}
use Rattle.kz_spec_data.specs.Frames.{Framed, Journal}
use Rattle.kz_spec_data.specs.Transactions.{txn_of}
use Rattle.kz_spec_data.specs.Loads.{is_load}
use Rattle.kz_spec_data.specs.TreeFile.{Load, fresh, under_way, over, Stored, nothing_stored, stored_of, load_with_rows, with_load, stored_by_load, after_txn, after_reading, or_damaged, after_frames, whole_or_damaged, stored_in, tree_of_stored, is_fresh}
use Rattle.kz_spec_machine.specs.Files.{tree_damage}
use Rattle.kz_spec_machine.specs.Init.{holds_tree}
use Rattle.kz_tree_store.specs.Stores.{is_fresh_file}

abbrev FreshIsEmpty : Stored → Type 0
FreshIsEmpty s = is_fresh s.load ≡ true → s.tree ≡ empty_tree

abbrev SomeFreshIsEmpty : Option Stored → Type 0
SomeFreshIsEmpty None = ⊤
SomeFreshIsEmpty (Some s) = FreshIsEmpty s

abbrev AllFreshIsEmpty : Result Stored ℕ → Type 0
AllFreshIsEmpty (Ok s) = FreshIsEmpty s
AllFreshIsEmpty (Err at) = ⊤

next_fresh : {E : Type 0} (b : Bool) (made : Result Tree E) → SomeFreshIsEmpty (cond b (stored_of made) None)
next_fresh true (Ok t) = λ is. cc is
next_fresh true (Err e) = tt
next_fresh false made = tt

rows_fresh : (first : Bool) (rows : List Row) (s : Stored) (l : Load) → s.load ≡ l → FreshIsEmpty s → SomeFreshIsEmpty (with_load s.tree (load_with_rows first rows l))
rows_fresh true rows s fresh is h = λ _. h (ap is_fresh is)
rows_fresh false rows s fresh is h = tt
rows_fresh first rows s (under_way before) is h = λ _. h (ap is_fresh is)
rows_fresh first rows s over is h = tt

ended_fresh : (b : Bool) (t : Tree) → SomeFreshIsEmpty (cond b (Some (record { tree = t; load = over })) None)
ended_fresh true t = λ is. cc is
ended_fresh false t = tt

load_fresh : (zxid : ℤ) (sessions : List ℤ) (l : Load) → SomeFreshIsEmpty (stored_by_load zxid sessions l)
load_fresh zxid sessions fresh = tt
load_fresh zxid sessions (under_way rows) = ended_fresh (is_load zxid sessions rows) (record { zxid = zxid; sessions = sessions; rows = rows })
load_fresh zxid sessions over = tt

txn_fresh : (s : Stored) (t : Txn) → FreshIsEmpty s → SomeFreshIsEmpty (after_txn s t)
unfolding after_txn
txn_fresh s (Multi zxid ops) h = next_fresh _ _
txn_fresh s (LoadRows first rows) h = rows_fresh first rows s s.load refl h
txn_fresh s (LoadEnd zxid sessions) h = load_fresh zxid sessions s.load
txn_fresh s (Begin zxid session) h = next_fresh _ _
txn_fresh s (End zxid session) h = next_fresh _ _

read_fresh : {E : Type 0} (s : Stored) (r : Result Txn E) → FreshIsEmpty s → SomeFreshIsEmpty (after_reading s r)
read_fresh s (Ok t) h = txn_fresh s t h
read_fresh s (Err e) h = tt

frame_fresh : (at : ℕ) (o : Option Stored) (go : Stored → Result Stored ℕ) → SomeFreshIsEmpty o → ((s : Stored) → FreshIsEmpty s → AllFreshIsEmpty (go s)) → AllFreshIsEmpty (or_damaged at o go)
frame_fresh at None go h rest = tt
frame_fresh at (Some s) go h rest = rest s h

frames_fresh : (fs : List Framed) (s : Stored) → FreshIsEmpty s → AllFreshIsEmpty (after_frames fs s)
unfolding after_frames
frames_fresh [] s h = h
frames_fresh (f ∷ fs) s h = frame_fresh f.at (after_reading s (txn_of f.payload)) (after_frames fs) (read_fresh s (txn_of f.payload) h) (λ t k. frames_fresh fs t k)

by_damage : (damaged : Bool) (at : ℕ) (s : Stored) → FreshIsEmpty s → AllFreshIsEmpty (cond damaged (Err at) (Ok s))
by_damage true at s h = tt
by_damage false at s h = h

whole_fresh : (damaged : Bool) (at : ℕ) (r : Result Stored ℕ) → AllFreshIsEmpty r → AllFreshIsEmpty (whole_or_damaged damaged at r)
whole_fresh damaged at (Ok s) h = by_damage damaged at s h
whole_fresh damaged at (Err e) h = tt

stored_fresh : (j : Journal) → AllFreshIsEmpty (stored_in j)
stored_fresh j = whole_fresh j.damaged j.end (after_frames j.frames nothing_stored) (frames_fresh j.frames nothing_stored (λ is. refl))

-- the tree of a file in which no frame but those of a load stands
pub empty_while_fresh : (r : Result Stored ℕ) (t : Tree) → AllFreshIsEmpty r → tree_of_stored r ≡ Ok t → is_fresh_file r ≡ true → tree_of_stored r ≡ Ok empty_tree
empty_while_fresh (Ok s) t h is unwritten = ap Ok (h unwritten)
empty_while_fresh (Err e) t h is unwritten = absurd (cc unwritten)

pub fresh_tree : (j : Journal) (t : Tree) → tree_of_stored (stored_in j) ≡ Ok t → is_fresh_file (stored_in j) ≡ true → tree_of_stored (stored_in j) ≡ Ok empty_tree
fresh_tree j t is unwritten = empty_while_fresh (stored_in j) t (stored_fresh j) is unwritten

-- ---- what a file that stands for a tree is refused for, and whether it holds one

pub tree_whole : (r : Result Stored ℕ) (t : Tree) → tree_of_stored r ≡ Ok t → tree_damage r ≡ None
tree_whole (Ok s) t is = refl
tree_whole (Err e) t is = absurd (cc is)

pub tree_held : (r : Result Stored ℕ) (t : Tree) (b : Bool) → tree_of_stored r ≡ Ok t → is_fresh_file r ≡ b → holds_tree r ≡ not b
tree_held (Ok s) t b is unwritten = ap not unwritten
tree_held (Err e) t b is unwritten = absurd (cc is)
