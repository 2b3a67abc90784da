-- What a transaction makes of what is known of a file.
use Rattle.std.proofs.Common.{◌≡◌, ◌⊎◌, ℕ, ℤ, pos, ◌+ℤ◌, Bool, true, false, cond, List, [], ◌++◌, Option, Some, None, is_some, Result, Ok, Err, refl, sym, ap, ◌∙◌, subst, inl, inr, ⊎_elim}
use Rattle.std.specs.Prelude.{is_none, not}
use Rattle.std.proofs.lemmas.Bool.Decides.{Decides-int_eq}
use Rattle.kz_types.specs.declared.tree.Row.{Row}
use Rattle.kz_types.specs.declared.tree.Op.{Op}
use Rattle.kz_spec_data.specs.Tree.{Tree, multi, begin_session, end_session}
use Rattle.kz_spec_data.specs.declared.files.Txn.{Txn}
use Rattle.kz_spec_data.specs.declared.files.Txn.TheVariants.{Multi, LoadRows, LoadEnd, Begin, End}
use Rattle.kz_spec_data.specs.Requests.{Either, Between}
use Rattle.kz_spec_data.specs.Loads.{is_header, are_loadable, is_load}
use Rattle.kz_spec_data.specs.TreeFile.{Load, fresh, under_way, over, is_fresh, Stored, stored_of, stored_next, load_with_rows, with_load, stored_by_load, after_txn}
use Rattle.kz_disk.specs.Disks.{StaysTold}
use Rattle.kz_spec_data.specs.Frames.{tree_letter, journal_of}
use Rattle.kz_tree_store.specs.Opened.{Known, known_of, known_in, rows_known, IsTreeFile, LeavesTree}
use Rattle.kz_tree_store.specs.Changes.{MakesTree, MakesKnown, HasTxn, LeftByTxn}
use Rattle.kz_tree_store.proofs.Frames.{same_after, left_by_change}
use Rattle.kz_tree_store.specs.Held.{ArePositive}
use Rattle.kz_tree_store.specs.Taken.{ended}
use Rattle.kz_tree_store.specs.LoadCalls.{rows_so_far, without_load, IsUnderWay}
use Rattle.kz_tree_store.proofs.Positive.{both, header_positive}

-- ---- changes of the tree

next_is : {E : Type 0} (t new : Tree) (r : Result Tree E) → r ≡ Ok new → stored_next (t.zxid +ℤ pos 1) t r ≡ Some (record { tree = new; load = over })
next_is t new r h = ap (λ b. cond b (stored_of r) None) ((Decides-int_eq (t.zxid +ℤ pos 1) (t.zxid +ℤ pos 1)).1 refl) ∙ ap stored_of h

pub multi_makes : (t new : Tree) (ops : List Op) → multi t ops ≡ Ok new → MakesTree (Multi (t.zxid +ℤ pos 1) ops) t new
unfolding after_txn
multi_makes t new ops h load = next_is t new (multi t ops) h

pub begin_makes : (t new : Tree) (session : ℤ) → begin_session t session ≡ Ok new → MakesTree (Begin (t.zxid +ℤ pos 1) session) t new
unfolding after_txn
begin_makes t new session h load = next_is t new (begin_session t session) h

pub end_makes : (t new : Tree) (session : ℤ) → end_session t session ≡ Ok new → MakesTree (End (t.zxid +ℤ pos 1) session) t new
unfolding after_txn
end_makes t new session h load = next_is t new (end_session t session) h

-- what is known after a change of the tree
abbrev pub changed : Tree → Known
changed t = record { tree = t; fresh = false; loaded = None }

pub tree_makes : (t : Txn) (k : Known) (new : Tree) → MakesTree t k.tree new → MakesKnown t k (changed new)
tree_makes t k new h s is =
    let tree : s.tree ≡ k.tree = ap (λ (x : Known). x.tree) is in
    (record { tree = new; load = over }, ap (λ (x : Tree). after_txn (record { tree = x; load = s.load }) t) tree ∙ h s.load, refl)

-- ---- loads

-- what is known of the load
record LoadIs (tree : Tree) (unwritten : Bool) (loaded : Option (List Row)) (s : Stored) : Type 0 where
  tree_is : s.tree ≡ tree
  fresh_is : is_fresh s.load ≡ unwritten
  rows_are : rows_known (is_some loaded) s.load ≡ loaded

load_is : (k : Known) (s : Stored) → known_of (is_some k.loaded) s ≡ k → LoadIs k.tree k.fresh k.loaded s
load_is k s is = record { tree_is = ap (λ (x : Known). x.tree) is; fresh_is = ap (λ (x : Known). x.fresh) is; rows_are = ap (λ (x : Known). x.loaded) is }

under_way_is : (l : Load) (rows : List Row) → rows_known true l ≡ Some rows → l ≡ under_way rows
under_way_is fresh rows h = absurd (cc)
under_way_is (under_way before) rows h = ap under_way (let same : before ≡ rows = cc in same)
under_way_is over rows h = absurd (cc)

anew : (l : Load) (rows : List Row) → is_fresh l ≡ true → load_with_rows true rows l ≡ Some (under_way rows)
anew fresh rows h = refl
anew (under_way before) rows h = refl
anew over rows h = absurd (cc)

rows_make : (l : Load) (loaded : Option (List Row)) (rows : List Row) → is_fresh l ≡ true → rows_known (is_some loaded) l ≡ loaded → load_with_rows (is_none loaded) rows l ≡ Some (under_way (rows_so_far loaded ++ rows))
rows_make l None rows new known = anew l rows new
rows_make l (Some before) rows new known = ap (load_with_rows false rows) (under_way_is l before known)

pub load_rows_make : (k : Known) (rows : List Row) → k.fresh ≡ true → MakesKnown (LoadRows (is_none k.loaded) rows) k (record { tree = k.tree; fresh = true; loaded = Some (rows_so_far k.loaded ++ rows) })
unfolding after_txn
load_rows_make k rows new s is =
    let l = load_is k s is in (
      record { tree = s.tree; load = under_way (rows_so_far k.loaded ++ rows) },
      ap (with_load s.tree) (rows_make s.load k.loaded rows (l.fresh_is ∙ new) l.rows_are),
      ap (λ (t : Tree). record { tree = t; fresh = true; loaded = Some (rows_so_far k.loaded ++ rows) }) l.tree_is,
    )

end_makes_load : (zxid : ℤ) (sessions : List ℤ) (rows : List Row) (l : Load) → l ≡ under_way rows → is_load zxid sessions rows ≡ true
    → stored_by_load zxid sessions l ≡ Some (record { tree = record { zxid = zxid; sessions = sessions; rows = rows }; load = over })
end_makes_load zxid sessions rows l is h =
    ap (stored_by_load zxid sessions) is ∙ ap (λ b. cond b (Some (record { tree = record { zxid = zxid; sessions = sessions; rows = rows }; load = over })) None) h

pub load_end_makes : (tree : Tree) (unwritten : Bool) (zxid : ℤ) (sessions : List ℤ) (rows : List Row) → is_load zxid sessions rows ≡ true
    → MakesKnown (LoadEnd zxid sessions) (record { tree = tree; fresh = unwritten; loaded = Some rows }) (changed (record { zxid = zxid; sessions = sessions; rows = rows }))
unfolding after_txn
load_end_makes tree unwritten zxid sessions rows h s is =
    let k : Known = record { tree = tree; fresh = unwritten; loaded = Some rows } in
    let l = load_is k s is in
    (record { tree = record { zxid = zxid; sessions = sessions; rows = rows }; load = over }, end_makes_load zxid sessions rows s.load (under_way_is s.load rows l.rows_are) h, refl)

-- ---- the same of an equal tree

pub multi_change : (t same new : Tree) (ops : List Op) (txn : Txn) → same ≡ t → multi t ops ≡ Ok new → txn ≡ Multi (same.zxid +ℤ pos 1) ops → MakesTree txn same new
multi_change t same new ops txn e h is = subst (λ x. MakesTree x same new) (sym is) (multi_makes same new ops (ap (λ x. multi x ops) e ∙ h))

pub begin_change : (t same new : Tree) (session : ℤ) (txn : Txn) → same ≡ t → begin_session t session ≡ Ok new → txn ≡ Begin (same.zxid +ℤ pos 1) session → MakesTree txn same new
begin_change t same new session txn e h is = subst (λ x. MakesTree x same new) (sym is) (begin_makes same new session (ap (λ x. begin_session x session) e ∙ h))

pub end_change : (t same new : Tree) (session : ℤ) (txn : Txn) → same ≡ t → end_session t session ≡ Ok new → txn ≡ End (same.zxid +ℤ pos 1) session → MakesTree txn same new
end_change t same new session txn e h is = subst (λ x. MakesTree x same new) (sym is) (end_makes same new session (ap (λ x. end_session x session) e ∙ h))

-- ---- a call of a load

-- the frame of znodes is whole
pub rows_written : (t : Txn) (k : Known) (first : Bool) (rows all : List Row) (before : Option (List Row)) (told now : Option (List ℕ)) → StaysTold told now → ((file : List ℕ) → told ≡ Some file → IsTreeFile file k)
    → ((file : List ℕ) → told ≡ Some file → HasTxn t file now) → k.fresh ≡ true → t ≡ LoadRows first rows → first ≡ is_none k.loaded → before ≡ k.loaded → all ≡ rows_so_far before ++ rows
    → (file : List ℕ) → now ≡ Some file → IsTreeFile file (record { tree = k.tree; fresh = k.fresh; loaded = Some all })
rows_written t k first rows all before told now stays same written new is first_is before_is all_is file here =
    let made : Known = record { tree = k.tree; fresh = true; loaded = Some (rows_so_far k.loaded ++ rows) } in
    let makes : MakesKnown t k made = subst (λ x. MakesKnown x k made) (sym (is ∙ ap (λ b. LoadRows b rows) first_is)) (load_rows_make k rows new) in
    let goes : rows_so_far k.loaded ++ rows ≡ all = ap (λ b. rows_so_far b ++ rows) (sym before_is) ∙ sym all_is in
    subst (λ b. IsTreeFile file (record { tree = k.tree; fresh = b; loaded = Some all })) (sym new)
    (subst (λ rs. IsTreeFile file (record { tree = k.tree; fresh = true; loaded = Some rs })) goes (same_after t k made told now stays same written makes file here))

-- a stop while it is written
pub rows_left : (t : Txn) (k : Known) (first : Bool) (rows : List Row) (told now : Option (List ℕ)) (leaves : List ℕ → Type 0) → StaysTold told now → ((file : List ℕ) → told ≡ Some file → IsTreeFile file k)
    → ((file : List ℕ) → told ≡ Some file → (left : List ℕ) → leaves left → LeftByTxn t (journal_of tree_letter file) left) → k.fresh ≡ true → t ≡ LoadRows first rows → first ≡ is_none k.loaded
    → (found : Option Tree) → LeavesTree now leaves found → found ≡ Some k.tree
rows_left t k first rows told now leaves stays same stop new is first_is found left =
    let made : Known = record { tree = k.tree; fresh = true; loaded = Some (rows_so_far k.loaded ++ rows) } in
    let makes : MakesKnown t k made = subst (λ x. MakesKnown x k made) (sym (is ∙ ap (λ b. LoadRows b rows) first_is)) (load_rows_make k rows new) in
    ⊎_elim (λ same. same) (λ same. same) (left_by_change t k made told now leaves stays same stop makes found left)

end_makes_known : (t : Txn) (k : Known) (zxid : ℤ) (sessions : List ℤ) (rows : List Row) → k.loaded ≡ Some rows → is_load zxid sessions rows ≡ true → t ≡ LoadEnd zxid sessions → MakesKnown t k (changed (record { zxid = zxid; sessions = sessions; rows = rows }))
end_makes_known t k zxid sessions rows has keeps is =
    let made : Known = changed (record { zxid = zxid; sessions = sessions; rows = rows }) in
    let same : ◌≡◌ {A = Known} (record { tree = k.tree; fresh = k.fresh; loaded = Some rows }) k = ap (λ (l : Option (List Row)). record { tree = k.tree; fresh = k.fresh; loaded = l }) (sym has) in
    subst (λ x. MakesKnown t x made) same (subst (λ u. MakesKnown u (record { tree = k.tree; fresh = k.fresh; loaded = Some rows }) made) (sym is) (load_end_makes k.tree k.fresh zxid sessions rows keeps))

-- the frame of the end is whole
pub end_written : (t : Txn) (k : Known) (zxid : ℤ) (sessions : List ℤ) (rows : List Row) (tree : Tree) (told now : Option (List ℕ)) → StaysTold told now → ((file : List ℕ) → told ≡ Some file → IsTreeFile file k)
    → ((file : List ℕ) → told ≡ Some file → HasTxn t file now) → k.loaded ≡ Some rows → is_load zxid sessions rows ≡ true → t ≡ LoadEnd zxid sessions → tree ≡ record { zxid = zxid; sessions = sessions; rows = rows }
    → (file : List ℕ) → now ≡ Some file → IsTreeFile file (changed tree)
end_written t k zxid sessions rows tree told now stays same written has keeps is tree_is file here =
    subst (λ (x : Tree). IsTreeFile file (changed x)) (sym tree_is)
    (same_after t k (changed (record { zxid = zxid; sessions = sessions; rows = rows })) told now stays same written (end_makes_known t k zxid sessions rows has keeps is) file here)

-- a stop while it is written
pub end_left : (t : Txn) (k : Known) (zxid : ℤ) (sessions : List ℤ) (rows : List Row) (told now : Option (List ℕ)) (leaves : List ℕ → Type 0) → StaysTold told now → ((file : List ℕ) → told ≡ Some file → IsTreeFile file k)
    → ((file : List ℕ) → told ≡ Some file → (left : List ℕ) → leaves left → LeftByTxn t (journal_of tree_letter file) left) → k.loaded ≡ Some rows → is_load zxid sessions rows ≡ true → t ≡ LoadEnd zxid sessions
    → (found : Option Tree) → LeavesTree now leaves found → (found ≡ Some k.tree) ⊎ (found ≡ Some (record { zxid = zxid; sessions = sessions; rows = rows }))
end_left t k zxid sessions rows told now leaves stays same stop has keeps is =
    left_by_change t k (changed (record { zxid = zxid; sessions = sessions; rows = rows })) told now leaves stays same stop (end_makes_known t k zxid sessions rows has keeps is)

tree_of_some : (a b : Stored) → ◌≡◌ {A = Option Stored} (Some a) (Some b) → a.tree ≡ b.tree
tree_of_some a b h = let same : a ≡ b = cc in ap (λ (s : Stored). s.tree) same

-- the tree of a load that keeps the rules
pub loaded_is : (zxid z : ℤ) (sessions ss : List ℤ) (rows rs : List Row) (t : Tree) → z ≡ zxid → ss ≡ sessions → rs ≡ rows → is_load zxid sessions rows ≡ true → stored_by_load z ss (under_way rs) ≡ Some (ended t)
    → t ≡ record { zxid = zxid; sessions = sessions; rows = rows }
loaded_is zxid z sessions ss rows rs t z_is ss_are rs_are keeps h =
    let made : Stored = record { tree = record { zxid = zxid; sessions = sessions; rows = rows }; load = over } in
    let same = ap (λ y. stored_by_load y ss (under_way rs)) z_is ∙ ap (λ y. stored_by_load zxid y (under_way rs)) ss_are ∙ ap (λ y. stored_by_load zxid sessions (under_way y)) rs_are in
    sym (tree_of_some made (ended t) (sym (ap (λ b. cond b (Some made) None) keeps) ∙ sym same ∙ h))

pub load_positive : (zxid : ℤ) (sessions : List ℤ) (rows : List Row) (t : Tree) → is_load zxid sessions rows ≡ true → t ≡ record { zxid = zxid; sessions = sessions; rows = rows } → ArePositive t.sessions
load_positive zxid sessions rows t keeps is =
    subst (λ (x : Tree). ArePositive x.sessions) (sym is) (header_positive zxid sessions (both (is_header zxid sessions) (are_loadable zxid sessions [] rows) keeps).0)

-- what is known of a file, without the load that was begun
abbrev without_loads : Result Known ℕ → Result Known ℕ
without_loads (Ok k) = Ok (without_load k)
without_loads (Err at) = Err at

pub known_without : (begun : Bool) (r : Result Stored ℕ) (k : Known) → known_in begun r ≡ Ok k → known_in false r ≡ Ok (without_load k)
known_without begun (Ok s) k h = ap without_loads h
known_without begun (Err at) k h = ap without_loads h

-- all znodes of a load are in a file, and none was begun before
pub all_rows_written : (t : Txn) (k : Known) (rows : List Row) (told now : Option (List ℕ)) → StaysTold told now → ((file : List ℕ) → told ≡ Some file → IsTreeFile file k)
    → ((file : List ℕ) → told ≡ Some file → HasTxn t file now) → k.fresh ≡ true → t ≡ LoadRows true rows → k.loaded ≡ None → IsUnderWay now rows k
all_rows_written t k rows told now stays same written new is none = rows_written t k true rows rows None told now stays same written new is (sym (ap is_none none)) (sym none) refl

-- a stop in a request whose change was prepared
pub between : {E : Type 0} (t same new : Tree) (made : Result Tree E) (left : Option Tree → Type 0) → same ≡ t → made ≡ Ok new → Either same new left → Between t made left
between t same new made left e is either = λ found here. ⊎_elim (λ h. inl (h ∙ ap Some e)) (λ h. inr (new, is, h)) (either found here)

pub none_is : (o : Option (List Row)) (b : Bool) → is_some o ≡ not b → b ≡ is_none o
none_is None true h = refl
none_is None false h = absurd (cc)
none_is (Some rows) true h = absurd (cc)
none_is (Some rows) false h = refl
