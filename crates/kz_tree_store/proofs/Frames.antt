-- One frame more in a tree's file.
use Rattle.std.proofs.Common.{◌≡◌, ◌⊎◌, ◌+◌, ℕ, Bool, true, false, cond, List, [], ◌∷◌, ◌++◌, Option, Some, None, is_some, Result, Ok, Err, refl, sym, ap, ◌∙◌, subst, inl, inr}
use Rattle.kz_disk.specs.Disks.{StaysTold}
use Rattle.kz_spec_data.specs.Tree.{Tree}
use Rattle.kz_spec_data.specs.declared.files.Txn.{Txn}
use Rattle.kz_spec_data.specs.Frames.{Framed, Journal, journal_with_frame, tree_letter, journal_of, journal_with_seal, LeftBySeal, end_after}
use Rattle.kz_spec_data.specs.Transactions.{txn_of}
use Rattle.kz_spec_data.specs.TreeFile.{Stored, nothing_stored, after_reading, or_damaged, after_frames, whole_or_damaged, stored_in, tree_of_stored}
use Rattle.kz_spec_data.specs.Requests.{Disk}
use Rattle.kz_journal.specs.Held.{IsSealed}
use Rattle.kz_journal.specs.Changes.{SealsFile}
use Rattle.kz_tree_store.specs.Opened.{Known, known_of, known_in, IsTreeFile, LeavesTree, tree_found, tree_known}
use Rattle.kz_tree_store.specs.Changes.{MakesKnown, HasTxnMore, HasTxn, LeftByTxn}

-- ---- a journal with a frame more

record Passed (r : Option Stored) (go : Stored → Result Stored ℕ) (s : Stored) : Type 0 where
  made : Stored
  first : r ≡ Some made
  second : go made ≡ Ok s

passed : (at : ℕ) (r : Option Stored) (go : Stored → Result Stored ℕ) (s : Stored) → or_damaged at r go ≡ Ok s → Passed r go s
passed at (Some m) go s h = record { made = m; first = refl; second = h }
passed at None go s h = absurd (cc)

same_stored : (m s : Stored) → ◌≡◌ {A = Result Stored ℕ} (Ok m) (Ok s) → m ≡ s
same_stored m s h = cc

frames_more : (fs : List Framed) (f : Framed) (from s new : Stored) → after_frames fs from ≡ Ok s → after_reading s (txn_of f.payload) ≡ Some new → after_frames (fs ++ f ∷ []) from ≡ Ok new
unfolding after_frames
frames_more [] f from s new h makes = ap (λ r. or_damaged f.at r (after_frames [])) (ap (λ (m : Stored). after_reading m (txn_of f.payload)) (same_stored from s h) ∙ makes)
frames_more (g ∷ fs) f from s new h makes =
    let p = passed g.at (after_reading from (txn_of g.payload)) (after_frames fs) s h in
    ap (λ r. or_damaged g.at r (after_frames (fs ++ f ∷ []))) p.first ∙ frames_more fs f p.made s new p.second makes

whole_by : (b : Bool) (e : ℕ) (m s : Stored) → cond b (Err e) (Ok m) ≡ Ok s → (m ≡ s) × (b ≡ false)
whole_by true e m s h = absurd (cc)
whole_by false e m s h = (same_stored m s h, refl)

whole : (b : Bool) (e : ℕ) (r : Result Stored ℕ) (s : Stored) → whole_or_damaged b e r ≡ Ok s → (r ≡ Ok s) × (b ≡ false)
whole b e (Ok m) s h = let w = whole_by b e m s h in (ap Ok w.0, w.1)
whole b e (Err n) s h = absurd (cc)

stored_more : (j : Journal) (s new : Stored) (payload : List ℕ) → stored_in j ≡ Ok s → after_reading s (txn_of payload) ≡ Some new → stored_in (journal_with_frame payload j) ≡ Ok new
stored_more j s new payload h makes =
    let w = whole j.damaged j.end (after_frames j.frames nothing_stored) s h in
    ap (whole_or_damaged j.damaged (end_after j payload)) (frames_more j.frames (record { at = j.end; payload = payload }) nothing_stored s new w.0 makes)
    ∙ ap (λ b. cond b (Err (end_after j payload)) (Ok new)) w.1

sealed_stored : (j : Journal) (s : Stored) → stored_in j ≡ Ok s → stored_in (journal_with_seal j) ≡ Ok s
sealed_stored j s h =
    let w = whole j.damaged j.end (after_frames j.frames nothing_stored) s h in
    ap (whole_or_damaged j.damaged (j.end + 9)) w.0 ∙ ap (λ b. cond b (Err (j.end + 9)) (Ok s)) w.1

-- ---- what is known

-- what is stored where this is known
record Has (begun : Bool) (r : Result Stored ℕ) (k : Known) : Type 0 where
  stored : Stored
  is : r ≡ Ok stored
  known : known_of begun stored ≡ k

same_known : (a b : Known) → ◌≡◌ {A = Result Known ℕ} (Ok a) (Ok b) → a ≡ b
same_known a b h = cc

has : (begun : Bool) (r : Result Stored ℕ) (k : Known) → known_in begun r ≡ Ok k → Has begun r k
has begun (Ok s) k h = record { stored = s; is = refl; known = same_known (known_of begun s) k h }
has begun (Err at) k h = absurd (cc)

known_more : (j now : Journal) (t : Txn) (old new : Known) → known_in (is_some old.loaded) (stored_in j) ≡ Ok old → HasTxnMore t j now → MakesKnown t old new → known_in (is_some new.loaded) (stored_in now) ≡ Ok new
known_more j now t old new h more makes =
    let was = has (is_some old.loaded) (stored_in j) old h in
    let made = makes was.stored was.known in
    let reads : after_reading was.stored (txn_of more.0) ≡ Some made.0 = ap (after_reading was.stored) more.1 ∙ made.1 in
    ap (known_in (is_some new.loaded)) (ap stored_in more.2 ∙ stored_more j was.stored made.0 more.0 was.is reads) ∙ ap Ok made.2

known_sealed : (j : Journal) (k : Known) → known_in (is_some k.loaded) (stored_in j) ≡ Ok k → known_in (is_some k.loaded) (stored_in (journal_with_seal j)) ≡ Ok k
known_sealed j k h =
    let was = has (is_some k.loaded) (stored_in j) k h in
    ap (known_in (is_some k.loaded)) (sealed_stored j was.stored was.is) ∙ ap Ok was.known

-- ---- a file with a frame more

some_told : (told : Option (List ℕ)) → is_some told ≡ true → (file : List ℕ) × (told ≡ Some file)
some_told None h = absurd (cc)
some_told (Some file) h = (file, refl)

some_same : (told : Option (List ℕ)) (file new : List ℕ) → told ≡ Some file → told ≡ Some new → new ≡ file
some_same told file new h k = cc

told_before : (old new : Option (List ℕ)) (file : List ℕ) → StaysTold old new → new ≡ Some file → (was : List ℕ) × (old ≡ Some was)
told_before old new file stays is = some_told old (sym stays ∙ ap is_some is)

-- Once the frame of a transaction is whole in the file, the file stands for what the transaction makes.
pub same_after : (t : Txn) (k new : Known) (told now : Option (List ℕ)) → StaysTold told now → ((file : List ℕ) → told ≡ Some file → IsTreeFile file k)
    → ((file : List ℕ) → told ≡ Some file → HasTxn t file now) → MakesKnown t k new → (file : List ℕ) → now ≡ Some file → IsTreeFile file new
same_after t k new told now stays same written makes file is =
    let was = told_before told now file stays is in
    let more = written was.0 was.1 in
    let step = known_more (journal_of tree_letter was.0) (journal_of tree_letter more.0) t k new (same was.0 was.1) more.2 makes in
    subst (λ f. IsTreeFile f new) (some_same now file more.0 is more.1) step

found_by : (j left : Journal) (t : Txn) (k new : Known) (found : Option Tree) → known_in (is_some k.loaded) (stored_in j) ≡ Ok k → MakesKnown t k new → tree_found (tree_of_stored (stored_in left)) ≡ found
    → (left ≡ j) ⊎ HasTxnMore t j left → (found ≡ Some k.tree) ⊎ (found ≡ Some new.tree)
found_by j left t k new found was makes is (inl same) = inl (sym is ∙ ap (λ i. tree_found (tree_of_stored (stored_in i))) same ∙ ap tree_found (tree_known (is_some k.loaded) (stored_in j) k was))
found_by j left t k new found was makes is (inr more) = inr (sym is ∙ ap tree_found (tree_known (is_some new.loaded) (stored_in left) new (known_more j left t k new was more makes)))

-- A stop while a frame is written leaves the tree from before it, or the one that the transaction makes.
pub left_by_change : (t : Txn) (k new : Known) (told now : Option (List ℕ)) (leaves : List ℕ → Type 0) → StaysTold told now
    → ((file : List ℕ) → told ≡ Some file → IsTreeFile file k) → ((file : List ℕ) → told ≡ Some file → (left : List ℕ) → leaves left → LeftByTxn t (journal_of tree_letter file) left)
    → MakesKnown t k new → (found : Option Tree) → LeavesTree now leaves found → (found ≡ Some k.tree) ⊎ (found ≡ Some new.tree)
left_by_change t k new told now leaves stays same stop makes found left =
    let was = some_told told (sym stays ∙ left.tells) in
    found_by (journal_of tree_letter was.0) (journal_of tree_letter left.file) t k new found (same was.0 was.1) makes left.is (stop was.0 was.1 left.file left.left)

-- ---- a seal

-- A seal leaves what is known of the file.
pub same_sealed : (k : Known) (done : Bool) (told now : Option (List ℕ)) → StaysTold told now → ((file : List ℕ) → told ≡ Some file → IsTreeFile file k)
    → ((file : List ℕ) → told ≡ Some file → IsSealed tree_letter file done now) → (file : List ℕ) → now ≡ Some file → IsTreeFile file k
same_sealed k true told now stays same sealed file is =
    let was = told_before told now file stays is in
    let more = sealed was.0 was.1 in
    let journal : journal_of tree_letter file ≡ journal_with_seal (journal_of tree_letter was.0) = ap (journal_of tree_letter) (some_same now more.0 file more.1 is) ∙ more.2 in
    ap (λ j. known_in (is_some k.loaded) (stored_in j)) journal ∙ known_sealed (journal_of tree_letter was.0) k (same was.0 was.1)
same_sealed k false told now stays same sealed file is =
    let was = told_before told now file stays is in
    subst (λ f. IsTreeFile f k) (sym (some_same now was.0 file (sealed was.0 was.1).0 is)) (same was.0 was.1)

found_sealed : (j left : Journal) (k : Known) (found : Option Tree) → known_in (is_some k.loaded) (stored_in j) ≡ Ok k → tree_found (tree_of_stored (stored_in left)) ≡ found → (left ≡ j) ⊎ (left ≡ journal_with_seal j) → found ≡ Some k.tree
found_sealed j left k found was is (inl same) = sym is ∙ ap (λ i. tree_found (tree_of_stored (stored_in i))) same ∙ ap tree_found (tree_known (is_some k.loaded) (stored_in j) k was)
found_sealed j left k found was is (inr more) = sym is ∙ ap (λ i. tree_found (tree_of_stored (stored_in i))) more ∙ ap tree_found (tree_known (is_some k.loaded) (stored_in (journal_with_seal j)) k (known_sealed j k was))

pub left_by_seal : (k : Known) (told now : Option (List ℕ)) (leaves : List ℕ → Type 0) → StaysTold told now
    → ((file : List ℕ) → told ≡ Some file → IsTreeFile file k) → ((file : List ℕ) → told ≡ Some file → (left : List ℕ) → leaves left → LeftBySeal tree_letter (journal_of tree_letter file) left)
    → (found : Option Tree) → LeavesTree now leaves found → found ≡ Some k.tree
left_by_seal k told now leaves stays same stop found left =
    let was = some_told told (sym stays ∙ left.tells) in
    found_sealed (journal_of tree_letter was.0) (journal_of tree_letter left.file) k found (same was.0 was.1) left.is (stop was.0 was.1 left.file left.left)

-- the disk is up after a seal as it was before
pub up_by_seal : (done : Bool) (old new : Disk) → SealsFile (Ok done) old new → new.down ≡ old.down
up_by_seal true old new h = ap (λ (d : Disk). d.down) h.1
up_by_seal false old new h = ap (λ (d : Disk). d.down) h
