-- What `init` leaves of a tree's file.
use Rattle.std.proofs.Common.{◌≡◌, ◌⊎◌, inl, inr, ℕ, Bool, true, false, not, ◌||◌, cond, List, [], ◌∷◌, ◌++◌, Option, Some, None, Result, Ok, Err, refl, ap, sym, ◌∙◌, subst}
use Rattle.kz_types.specs.declared.outside.Status.{Status}
use Rattle.kz_types.specs.declared.outside.Status.TheVariants as status
use Rattle.kz_spec_data.specs.Tree.{Tree, empty_tree}
use Rattle.kz_spec_data.specs.Frames.{Journal, tree_letter, plain_header, closed_gate, new_file, journal_of}
use Rattle.kz_spec_data.specs.TreeFile.{Stored, stored_in, tree_of_stored, tree_of}
use Rattle.kz_spec_data.proofs.FilesOnLiterals.{files_on_literals}
use Rattle.kz_spec_machine.specs.Files.{first_reason}
use Rattle.kz_spec_machine.specs.Init.{is_short, is_whole_and_empty, holds_tree, has_tree, has_log, tree_refusal, log_refusal, init_refusal, IsMade, AreMade}
use Rattle.kz_tree_store.specs.Stores.{is_fresh_file}
use Rattle.kz_commands.proofs.Made.{whole_stands, long_has_tree}
use Rattle.kz_load.specs.LoadsTrees.{IsNewTree}

-- no frame but those of a load stands in a file
abbrev Fresh : List ℕ → Type 0
Fresh bytes = is_fresh_file (stored_in (journal_of tree_letter bytes)) ≡ true

-- ---- the two forms of a whole journal without a frame

summed_fresh : Fresh (new_file tree_letter)
unfolding files_on_literals
summed_fresh = refl

plain_fresh : Fresh (plain_header tree_letter ++ closed_gate ∷ [])
unfolding files_on_literals
plain_fresh = refl

-- ---- files that aren't refused

none_both : (a b : Option Status) → first_reason a b ≡ None → (a ≡ None) × (b ≡ None)
none_both None b h = (refl, h)
none_both (Some s) b h = absurd (cc h)

none_if : (b : Bool) (s : Status) → cond b (Some s) None ≡ None → b ≡ false
none_if true s h = absurd (cc h)
none_if false s h = refl

no_first : (a b : Bool) → (a || b) ≡ false → a ≡ false
no_first true b h = absurd (cc h)
no_first false b h = refl

no_tree : (tree log : List ℕ) → init_refusal tree log ≡ None → has_tree tree ≡ false
no_tree tree log none =
    let rest = none_both (tree_refusal tree) (first_reason (log_refusal log) (cond (has_tree tree || has_log log) (Some status.NotEmpty) None)) none in
    let last = none_both (log_refusal log) (cond (has_tree tree || has_log log) (Some status.NotEmpty) None) rest.1 in
    no_first (has_tree tree) (has_log log) (none_if (has_tree tree || has_log log) status.NotEmpty last.1)

not_false : (b : Bool) → not b ≡ false → b ≡ true
not_false true h = refl
not_false false h = absurd (cc h)

fresh_unless_held : (r : Result Stored ℕ) (t : Tree) → tree_of_stored r ≡ Ok t → holds_tree r ≡ false → is_fresh_file r ≡ true
fresh_unless_held (Ok s) t is none = not_false _ none
fresh_unless_held (Err at) t is none = absurd (cc is)

-- ---- files that are made

either_way : (b : Bool) → (b ≡ true) ⊎ (b ≡ false)
either_way true = inl refl
either_way false = inr refl

short_fresh : (file new : List ℕ) → is_short file ≡ true → IsMade tree_letter file new → (is_whole_and_empty tree_letter file ≡ true) ⊎ (is_whole_and_empty tree_letter file ≡ false) → Fresh new
short_fresh file new short made (inl whole) = subst Fresh (sym (made.left short whole)) (whole_stands tree_letter Fresh file whole summed_fresh plain_fresh)
short_fresh file new short made (inr torn) = subst Fresh (sym (made.anew short torn)) summed_fresh

long_fresh : (file new : List ℕ) → is_short file ≡ false → IsMade tree_letter file new → has_tree file ≡ false → tree_of new ≡ Ok empty_tree → Fresh new
long_fresh file new long made none empty =
    let same = made.kept long in
    fresh_unless_held (stored_in (journal_of tree_letter new)) empty_tree empty
    (ap (λ (j : Journal). holds_tree (stored_in j)) same ∙ (sym (long_has_tree file long) ∙ none))

fresh_by : (file new : List ℕ) → (is_short file ≡ true) ⊎ (is_short file ≡ false) → IsMade tree_letter file new → has_tree file ≡ false → tree_of new ≡ Ok empty_tree → Fresh new
fresh_by file new (inl short) made none empty = short_fresh file new short made (either_way (is_whole_and_empty tree_letter file))
fresh_by file new (inr long) made none empty = long_fresh file new long made none empty

-- the tree's file is new
pub made_new : (tree log new_tree new_log : List ℕ) → AreMade tree log new_tree new_log → IsNewTree new_tree
made_new tree log new_tree new_log are = record {
  empty = are.stand.tree_is;
  fresh = fresh_by tree new_tree (either_way (is_short tree)) are.tree_made (no_tree tree log are.taken) are.stand.tree_is;
}
