-- How a file is opened as a tree, or why it isn't.
use Rattle.std.proofs.Common.{◌≡◌, ◌+◌, ◌≤◌, ℕ, Bool, false, List, length, Option, Some, None, Result, is_some, Ok, Err, refl, sym, ap, ◌∙◌, subst, arith}
use Rattle.kz_spec_data.specs.Frames.{tree_letter}
use Rattle.kz_spec_data.specs.TreeFile.{Stored, after_frames, stored_in, tree_of_stored}
use Rattle.kz_journal.specs.declared.fault.JournalFault.{JournalFault}
use Rattle.kz_journal.specs.declared.fault.JournalFault.TheVariants.{DiskFault, Damaged, Full, NoMemory, Down}
use Rattle.kz_journal.specs.Openings.{no_journal, IsRefused}
use Rattle.kz_tree_store.specs.Opened.{Known, known_in, IsTreeFile, open_fault_of, SaysTheSame, GrowsByOne, Reads}
use Rattle.kz_tree_store.specs.declared.fault.TreeOpenFault.{TreeOpenFault}
use Rattle.kz_tree_store.specs.declared.fault.TreeOpenFault.TheVariants as open_fault
use Rattle.kz_tree_store.specs.Stores.{IsUnopened, is_fresh_file}

no_tree : stored_in no_journal ≡ Err 0
unfolding after_frames
no_tree = refl

pub unopened : (fault : JournalFault) (before now : Option (List ℕ)) → IsRefused tree_letter fault before now → IsUnopened (open_fault_of fault) before now
unopened DiskFault before now is = tt
unopened (Damaged at) before now is = λ file told. (ap (λ j. tree_of_stored (stored_in j)) (is.2 file told).1 ∙ ap tree_of_stored no_tree ∙ ap (λ (n : ℕ). Err n) (sym is.0), (file, is.1 ∙ told, refl))
unopened (Full length) before now is = absurd is
unopened NoMemory before now is = absurd is
unopened Down before now is = absurd is

-- a file whose frames aren't read
pub unread : (fault : TreeOpenFault) (before opened now : Option (List ℕ)) → opened ≡ before → ((file : List ℕ) → opened ≡ Some file → Reads file (Err fault) now) → IsUnopened fault before now
unread open_fault.DiskFault before opened now same reads = tt
unread (open_fault.Damaged at) before opened now same reads = λ file told. let read = reads file (same ∙ told) in (read.1, (file, read.0, refl))
unread open_fault.NoMemory before opened now same reads = λ file told. (file, reads file (same ∙ told), refl)

same_bytes : (told : Option (List ℕ)) (a b : List ℕ) → told ≡ Some a → told ≡ Some b → b ≡ a
same_bytes told a b h k = cc

-- ---- how long a file is that was read

-- the bytes that are told are no more than these
pub grown_to : (told : Option (List ℕ)) (file last new : List ℕ) → told ≡ Some last → length last ≤ length file + 1 → told ≡ Some new → length new ≤ length file + 1
grown_to told file last new is_last long is_new = subst (λ (b : List ℕ). length b ≤ length file + 1) (sym (same_bytes told last new is_last is_new)) long

-- the bytes that are told are the same
pub grown_by_none : (told : Option (List ℕ)) (file new : List ℕ) → told ≡ Some file → told ≡ Some new → length new ≤ length file + 1
grown_by_none told file new is_file is_new = grown_to told file file new is_file (omega arith) is_new

pub grown_once : (before opened now : Option (List ℕ)) → opened ≡ before → GrowsByOne opened now → GrowsByOne before now
grown_once before opened now same grown = λ file new is_file is_new. grown file new (same ∙ is_file) is_new

-- ---- what is known once it is open

-- the file that is told now stands for the same
pub still : (k : Known) (before now : Option (List ℕ)) → is_some now ≡ is_some before → ((file : List ℕ) → before ≡ Some file → SaysTheSame file now × IsTreeFile file k) → (file : List ℕ) → now ≡ Some file → IsTreeFile file k
still k None now told same file is = let no : is_some (Some file) ≡ false = ap is_some (sym is) ∙ told in absurd (cc)
still k (Some was) now told same file is =
    let s = same was refl in
    let here : s.0.0 ≡ file = same_bytes now file s.0.0 is s.0.1 in
    subst (λ f. IsTreeFile f k) here (ap (λ j. known_in (is_some k.loaded) (stored_in j)) s.0.2 ∙ s.1)

-- ---- a file that was read

abbrev fresh_in : Result Known ℕ → Bool
fresh_in (Ok k) = k.fresh
fresh_in (Err at) = false

-- whether no frame but those of znodes that are loaded stands in a file, of which this is known
pub fresh_known : (begun : Bool) (r : Result Stored ℕ) (k : Known) → known_in begun r ≡ Ok k → is_fresh_file r ≡ k.fresh
fresh_known begun (Ok s) k e = ap fresh_in e
fresh_known begun (Err at) k e = ap fresh_in e
