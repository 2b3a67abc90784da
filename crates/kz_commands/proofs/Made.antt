-- What `init` finds in two files, and what it makes of them.
use Rattle.std.proofs.Common.{◌≡◌, ◌≢◌, ◌⊎◌, inl, inr, ℕ, ◌+◌, ◌≤◌, nat_le, Bool, true, false, not, ◌&&◌, ◌||◌, cond, List, [], ◌∷◌, ◌++◌, length, take, drop, Option, Some, None, is_some, Result, Ok, Err, refl, sym, ap, ◌∙◌, subst, append-nil}
use Rattle.std.specs.Prelude.{⊤, option_map, bytes_eq}
use Rattle.std.proofs.lemmas.Slice.Eq.{bytes_eq-Decides}
use Rattle.std.proofs.lemmas.List.{drop_all}
use Rattle.std.proofs.lemmas.Bool.{le-leb, leb-true}
use Rattle.std.proofs.Math.Seq.{take-length}
use Rattle.kz_types.specs.declared.fault.LogWhy.{LogWhy}
use Rattle.kz_types.specs.declared.outside.Status.{Status}
use Rattle.kz_types.specs.declared.outside.Status.TheVariants as status
use Rattle.kz_disk.specs.Disks.{with_piece}
use Rattle.kz_spec_data.specs.Tree.{Tree, empty_tree}
use Rattle.kz_spec_data.specs.Log.{Log, empty_log}
use Rattle.kz_spec_data.specs.Frames.{Framed, Journal, tree_letter, log_letter, plain_header, closed_gate, new_file, journal_of}
use Rattle.kz_spec_data.specs.TreeFile.{Stored, stored_in, tree_of_stored, tree_of}
use Rattle.kz_spec_data.specs.LogFile.{log_in, log_of, after_frames, why_at, whole_or_damaged}
use Rattle.kz_spec_machine.specs.Files.{tree_damage, log_damage, first_reason, SayTheSame}
use Rattle.kz_spec_machine.specs.Init.{is_short, is_whole_and_empty, holds_tree, holds_frames, tree_refusal, has_tree, log_refusal, has_log, init_refusal, IsMade, IsUnmade, AreRefused, Inits}
use Rattle.kz_spec_data.proofs.FilesOnLiterals.{files_on_literals}
use Rattle.kz_tree_store.specs.declared.store.TreeStore.{TreeStore}
use Rattle.kz_tree_store.specs.Stores.{is_fresh_file, held_tree}
use Rattle.kz_tree_store.specs.Stores.{is_fresh as is_fresh_tree, IsOpened as TreeOpened}
use Rattle.kz_log_store.specs.declared.store.LogStore.{LogStore}
use Rattle.kz_log_store.specs.Stores.{held_log, is_fresh as is_fresh_log, IsOpened as LogOpened}
use Rattle.kz_log_store.specs.Opened.{no_frames}
use Rattle.kz_commands.specs.declared.making.Found.{Found}
use Rattle.kz_commands.specs.declared.making.Found.TheVariants as found
use Rattle.kz_commands.specs.Making.{IsShortFound, IsFound, IsTreeFound, IsLogFound, IsRefusedFor, MakesFile, is_taken, found_by}
use Rattle.kz_commands.proofs.Fresh.{fresh_tree, tree_whole, tree_held}

some_same : (a b : List ℕ) → Some a ≡ Some b → a ≡ b
some_same a b is = cc is

-- ---- a short file

abbrev pub EmptyTree : List ℕ → Type 0
EmptyTree bytes = tree_of bytes ≡ Ok empty_tree

abbrev pub EmptyLog : List ℕ → Type 0
EmptyLog bytes = log_of bytes ≡ Ok empty_log

either : (a b : Bool) → (a || b) ≡ true → (a ≡ true) ⊎ (b ≡ true)
either true b h = inl refl
either false b h = inr h

-- what holds of the two forms of a whole journal without a frame holds of each file that is one
whole_by : (P : List ℕ → Type 0) (file summed plain : List ℕ) → (bytes_eq file summed ≡ true) ⊎ (bytes_eq file plain ≡ true) → P summed → P plain → P file
whole_by P file summed plain (inl is) in_summed in_plain = subst P (sym ((bytes_eq-Decides file summed).0 is)) in_summed
whole_by P file summed plain (inr is) in_summed in_plain = subst P (sym ((bytes_eq-Decides file plain).0 is)) in_plain

pub whole_stands : (letter : ℕ) (P : List ℕ → Type 0) (file : List ℕ) → is_whole_and_empty letter file ≡ true → P (new_file letter) → P (plain_header letter ++ closed_gate ∷ []) → P file
whole_stands letter P file whole summed plain = whole_by P file (new_file letter) (plain_header letter ++ closed_gate ∷ []) (either _ _ whole) summed plain

short_unmade : (letter : ℕ) (file : List ℕ) → is_short file ≡ true → IsUnmade letter file file
short_unmade letter file short = record { left = λ _. refl; kept = λ _. refl }

short_kept : (letter : ℕ) (file : List ℕ) → is_short file ≡ true → is_whole_and_empty letter file ≡ true → IsMade letter file file
short_kept letter file short whole = record { anew = λ _ other. cc (whole, other); left = λ _ _. refl; kept = λ _. refl }

-- what a short file holds
pub short_found : (letter : ℕ) (refusal : List ℕ → Option Status) (has : List ℕ → Bool) (P : List ℕ → Type 0) (plain summed file new : List ℕ) (f : Found)
    → (is_short file ≡ true → refusal file ≡ None) → (is_short file ≡ true → has file ≡ false) → P (new_file letter) → P (plain_header letter ++ closed_gate ∷ [])
    → plain ≡ plain_header letter ++ closed_gate ∷ [] → summed ≡ new_file letter → new ≡ file → IsShortFound plain summed file (Some f) → IsFound letter refusal has P file new f
short_found letter refusal has P plain summed file new found.Unmade none hasnt in_summed in_plain is_plain is_summed same h =
    let whole : is_whole_and_empty letter file ≡ false = ap (λ t. bytes_eq file t || bytes_eq file (plain_header letter ++ closed_gate ∷ [])) (sym is_summed) ∙ ap (λ t. bytes_eq file summed || bytes_eq file t) (sym is_plain) ∙ h.1 in
    (none h.0, hasnt h.0, subst (IsUnmade letter file) (sym same) (short_unmade letter file h.0), h.0, whole)
short_found letter refusal has P plain summed file new found.Empty none hasnt in_summed in_plain is_plain is_summed same h =
    let whole : is_whole_and_empty letter file ≡ true = ap (λ t. bytes_eq file t || bytes_eq file (plain_header letter ++ closed_gate ∷ [])) (sym is_summed) ∙ ap (λ t. bytes_eq file summed || bytes_eq file t) (sym is_plain) ∙ h.1 in
    (none h.0, hasnt h.0, subst (IsUnmade letter file) (sym same) (short_unmade letter file h.0), subst (IsMade letter file) (sym same) (short_kept letter file h.0 whole), subst P (sym same) (whole_stands letter P file whole in_summed in_plain))
short_found letter refusal has P plain summed file new found.Taken none hasnt in_summed in_plain is_plain is_summed same h = absurd h

-- ---- refusals of short and of longer files

short_none : (b : Bool) (o : Option Status) → b ≡ true → cond b None o ≡ None
short_none true o is = refl
short_none false o is = cc is

short_no : (b c : Bool) → b ≡ true → (not b && c) ≡ false
short_no true c is = refl
short_no false c is = cc is

long_same : (b : Bool) (o : Option Status) → b ≡ false → cond b None o ≡ o
long_same true o is = cc is
long_same false o is = refl

long_has : (b c : Bool) → b ≡ false → (not b && c) ≡ c
long_has true c is = cc is
long_has false c is = refl

pub short_tree_none : (file : List ℕ) → is_short file ≡ true → tree_refusal file ≡ None
short_tree_none file short = short_none (is_short file) _ short

pub short_no_tree : (file : List ℕ) → is_short file ≡ true → has_tree file ≡ false
short_no_tree file short = short_no (is_short file) _ short

pub short_log_none : (file : List ℕ) → is_short file ≡ true → log_refusal file ≡ None
short_log_none file short = short_none (is_short file) _ short

pub short_no_log : (file : List ℕ) → is_short file ≡ true → has_log file ≡ false
short_no_log file short = short_no (is_short file) _ short

pub long_tree_refusal : (file : List ℕ) → is_short file ≡ false → tree_refusal file ≡ tree_damage (stored_in (journal_of tree_letter file))
long_tree_refusal file long = long_same (is_short file) _ long

pub long_has_tree : (file : List ℕ) → is_short file ≡ false → has_tree file ≡ holds_tree (stored_in (journal_of tree_letter file))
long_has_tree file long = long_has (is_short file) _ long

pub long_log_refusal : (file : List ℕ) → is_short file ≡ false → log_refusal file ≡ log_damage (log_of file)
long_log_refusal file long = long_same (is_short file) _ long

pub long_has_log : (file : List ℕ) → is_short file ≡ false → has_log file ≡ holds_frames (journal_of log_letter file).frames
long_has_log file long = long_has (is_short file) _ long

long_unmade : (letter : ℕ) (file new : List ℕ) → is_short file ≡ false → SayTheSame letter file new → IsUnmade letter file new
long_unmade letter file new long same = record { left = λ short. cc (short, long); kept = λ _. same }

long_made : (letter : ℕ) (file new : List ℕ) → is_short file ≡ false → SayTheSame letter file new → IsMade letter file new
long_made letter file new long same = record { anew = λ short _. cc (short, long); left = λ short _. cc (short, long); kept = λ _. same }

-- ---- a longer file of a tree

pub long_tree : (b : Bool) (file new : List ℕ) (t : Tree) → is_short file ≡ false → tree_of file ≡ Ok t → is_fresh_file (stored_in (journal_of tree_letter file)) ≡ b → SayTheSame tree_letter file new → IsTreeFound file new (found_by b)
long_tree true file new t long is unwritten same = (
  long_tree_refusal file long ∙ tree_whole (stored_in (journal_of tree_letter file)) t is,
  long_has_tree file long ∙ tree_held (stored_in (journal_of tree_letter file)) t true is unwritten,
  long_unmade tree_letter file new long same,
  long_made tree_letter file new long same,
  ap (λ (j : Journal). tree_of_stored (stored_in j)) same ∙ fresh_tree (journal_of tree_letter file) t is unwritten,
)
long_tree false file new t long is unwritten same = (
  long_tree_refusal file long ∙ tree_whole (stored_in (journal_of tree_letter file)) t is,
  long_has_tree file long ∙ tree_held (stored_in (journal_of tree_letter file)) t false is unwritten,
  long_unmade tree_letter file new long same,
)

-- ---- a longer file of a log

log_whole : (r : Result Log (ℕ × LogWhy)) (l : Log) → r ≡ Ok l → log_damage r ≡ None
log_whole r l is = ap log_damage is

frames_held : (fs : List Framed) (b : Bool) → no_frames fs ≡ b → holds_frames fs ≡ not b
frames_held [] b is = ap not is
frames_held (f ∷ fs) b is = ap not is

by_flag : (d : Bool) (e : ℕ × LogWhy) (l : Log) → cond d (Err e) (Ok empty_log) ≡ Ok l → cond d (Err e) (Ok empty_log) ≡ Ok empty_log
by_flag true e l is = absurd (cc is)
by_flag false e l is = refl

no_frame_read : (j : Journal) (fs : List Framed) (l : Log) → no_frames fs ≡ true → whole_or_damaged j (after_frames fs empty_log) ≡ Ok l → whole_or_damaged j (after_frames fs empty_log) ≡ Ok empty_log
unfolding after_frames
no_frame_read j [] l none is = by_flag j.damaged (j.end, why_at j.end) l is
no_frame_read j (f ∷ fs) l none is = cc none

pub long_log : (b : Bool) (file new : List ℕ) (l : Log) → is_short file ≡ false → log_of file ≡ Ok l → no_frames (journal_of log_letter file).frames ≡ b → SayTheSame log_letter file new → IsLogFound file new (found_by b)
long_log true file new l long is unwritten same = (
  long_log_refusal file long ∙ log_whole (log_of file) l is,
  long_has_log file long ∙ frames_held (journal_of log_letter file).frames true unwritten,
  long_unmade log_letter file new long same,
  long_made log_letter file new long same,
  ap log_in same ∙ no_frame_read (journal_of log_letter file) (journal_of log_letter file).frames l unwritten is,
)
long_log false file new l long is unwritten same = (
  long_log_refusal file long ∙ log_whole (log_of file) l is,
  long_has_log file long ∙ frames_held (journal_of log_letter file).frames false unwritten,
  long_unmade log_letter file new long same,
)

-- ---- making a file

-- a new header and gate, over a short file
anew_short : (letter : ℕ) (file : List ℕ) → length (new_file letter) ≡ 17 → length file ≤ 17 → with_piece 0 (new_file letter) file ≡ new_file letter
anew_short letter file size short = ap (λ t. new_file letter ++ t) (ap (λ n. drop (0 + n) file) size ∙ drop_all 17 file short) ∙ append-nil (new_file letter)

same_bytes : (n : ℕ) (file buf : List ℕ) → n ≡ length file → length buf ≡ n → buf ≡ take (length buf) (drop 0 file) → buf ≡ file
same_bytes n file buf is size read = read ∙ ap (λ k. take k file) (size ∙ is) ∙ take-length file

short_true : (n : ℕ) → n ≤ 17 → nat_le n 17 ≡ true
short_true n h = le-leb n 17 h

pub short_read : (b : Bool) (n : ℕ) (file buf plain summed : List ℕ) → n ≤ 17 → n ≡ length file → length buf ≡ n → buf ≡ take (length buf) (drop 0 file) → (bytes_eq buf summed || bytes_eq buf plain) ≡ b
    → (is_short file ≡ true) × ((bytes_eq file summed || bytes_eq file plain) ≡ b)
short_read b n file buf plain summed few is size read same =
    (short_true (length file) (subst (λ k. k ≤ 17) is few), subst (λ t. (bytes_eq t summed || bytes_eq t plain) ≡ b) (same_bytes n file buf is size read) same)

pub same_told : (before now : Option (List ℕ)) (file new : List ℕ) → now ≡ before → before ≡ Some file → now ≡ Some new → new ≡ file
same_told before now file new same is is_now = some_same new file (sym is_now ∙ same ∙ is)

-- ---- what two new files stand for

pub summed_tree : EmptyTree (new_file tree_letter)
unfolding files_on_literals
summed_tree = refl

pub plain_tree : EmptyTree (plain_header tree_letter ++ closed_gate ∷ [])
unfolding files_on_literals
plain_tree = refl

pub summed_log : EmptyLog (new_file log_letter)
unfolding files_on_literals
summed_log = refl

pub plain_log : EmptyLog (plain_header log_letter ++ closed_gate ∷ [])
unfolding files_on_literals
plain_log = refl

-- ---- what the journal of a longer file told

pub tree_told : {D : Type 0} {disk : _} (s : TreeStore D disk) (before now now_is : Option (List ℕ)) (f : Found) (file new : List ℕ) → TreeOpened s before now → now_is ≡ now → f ≡ found_by (is_fresh_tree s) → is_short file ≡ false
    → before ≡ Some file → now_is ≡ Some new → IsTreeFound file new f
tree_told s before now now_is f file new h same_now is long told told_now =
    let same = h.same file told in
    let new_is : same.0 ≡ new = some_same same.0 new (sym same.1 ∙ sym same_now ∙ told_now) in
    subst (IsTreeFound file new) (sym is) (long_tree (is_fresh_tree s) file new (held_tree s) long (h.tree file told) (h.fresh_is file told) (subst (λ n. SayTheSame tree_letter file n) new_is same.2))

pub log_told : {D : Type 0} {disk : _} (s : LogStore D disk) (before now now_is : Option (List ℕ)) (f : Found) (file new : List ℕ) → LogOpened s before now → now_is ≡ now → f ≡ found_by (is_fresh_log s) → is_short file ≡ false
    → before ≡ Some file → now_is ≡ Some new → IsLogFound file new f
log_told s before now now_is f file new h same_now is long told told_now =
    let same = h.same file told in
    let new_is : same.0 ≡ new = some_same same.0 new (sym same.1 ∙ sym same_now ∙ told_now) in
    let read = h.log file told in
    subst (IsLogFound file new) (sym is) (long_log (is_fresh_log s) file new (held_log s) long read.log read.fresh_is (subst (λ n. SayTheSame log_letter file n) new_is same.2))

-- ---- two files

tree_unmade : (file new : List ℕ) (f : Found) → IsTreeFound file new f → (tree_refusal file ≡ None) × IsUnmade tree_letter file new
tree_unmade file new found.Unmade h = (h.0, h.2)
tree_unmade file new found.Empty h = (h.0, h.2)
tree_unmade file new found.Taken h = (h.0, h.2)

log_unmade : (file new : List ℕ) (f : Found) → IsLogFound file new f → (log_refusal file ≡ None) × IsUnmade log_letter file new
log_unmade file new found.Unmade h = (h.0, h.2)
log_unmade file new found.Empty h = (h.0, h.2)
log_unmade file new found.Taken h = (h.0, h.2)

tree_taken : (file new : List ℕ) (f : Found) → IsTreeFound file new f → has_tree file ≡ is_taken f
tree_taken file new found.Unmade h = h.1
tree_taken file new found.Empty h = h.1
tree_taken file new found.Taken h = h.1

log_taken : (file new : List ℕ) (f : Found) → IsLogFound file new f → has_log file ≡ is_taken f
log_taken file new found.Unmade h = h.1
log_taken file new found.Empty h = h.1
log_taken file new found.Taken h = h.1

refusal_by : (tree log : List ℕ) (a b : Option Status) (taken : Bool) → tree_refusal tree ≡ a → log_refusal log ≡ b → (has_tree tree || has_log log) ≡ taken → init_refusal tree log ≡ first_reason a (first_reason b (cond taken (Some status.NotEmpty) None))
refusal_by tree log a b taken is_a is_b is = ap (λ x. first_reason x (first_reason (log_refusal log) (cond (has_tree tree || has_log log) (Some status.NotEmpty) None))) is_a
    ∙ ap (λ x. first_reason a (first_reason x (cond (has_tree tree || has_log log) (Some status.NotEmpty) None))) is_b ∙ ap (λ t. first_reason a (first_reason b (cond t (Some status.NotEmpty) None))) is

-- the tree's file is refused
tree_refused : (tree log new_tree : List ℕ) (s : Status) → tree_refusal tree ≡ Some s → IsUnmade tree_letter tree new_tree → AreRefused s tree log new_tree log
tree_refused tree log new_tree s is kept = record {
  refused = ap (λ x. first_reason x (first_reason (log_refusal log) (cond (has_tree tree || has_log log) (Some status.NotEmpty) None))) is;
  tree_kept = kept;
  log_kept = record { left = λ _. refl; kept = λ _. refl };
}

-- the log's file is refused
log_refused : (tree log new_tree new_log : List ℕ) (f : Found) (s : Status) → IsTreeFound tree new_tree f → log_refusal log ≡ Some s → IsUnmade log_letter log new_log → AreRefused s tree log new_tree new_log
log_refused tree log new_tree new_log f s found is kept = record {
  refused = refusal_by tree log None (Some s) (has_tree tree || has_log log) (tree_unmade tree new_tree f found).0 is refl;
  tree_kept = (tree_unmade tree new_tree f found).1;
  log_kept = kept;
}

abbrev IsDamage : Status → Type 0
IsDamage (status.TreeDamaged at) = ⊤
IsDamage (status.LogDamaged at why) = ⊤
IsDamage s = ⊥

abbrev SomeDamage : Option Status → Type 0
SomeDamage None = ⊤
SomeDamage (Some s) = IsDamage s

damage_of_tree : (r : Result Stored ℕ) → SomeDamage (tree_damage r)
damage_of_tree (Ok s) = tt
damage_of_tree (Err at) = tt

damage_of_log : (r : Result Log (ℕ × LogWhy)) → SomeDamage (log_damage r)
damage_of_log (Ok s) = tt
damage_of_log (Err e) = tt

short_or : (b : Bool) (o : Option Status) → SomeDamage o → SomeDamage (cond b None o)
short_or true o h = tt
short_or false o h = h

tree_refusal_damage : (file : List ℕ) (s : Status) → tree_refusal file ≡ Some s → IsDamage s
tree_refusal_damage file s is = subst SomeDamage is (short_or (is_short file) (tree_damage (stored_in (journal_of tree_letter file))) (damage_of_tree (stored_in (journal_of tree_letter file))))

log_refusal_damage : (file : List ℕ) (s : Status) → log_refusal file ≡ Some s → IsDamage s
log_refusal_damage file s is = subst SomeDamage is (short_or (is_short file) (log_damage (log_of file)) (damage_of_log (log_of file)))

refused_by : (letter : ℕ) (refusal : List ℕ → Option Status) (tree log new_tree new_log file new : List ℕ) (s : Status) → s ≢ status.Usage
    → ((reason : Status) → refusal file ≡ Some reason → IsUnmade letter file new → AreRefused reason tree log new_tree new_log) → (refusal file ≡ Some s → IsDamage s) → (IsUnmade letter file new → IsUnmade tree_letter tree new_tree × IsUnmade log_letter log new_log) → IsRefusedFor letter refusal file new s → Inits tree log new_tree new_log s
refused_by letter refusal tree log new_tree new_log file new status.TreeFault used go kind left h = tt
refused_by letter refusal tree log new_tree new_log file new status.LogFault used go kind left h = tt
refused_by letter refusal tree log new_tree new_log file new status.NoMemory used go kind left h = left h
refused_by letter refusal tree log new_tree new_log file new (status.TreeDamaged at) used go kind left h = go (status.TreeDamaged at) h.0 h.1
refused_by letter refusal tree log new_tree new_log file new (status.LogDamaged at why) used go kind left h = go (status.LogDamaged at why) h.0 h.1
refused_by letter refusal tree log new_tree new_log file new status.Done used go kind left h = absurd (kind h.0)
refused_by letter refusal tree log new_tree new_log file new status.Usage used go kind left h = absurd (used refl)
refused_by letter refusal tree log new_tree new_log file new (status.Script line) used go kind left h = absurd (kind h.0)
refused_by letter refusal tree log new_tree new_log file new status.ReadFault used go kind left h = absurd (kind h.0)
refused_by letter refusal tree log new_tree new_log file new status.WriteFault used go kind left h = absurd (kind h.0)
refused_by letter refusal tree log new_tree new_log file new (status.Limit which number) used go kind left h = absurd (kind h.0)
refused_by letter refusal tree log new_tree new_log file new status.NotEmpty used go kind left h = absurd (kind h.0)
refused_by letter refusal tree log new_tree new_log file new (status.Disagrees path) used go kind left h = absurd (kind h.0)
refused_by letter refusal tree log new_tree new_log file new (status.NoOffset base end) used go kind left h = absurd (kind h.0)

pub tree_inits : (tree log new_tree : List ℕ) (s : Status) → s ≢ status.Usage → IsRefusedFor tree_letter tree_refusal tree new_tree s → Inits tree log new_tree log s
tree_inits tree log new_tree s used h =
    refused_by tree_letter tree_refusal tree log new_tree log tree new_tree s used (λ reason is kept. tree_refused tree log new_tree reason is kept) (tree_refusal_damage tree s) (λ kept. (kept, record { left = λ _. refl; kept = λ _. refl })) h

pub log_inits : (tree log new_tree new_log : List ℕ) (f : Found) (s : Status) → IsTreeFound tree new_tree f → s ≢ status.Usage → IsRefusedFor log_letter log_refusal log new_log s → Inits tree log new_tree new_log s
log_inits tree log new_tree new_log f s found used h =
    refused_by log_letter log_refusal tree log new_tree new_log log new_log s used (λ reason is kept. log_refused tree log new_tree new_log f reason found is kept) (log_refusal_damage log s) (λ kept. ((tree_unmade tree new_tree f found).1, kept)) h

pub taken_inits : (tree log new_tree new_log : List ℕ) (f g : Found) → IsTreeFound tree new_tree f → IsLogFound log new_log g → (is_taken f || is_taken g) ≡ true → Inits tree log new_tree new_log status.NotEmpty
taken_inits tree log new_tree new_log f g tree_found log_found is = record {
  refused = refusal_by tree log None None true (tree_unmade tree new_tree f tree_found).0 (log_unmade log new_log g log_found).0 (ap (λ x. x || has_log log) (tree_taken tree new_tree f tree_found) ∙ ap (λ x. is_taken f || x) (log_taken log new_log g log_found) ∙ is);
  tree_kept = (tree_unmade tree new_tree f tree_found).1;
  log_kept = (log_unmade log new_log g log_found).1;
}

-- ---- what is made

neither : (a b : Bool) → (a || b) ≡ false → (a ≡ false) × (b ≡ false)
neither true b h = absurd (cc h)
neither false b h = (refl, h)

some_of : (o : Option (List ℕ)) (f : List ℕ → List ℕ) (new : List ℕ) → option_map f o ≡ Some new → (x : List ℕ) × (o ≡ Some x) × (f x ≡ new)
some_of None f new is = absurd (cc is)
some_of (Some x) f new is = (x, refl, some_same (f x) new is)

short_length : (file : List ℕ) → is_short file ≡ true → length file ≤ 17
short_length file short = leb-true (length file) 17 short

made_anew : (letter : ℕ) (file new : List ℕ) → is_short file ≡ true → is_whole_and_empty letter file ≡ false → new ≡ new_file letter → IsMade letter file new
made_anew letter file new short whole is = record { anew = λ _ _. is; left = λ _ other. absurd (cc (whole, other)); kept = λ long. absurd (cc (short, long)) }

-- what was found in a file that isn't taken is made, and stands for nothing yet
made_of : (letter : ℕ) (refusal : List ℕ → Option Status) (has : List ℕ → Bool) (P : List ℕ → Type 0) (mid now : Option (List ℕ)) (file new : List ℕ) (f : Found) → length (new_file letter) ≡ 17 → P (new_file letter)
    → ((x : List ℕ) → mid ≡ Some x → IsFound letter refusal has P file x f) → is_taken f ≡ false → MakesFile letter f mid now → now ≡ Some new → IsMade letter file new × P new
made_of letter refusal has P mid now file new found.Unmade size stands is free makes told =
    let x = some_of mid (with_piece 0 (new_file letter)) new (sym makes ∙ told) in
    let h = is x.0 x.1 in
    let same : x.0 ≡ file = h.2.left h.3 in
    let anew : new ≡ new_file letter = sym x.2 ∙ ap (with_piece 0 (new_file letter)) same ∙ anew_short letter file size (short_length file h.3) in
    (made_anew letter file new h.3 h.4 anew, subst P (sym anew) stands)
made_of letter refusal has P mid now file new found.Empty size stands is free makes told = let h = is new (sym makes ∙ told) in (h.3, h.4)
made_of letter refusal has P mid now file new found.Taken size stands is free makes told = absurd (cc free)

found_in_mid : (letter : ℕ) (mid now : Option (List ℕ)) (new : List ℕ) (f : Found) → MakesFile letter f mid now → now ≡ Some new → (x : List ℕ) × (mid ≡ Some x)
found_in_mid letter mid now new found.Unmade makes told = let x = some_of mid (with_piece 0 (new_file letter)) new (sym makes ∙ told) in (x.0, x.1)
found_in_mid letter mid now new found.Empty makes told = (new, sym makes ∙ told)
found_in_mid letter mid now new found.Taken makes told = (new, sym makes ∙ told)

pub done_inits : (tree log new_tree new_log : List ℕ) (tree_mid tree_now log_mid log_now : Option (List ℕ)) (f g : Found) → ((x : List ℕ) → tree_mid ≡ Some x → IsTreeFound tree x f) → ((x : List ℕ) → log_mid ≡ Some x → IsLogFound log x g)
    → (is_taken f || is_taken g) ≡ false → MakesFile tree_letter f tree_mid tree_now → MakesFile log_letter g log_mid log_now → tree_now ≡ Some new_tree → log_now ≡ Some new_log → Inits tree log new_tree new_log status.Done
done_inits tree log new_tree new_log tree_mid tree_now log_mid log_now f g tree_found log_found free tree_makes log_makes told_tree told_log =
    let each = neither (is_taken f) (is_taken g) free in
    let t = made_of tree_letter tree_refusal has_tree EmptyTree tree_mid tree_now tree new_tree f refl summed_tree tree_found each.0 tree_makes told_tree in
    let l = made_of log_letter log_refusal has_log EmptyLog log_mid log_now log new_log g refl summed_log log_found each.1 log_makes told_log in
    let tree_is = found_in_mid tree_letter tree_mid tree_now new_tree f tree_makes told_tree in
    let log_is = found_in_mid log_letter log_mid log_now new_log g log_makes told_log in
    record {
      taken = refusal_by tree log None None false (tree_unmade tree tree_is.0 f (tree_found tree_is.0 tree_is.1)).0 (log_unmade log log_is.0 g (log_found log_is.0 log_is.1)).0
          (ap (λ x. x || has_log log) (tree_taken tree tree_is.0 f (tree_found tree_is.0 tree_is.1)) ∙ ap (λ x. is_taken f || x) (log_taken log log_is.0 g (log_found log_is.0 log_is.1)) ∙ free);
      tree_made = t.0;
      log_made = l.0;
      stand = record { tree_is = t.1; log_is = l.1 };
    }

pub taken_either : (a b x y z : Bool) → a ≡ x → b ≡ y → (a || b) ≡ z → (x || y) ≡ z
taken_either a b x y z p q h = ap (λ t. t || y) (sym p) ∙ ap (λ t. a || t) (sym q) ∙ h

-- a file that is made tells its contents where it told them before
pub made_told : (letter : ℕ) (f : Found) (before mid now : Option (List ℕ)) → is_some mid ≡ is_some before → MakesFile letter f mid now → is_some now ≡ is_some before
made_told letter found.Unmade before None now same makes = ap is_some makes ∙ same
made_told letter found.Unmade before (Some x) now same makes = ap is_some makes ∙ same
made_told letter found.Empty before mid now same makes = ap is_some makes ∙ same
made_told letter found.Taken before mid now same makes = ap is_some makes ∙ same
