-- What leaves each path in agreement: another log, another tree, a write, and the commit.
use Rattle.std.proofs.Common.{◌≡◌, ◌⊎◌, inl, inr, ℕ, ℤ, negsuc, ◌≤ℤ◌, Bool, true, false, if◌then◌else◌, List, Option, Some, refl, sym, ap, ◌∙◌, subst}
use Rattle.kz_types.specs.declared.tree.Rendered.{Rendered}
use Rattle.kz_types.specs.declared.machine.Recorded.{Recorded}
use Rattle.kz_spec_data.specs.Tree.{Tree, area, migration_record}
use Rattle.kz_spec_data.specs.Log.{Log, image_at, is_migrated_log}
use Rattle.kz_spec_data.specs.Rendering.{render}
use Rattle.kz_spec_data.specs.Control.{written_recorded}
use Rattle.kz_spec_machine.specs.Driver.{Shared, Driver, remaining_at, is_last_write}
use Rattle.kz_laws_machine.specs.Effects.{IsLonger}
use Rattle.kz_laws_machine.proofs.Numbers.{at_most_by}
use Rattle.kz_laws_machine.specs.TreeLaws.{Completed}
use Rattle.kz_laws_machine.proofs.Beside.{write_keeps_recorded}
use Rattle.kz_laws_events.proofs.Tests.{true_or_false}
use Rattle.kz_laws_events.proofs.Written.{Took, completed}
use Rattle.kz_spec_machine.specs.Promises.{at_path, IsRendered, IsAsCommitted}
use Rattle.kz_laws_agreement.specs.Agreement.{PathsAgree, source_after}
use Rattle.kz_laws_agreement.proofs.Edited.{written_between}

-- ---- the source

pub source_is : (source : List Rendered) (s : Shared) → is_migrated_log s.log ≡ true → source_after source s ≡ source
source_is source s migrated = ap (λ (b : Bool). if b then source else area s.tree) migrated

pub source_now : (source : List Rendered) (s : Shared) → is_migrated_log s.log ≡ false → source_after source s ≡ area s.tree
source_now source s before = ap (λ (b : Bool). if b then source else area s.tree) before

-- a log that isn't migrated owes nothing
pub nothing_owed : (source : List Rendered) (s : Shared) → is_migrated_log s.log ≡ false → PathsAgree source s
nothing_owed source s before migrated = absurd (true_or_false (is_migrated_log s.log) migrated before)

-- nor does one whose source is what it was
pub on_migrated : (source : List Rendered) (s new : Shared) → (is_migrated_log new.log ≡ true → is_migrated_log s.log ≡ true) → (is_migrated_log s.log ≡ true → PathsAgree source new) → PathsAgree (source_after source s) new
on_migrated source s new back agrees migrated r found path =
    let was = back migrated in
    subst (λ (x : List Rendered). IsAsCommitted new.tree x r path ⊎ IsRendered new.tree new.log r path) (sym (source_is source s was)) (agrees was migrated r found path)

-- what is shared stays
pub same_agrees : (source : List Rendered) (s : Shared) → PathsAgree source s → PathsAgree (source_after source s) s
same_agrees source s agrees = on_migrated source s s (λ migrated. migrated) (λ was. agrees)

-- ---- another tree with the same area and record

same_area : (source : List Rendered) (t new : Tree) (l : Log) (r : Recorded) (path : List ℕ) → at_path path (area new) ≡ at_path path (area t) → IsAsCommitted t source r path ⊎ IsRendered t l r path → IsAsCommitted new source r path ⊎ IsRendered new l r path
same_area source t new l r path is (inl old) = inl (record { none = old.none; same = is ∙ old.same })
same_area source t new l r path is (inr old) = inr (record { offset = old.offset; end = old.end; past = old.past; recorded = old.recorded; same = is ∙ old.same })

-- what stays of a tree
pub record Leaves (t new : Tree) : Type 0 where
  pub area_is : area new ≡ area t
  pub recorded : migration_record new ≡ migration_record t

pub left_agrees : (source : List Rendered) (s : Shared) (new : Tree) → (is_migrated_log s.log ≡ true → Leaves s.tree new) → PathsAgree source s → PathsAgree (source_after source s) (record s { tree = new })
left_agrees source s new leaves agrees = on_migrated source s (record s { tree = new }) (λ migrated. migrated) (λ was migrated r found path.
    let k = leaves was in
    same_area source s.tree new s.log r path (ap (at_path path) k.area_is) (agrees was r (sym k.recorded ∙ found) path))

-- ---- a longer log

longer_path : (source : List Rendered) (t : Tree) (l more : Log) (r : Recorded) (path : List ℕ) → IsLonger l more → is_migrated_log l ≡ true → IsAsCommitted t source r path ⊎ IsRendered t l r path → IsAsCommitted t source r path ⊎ IsRendered t more r path
longer_path source t l more r path longer migrated (inl old) = inl old
longer_path source t l more r path longer migrated (inr old) = inr (record {
  offset = old.offset;
  end = longer.batch_end old.offset old.end;
  past = longer.past migrated old.offset old.past;
  recorded = old.recorded;
  same = old.same ∙ ap (λ i. at_path path (render i)) (sym (longer.image old.offset (longer.within old.offset old.end)));
})

pub longer_agrees : (source : List Rendered) (s : Shared) (more : Log) → IsLonger s.log more → (is_migrated_log more ≡ true → is_migrated_log s.log ≡ true) → PathsAgree source s → PathsAgree (source_after source s) (record s { log = more })
longer_agrees source s more longer back agrees = on_migrated source s (record s { log = more }) back (λ was migrated r found path. longer_path source s.tree s.log more r path longer was (agrees was r found path))

-- ---- a write

at_target : (s : Shared) (d : Driver) (claim : ℤ) (target : Recorded) (new : Tree) (r : Recorded) (path : List ℕ) → Took s d claim target new → r.offset ≤ℤ target.offset → at_path path (area new) ≡ at_path path (render (image_at s.log target.offset)) → IsRendered new s.log r path
at_target s d claim target new r path k low is = record { offset = target.offset; end = k.targets.end; past = k.targets.past; recorded = low; same = is }

same_record : (m : Option Recorded) (target r : Recorded) → m ≡ Some target → m ≡ Some r → target ≡ r
same_record m target r one two = cc

last_agrees : (source : List Rendered) (s : Shared) (d : Driver) (claim : ℤ) (target : Recorded) (new : Tree) → Took s d claim target new → is_last_write (remaining_at s.tree s.log target.offset) ≡ true → PathsAgree source (record s { tree = new })
last_agrees source s d claim target new k last migrated r found path =
    let all : Completed new (image_at s.log target.offset) (written_recorded target) = completed s d claim target new k last in
    let one : target ≡ r = same_record (migration_record new) target r (all.recorded ∙ k.read) found in
    inr (at_target s d claim target new r path k (at_most_by r.offset target.offset (ap (λ (x : Recorded). x.offset) (sym one))) (ap (at_path path) all.area))

more_path : (source : List Rendered) (s : Shared) (d : Driver) (claim : ℤ) (target : Recorded) (new : Tree) (r : Recorded) (path : List ℕ) → Took s d claim target new → r.offset ≤ℤ target.offset → IsAsCommitted s.tree source r path ⊎ IsRendered s.tree s.log r path
    → (at_path path (area new) ≡ at_path path (area s.tree)) ⊎ (at_path path (area new) ≡ at_path path (render (image_at s.log target.offset))) → IsAsCommitted new source r path ⊎ IsRendered new s.log r path
more_path source s d claim target new r path k low old (inl before) = same_area source s.tree new s.log r path before old
more_path source s d claim target new r path k low old (inr after) = inr (at_target s d claim target new r path k low after)

more_agrees : (source : List Rendered) (s : Shared) (d : Driver) (claim : ℤ) (target : Recorded) (new : Tree) → Took s d claim target new → is_last_write (remaining_at s.tree s.log target.offset) ≡ false → PathsAgree source s → PathsAgree source (record s { tree = new })
more_agrees source s d claim target new k more agrees migrated r found path =
    let there = sym (write_keeps_recorded s.tree new (image_at s.log target.offset) claim target more k.made) ∙ found in
    more_path source s d claim target new r path k (k.targets.recorded r there) (agrees migrated r there path) (written_between s.tree new (image_at s.log target.offset) claim target k.kept.tree k.made path)

written_by : (source : List Rendered) (s : Shared) (d : Driver) (claim : ℤ) (target : Recorded) (new : Tree) (b : Bool) → is_last_write (remaining_at s.tree s.log target.offset) ≡ b → Took s d claim target new → PathsAgree source s → PathsAgree source (record s { tree = new })
written_by source s d claim target new true last k agrees = last_agrees source s d claim target new k last
written_by source s d claim target new false more k agrees = more_agrees source s d claim target new k more agrees

pub written_agrees : (source : List Rendered) (s : Shared) (d : Driver) (claim : ℤ) (target : Recorded) (new : Tree) → Took s d claim target new → PathsAgree source s → PathsAgree (source_after source s) (record s { tree = new })
written_agrees source s d claim target new k agrees =
    on_migrated source s (record s { tree = new }) (λ migrated. migrated) (λ was. written_by source s d claim target new (is_last_write (remaining_at s.tree s.log target.offset)) refl k agrees)

-- ---- the commit

pub commit_agrees : (source : List Rendered) (s : Shared) (more : Log) → is_migrated_log s.log ≡ false → ((r : Recorded) → migration_record s.tree ≡ Some r → r.offset ≡ negsuc 0) → PathsAgree (source_after source s) (record s { log = more })
commit_agrees source s more before none migrated r found path = inl (record { none = none r found; same = ap (at_path path) (sym (source_now source s before)) })
