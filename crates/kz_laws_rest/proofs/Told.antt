-- What a check tells of a closed tree.
use Rattle.std.proofs.Common.{◌≡◌, ℕ, ℤ, pos, ◌≤ℤ◌, int_le, Bool, true, false, not, ◌&&◌, ◌||◌, if◌then◌else◌, cond, List, [], ◌∷◌, ◌++◌, Option, Some, None, refl, ap, ◌∙◌, filter, arith}
use Rattle.std.specs.Prelude.{is_none}
use Rattle.std.specs.List.{list_any, find as find_by}
use Rattle.std.proofs.lemmas.Int.{ints}
use Rattle.std.proofs.lemmas.Slice.Eq.{bytes_eq-Decides}
use Rattle.std.proofs.lemmas.List.Elements.{filter-append}
use Rattle.kz_types.specs.declared.machine.Recorded.{Recorded}
use Rattle.kz_types.specs.declared.machine.Verdict.{Verdict}
use Rattle.kz_types.specs.declared.machine.Verdict.TheVariants.{Unmigrated, Unrecorded, Closed}
use Rattle.kz_spec_data.specs.Tree.{Tree, area, migration_record, unclosed_path}
use Rattle.kz_spec_data.specs.Log.{Log, image_at, is_migrated_log}
use Rattle.kz_spec_data.specs.Rendering.{render, body_at}
use Rattle.kz_spec_machine.specs.Driver.{Shared}
use Rattle.kz_spec_machine.specs.Verdicts.{same_bodies, agrees_at, ends_from, paths_at, disagrees, closed_or_ahead, unless_disagrees, verdict_at, verdict_of, verdict}
use Rattle.kz_spec_machine.specs.Sound.{IsBatchEnd, RecordAgrees, IsSharedSound}
use Rattle.kz_laws_events.proofs.Targets.{closed_offset}

same_itself : (m : Option (List ℕ)) → same_bodies m m ≡ true
same_itself None = refl
same_itself (Some b) = (bytes_eq-Decides b b).1 refl

agrees_there : (t : Tree) (l : Log) (path : List ℕ) (offset : ℤ) → area t ≡ render (image_at l offset) → agrees_at t l path offset ≡ true
agrees_there t l path offset same = ap (λ rs. same_bodies (body_at path rs) (body_at path (render (image_at l offset)))) same ∙ same_itself (body_at path (render (image_at l offset)))

any_left : (p : ℤ → Bool) (xs : List ℤ) (x : ℤ) (ys : List ℤ) → p x ≡ true → list_any p (xs ++ x ∷ ys) ≡ true
any_left p [] x ys is = ap (λ b. b || list_any p ys) is
any_left p (z ∷ xs) x ys is = or_true (p z) (list_any p (xs ++ x ∷ ys)) (any_left p xs x ys is)
  where
    or_true : (a b : Bool) → b ≡ true → (a || b) ≡ true
    or_true true b e = refl
    or_true false b e = e

at_least_itself : (o : ℤ) → int_le o o ≡ true
at_least_itself o = grind (arith, ints)

-- the offset is among the batch ends from it on
among_ends : (l : Log) (offset : ℤ) (p : ℤ → Bool) → IsBatchEnd l offset → p offset ≡ true → list_any p (ends_from l offset) ≡ true
among_ends l offset p e is =
    let late : ℤ → Bool = λ x. int_le offset x in
    ap (λ ends. list_any p (filter late ends)) e.among
    ∙ ap (list_any p) (filter-append late e.before (offset ∷ e.after) ∙ ap (λ b. filter late e.before ++ cond b (offset ∷ filter late e.after) (filter late e.after)) (at_least_itself offset))
    ∙ any_left p (filter late e.before) offset (filter late e.after) is

neither : (a b c : Bool) → a ≡ true → b ≡ true → (not a || (c && not b)) ≡ false
neither true true true x y = refl
neither true true false x y = refl
neither true false c x y = absurd (cc)
neither false b c x y = absurd (cc)

agrees_everywhere : (t : Tree) (l : Log) (offset : ℤ) (closed : Bool) (path : List ℕ) → IsBatchEnd l offset → area t ≡ render (image_at l offset) → disagrees t l offset closed path ≡ false
agrees_everywhere t l offset closed path end same =
    let there = agrees_there t l path offset same in
    neither (list_any (agrees_at t l path) (ends_from l offset)) (agrees_at t l path offset) closed (among_ends l offset (agrees_at t l path) end there) there

none_found : (p : List ℕ → Bool) (paths : List (List ℕ)) → ((path : List ℕ) → p path ≡ false) → find_by p paths ≡ None
none_found p [] none = refl
none_found p (x ∷ xs) none = ap (λ b. cond b (Some x) (find_by p xs)) (none x) ∙ none_found p xs none

told_at : (t : Tree) (l : Log) (offset : ℤ) → IsBatchEnd l offset → area t ≡ render (image_at l offset) → unclosed_path t ≡ None → verdict_at t l offset (is_none (unclosed_path t)) ≡ Closed offset
told_at t l offset end same closed =
    ap (λ m. unless_disagrees m (closed_or_ahead t l offset (is_none (unclosed_path t)))) (none_found (disagrees t l offset (is_none (unclosed_path t))) (paths_at t l offset) (λ path. agrees_everywhere t l offset (is_none (unclosed_path t)) path end same))
    ∙ ap (λ (m : Option (List ℕ)). closed_or_ahead t l offset (is_none m)) closed

at_least_zero : (o : ℤ) → pos 0 ≤ℤ o → int_le (pos 0) o ≡ true
at_least_zero o low = grind (arith, ints)

pub closed_told : (s : Shared) (r : Recorded) → IsSharedSound s → is_migrated_log s.log ≡ true → migration_record s.tree ≡ Some r → unclosed_path s.tree ≡ None → verdict s.tree s.log ≡ Closed r.offset
unfolding verdict
closed_told s r kept migrated is closed =
    let low = closed_offset s.tree r is closed in
    let agrees : RecordAgrees s.tree s.log r = (kept.agreement migrated).recorded r is in
    let at : Verdict = verdict_at s.tree s.log r.offset (is_none (unclosed_path s.tree)) in
    ap (λ (b : Bool). if b then verdict_of s.tree s.log (migration_record s.tree) else Unmigrated) migrated
    ∙ ap (verdict_of s.tree s.log) is
    ∙ ap (λ (b : Bool). if b then at else Unrecorded) (at_least_zero r.offset low)
    ∙ told_at s.tree s.log r.offset (agrees.end low) (agrees.same low closed) closed
