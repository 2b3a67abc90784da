-- The commit of a log that wasn't migrated is its last record.
use Rattle.std.proofs.Common.{◌≡◌, ◌⊎◌, inl, inr, ℤ, pos, ◌+ℤ◌, ◌≤ℤ◌, int_le, int_lt, Bool, true, false, not, ◌&&◌, ◌||◌, cond, List, [], ◌∷◌, ◌++◌, filter, Option, Some, None, option_map, All, refl, sym, ap, ◌∙◌, subst, arith}
use Rattle.std.specs.Prelude.{◌<ℤ◌}
use Rattle.std.specs.Ordering.{int_eq}
use Rattle.std.specs.List.{list_any, find}
use Rattle.std.proofs.lemmas.Bool.Decides.{Decides-int_eq}
use Rattle.std.proofs.lemmas.Int.{ints}
use Rattle.kz_types.specs.declared.codes.TheConstants.{MIGRATION, NO_MIGRATION, PRE_MIGRATION}
use Rattle.kz_types.specs.declared.log.Entry.{Entry}
use Rattle.kz_types.specs.declared.record.MetaRecord.{MetaRecord}
use Rattle.kz_types.specs.declared.record.MetaRecord.TheVariants as meta
use Rattle.kz_spec_data.specs.Settlement.{is_end, closes, is_marker, is_inside, first_close, is_ended_by, is_counted, is_open, is_migration, is_at, ends_migration, commit}
use Rattle.kz_spec_data.specs.Log.{Log, end_of, entries, with_batch, is_open_log, commit_of}
use Rattle.kz_spec_machine.specs.Driver.{commit_records}
use Rattle.kz_spec_machine.specs.Sound.{LogShape, IsBeforeMigration, Unmigrated}
use Rattle.kz_laws_machine.proofs.LogBatches.{AllAfter, and_last, numbered_after, end_more}
use Rattle.kz_laws_machine.proofs.Migration.{AllUpTo, entries_more, up_to_end}
use Rattle.kz_laws_machine.proofs.TreeCommits.{ends_same}
use Rattle.kz_laws_machine.proofs.Rising.{RisesAfter, log_rises}
use Rattle.kz_laws_machine.proofs.Begun.{open_kept}
use Rattle.kz_laws_machine.proofs.Members.{Within, any_passes, found_passes, one_at, passes_all}
use Rattle.kz_laws_machine.proofs.Commit.{state_entry, end_entry, committing}

-- ---- before it there is none

both : (a b : Bool) → (a && b) ≡ true → (a ≡ true) × (b ≡ true)
both true b is = (refl, is)
both false b is = absurd (cc)

three : (a b c : Bool) → (a && b && c) ≡ true → (a ≡ true) × (b ≡ true) × (c ≡ true)
three true true c is = (refl, refl, is)
three true false c is = absurd (cc)
three false b c is = absurd (cc)

found_at : (o : ℤ) (m : Option Entry) → is_at o m ≡ true → (x : Entry) × (m ≡ Some x) × (x.offset ≡ o)
found_at o None is = absurd (cc)
found_at o (Some x) is = (x, refl, (Decides-int_eq x.offset o).0 is)

no_marker : (r : MetaRecord) → is_migration r ≡ true → is_marker r ≡ false
no_marker (meta.ZkMigrationState s) is = refl
no_marker r is = absurd (cc)

other_state : (s : ℤ) → int_eq s MIGRATION ≡ true → (s ≡ NO_MIGRATION) ⊎ (s ≡ PRE_MIGRATION) → ⊥
other_state s is (inl none) = let same : s ≡ MIGRATION = (Decides-int_eq s MIGRATION).0 is in absurd (omega (arith, ints, same, none))
other_state s is (inr pre) = let same : s ≡ MIGRATION = (Decides-int_eq s MIGRATION).0 is in absurd (omega (arith, ints, same, pre))

not_before : (r : MetaRecord) → is_migration r ≡ true → IsBeforeMigration r → ⊥
not_before (meta.ZkMigrationState s) is before = other_state s is before
not_before r is before = absurd (cc)

at_most_is : (a b : ℤ) → a ≤ℤ b → int_le a b ≡ true
at_most_is a b low = grind (arith, ints)

counts : (early marker inside ended : Bool) → early ≡ true → marker ≡ false → ended ≡ true → (early && not marker && (not inside || ended)) ≡ true
counts true false true true x y z = refl
counts true false false ended x y z = refl
counts true true inside ended x y z = absurd (cc)
counts true false true false x y z = absurd (cc)
counts false marker inside ended x y z = absurd (cc)

up_to_each : (at : ℤ) (es : List Entry) (x : Entry) → AllUpTo at es → Within x es → x.offset ≤ℤ at
up_to_each at [] x up_to among = absurd among
up_to_each at (e ∷ es) x up_to (inl same) = subst (λ (y : Entry). y.offset ≤ℤ at) (sym same) up_to.0
up_to_each at (e ∷ es) x up_to (inr among) = up_to_each at es x up_to.1 among

-- a record that ends the migration has one of its state that counts
ended_counts : (base at : ℤ) (es : List Entry) (e : Entry) → RisesAfter base es → AllUpTo at es → All (λ (x : Entry). IsBeforeMigration x.item) (filter (is_counted es at) es) → Within e es → ends_migration es e ≡ true → ⊥
ended_counts base at es e rises up_to before among is =
    let parts = both (is_end e.item) (list_any (λ (s : Entry). is_migration s.item && is_inside es s.offset && is_at e.offset (first_close es s.offset)) es) is in
    let f = any_passes (λ (s : Entry). is_migration s.item && is_inside es s.offset && is_at e.offset (first_close es s.offset)) es parts.1 in
    let s : Entry = f.entry in
    let tests = three (is_migration s.item) (is_inside es s.offset) (is_at e.offset (first_close es s.offset)) f.passes in
    let close = found_at e.offset (first_close es s.offset) tests.2 in
    let there = found_passes (λ (x : Entry). closes x.item && int_lt s.offset x.offset) es close.0 close.1 in
    let same : close.0 ≡ e = one_at base es close.0 e rises there.0 among close.2 in
    let ended : is_ended_by at (first_close es s.offset) ≡ true =
    ap (is_ended_by at) close.1 ∙ ap (λ (b : Bool). b && int_le close.0.offset at) (ap (λ (x : Entry). is_end x.item) same ∙ parts.0) ∙ at_most_is close.0.offset at (up_to_each at es close.0 up_to there.0) in
    let counted : is_counted es at s ≡ true =
    counts (int_le s.offset at) (is_marker s.item) (is_inside es s.offset) (is_ended_by at (first_close es s.offset)) (at_most_is s.offset at (up_to_each at es s up_to f.among)) (no_marker s.item tests.0) ended in
    not_before s.item tests.0 (passes_all (λ (x : Entry). IsBeforeMigration x.item) (is_counted es at) es s before f.among counted)

none_found : (base at : ℤ) (es : List Entry) (m : Option Entry) → find (ends_migration es) es ≡ m → RisesAfter base es → AllUpTo at es → All (λ (x : Entry). IsBeforeMigration x.item) (filter (is_counted es at) es) → m ≡ None
none_found base at es None is rises up_to before = refl
none_found base at es (Some e) is rises up_to before = let there = found_passes (ends_migration es) es e is in absurd (ended_counts base at es e rises up_to before there.0 there.1)

none_ends : (l : Log) → LogShape l → Unmigrated l → find (ends_migration (entries l.batches)) (entries l.batches) ≡ None
none_ends l shape before = none_found l.base (end_of l) (entries l.batches) (find (ends_migration (entries l.batches)) (entries l.batches)) refl (log_rises l shape) (up_to_end l shape) before.records

-- ---- its own

find_rest : (at : ℤ) (p q : Entry → Bool) (es new : List Entry) → AllUpTo at es → ((e : Entry) → e.offset ≤ℤ at → p e ≡ q e) → find q es ≡ None → find p (es ++ new) ≡ find p new
find_rest at p q [] new up_to agree none = refl
find_rest at p q (e ∷ es) new up_to agree none =
    let parts = first_none (q e) (find q es) none in
    ap (λ (b : Bool). cond b (Some e) (find p (es ++ new))) (agree e up_to.0 ∙ parts.0) ∙ find_rest at p q es new up_to.1 agree parts.1
  where
    first_none : (b : Bool) (m : Option Entry) → cond b (Some e) m ≡ None → (b ≡ false) × (m ≡ None)
    first_none true m none = absurd (cc)
    first_none false m none = (refl, none)

any_last : (p : Entry → Bool) (es : List Entry) (x : Entry) (new : List Entry) → p x ≡ true → list_any p (es ++ x ∷ new) ≡ true
any_last p [] x new is = ap (λ (b : Bool). b || list_any p new) is
any_last p (e ∷ es) x new is = ap (λ (b : Bool). p e || b) (any_last p es x new is) ∙ or_true (p e)
  where
    or_true : (b : Bool) → (b || true) ≡ true
    or_true true = refl
    or_true false = refl

all_true : (a b c : Bool) → a ≡ true → b ≡ true → c ≡ true → (a && b && c) ≡ true
all_true a b c x y z = ap (λ (t : Bool). t && b && c) x ∙ ap (λ (t : Bool). t && c) y ∙ z

next_is_less : (o : ℤ) → int_lt o (o +ℤ pos 1) ≡ true
next_is_less o = grind (arith, ints)

same_is : (o : ℤ) → int_eq o o ≡ true
same_is o = (Decides-int_eq o o).1 refl

skip_earlier : (at o : ℤ) (es new : List Entry) → at ≤ℤ o → AllUpTo at es → find (λ (x : Entry). closes x.item && int_lt o x.offset) (es ++ new) ≡ find (λ (x : Entry). closes x.item && int_lt o x.offset) new
skip_earlier at o [] new low up_to = refl
skip_earlier at o (e ∷ es) new low up_to =
    ap (λ (b : Bool). cond b (Some e) (find (λ (x : Entry). closes x.item && int_lt o x.offset) (es ++ new))) (and_last (closes e.item) (int_lt o e.offset) (not_less e.offset o (between e.offset at o up_to.0 low))) ∙ skip_earlier at o es new low up_to.1
  where
    not_less : (a b : ℤ) → a ≤ℤ b → int_lt b a ≡ false
    not_less a b h = grind (arith, ints)

    between : (a b c : ℤ) → a ≤ℤ b → b ≤ℤ c → a ≤ℤ c
    between a b c x y = omega (arith, ints, x, y)

weak : (at : ℤ) → at ≤ℤ (at +ℤ pos 1)
weak at = omega (arith, ints)

-- the first record that ends a transaction after that of the state is the End after it
close_of_state : (at epoch : ℤ) (es : List Entry) → AllUpTo at es → first_close (es ++ committing (at +ℤ pos 1) epoch) (at +ℤ pos 1) ≡ Some (end_entry ((at +ℤ pos 1) +ℤ pos 1) epoch)
close_of_state at epoch es up_to =
    skip_earlier at (at +ℤ pos 1) es (committing (at +ℤ pos 1) epoch) (weak at) up_to
    ∙ ap (λ (b : Bool). cond b (Some (end_entry ((at +ℤ pos 1) +ℤ pos 1) epoch)) None) (next_is_less (at +ℤ pos 1))

last_ends : (at epoch : ℤ) (es : List Entry) → AllUpTo at es → AllAfter at (committing (at +ℤ pos 1) epoch) → is_open es at ≡ true → ends_migration (es ++ committing (at +ℤ pos 1) epoch) (end_entry ((at +ℤ pos 1) +ℤ pos 1) epoch) ≡ true
last_ends at epoch es up_to after opened =
    let all = es ++ committing (at +ℤ pos 1) epoch in
    let last = (at +ℤ pos 1) +ℤ pos 1 in
    any_last (λ (s : Entry). is_migration s.item && is_inside all s.offset && is_at last (first_close all s.offset)) es (state_entry (at +ℤ pos 1) epoch) (end_entry last epoch ∷ [])
    (all_true (is_migration (meta.ZkMigrationState MIGRATION)) (is_inside all (at +ℤ pos 1)) (is_at last (first_close all (at +ℤ pos 1))) refl (open_kept at es (committing (at +ℤ pos 1) epoch) after ∙ opened) (ap (is_at last) (close_of_state at epoch es up_to) ∙ same_is last))

-- where the log wasn't migrated and its transaction was open, the End is the commit
pub commit_is : (l : Log) (epoch now : ℤ) → LogShape l → Unmigrated l → is_open_log l ≡ true → commit_of (with_batch l epoch now commit_records) ≡ Some (end_of (with_batch l epoch now commit_records))
commit_is l epoch now shape before opened =
    let es = entries l.batches in
    let at = end_of l in
    let new = committing (at +ℤ pos 1) epoch in
    let last = (at +ℤ pos 1) +ℤ pos 1 in
    let up_to = up_to_end l shape in
    let after : AllAfter at new = numbered_after at (at +ℤ pos 1) epoch commit_records (next_above at) in
    ap commit (entries_more l epoch now commit_records)
    ∙ ap (option_map (λ (e : Entry). e.offset)) (find_rest at (ends_migration (es ++ new)) (ends_migration es) es new up_to (λ e low. ends_same at es new e up_to after low) (none_ends l shape before)
    ∙ ap (λ (b : Bool). cond b (Some (end_entry last epoch)) None) (last_ends at epoch es up_to after opened))
    ∙ ap (λ (o : ℤ). Some o) (two_more at (end_of (with_batch l epoch now commit_records)) (end_more l epoch now commit_records))
  where
    next_above : (o : ℤ) → o <ℤ (o +ℤ pos 1)
    next_above o = omega (arith, ints)

    two_more : (e n : ℤ) → n ≡ e +ℤ pos 2 → ((e +ℤ pos 1) +ℤ pos 1) ≡ n
    two_more e n is = omega (arith, ints, is)
