-- The commit of a log stays where more records come that end no transaction.
use Rattle.std.proofs.Common.{◌≡◌, ◌⊎◌, inl, inr, zero, suc, ℤ, pos, ◌+ℤ◌, ◌≤ℤ◌, ◌<ℤ◌, int_lt, Bool, true, false, ◌&&◌, ◌||◌, cond, List, [], ◌∷◌, ◌++◌, Option, Some, None, option_map, refl, sym, ap, ◌∙◌, subst, arith}
use Rattle.std.specs.Ordering.{int_eq}
use Rattle.std.specs.List.{Contains, list_any, find}
use Rattle.std.proofs.lemmas.Bool.Decides.{Decides-int_eq}
use Rattle.std.proofs.lemmas.Int.{ints}
use Rattle.kz_types.specs.declared.log.Entry.{Entry}
use Rattle.kz_types.specs.declared.record.MetaRecord.{MetaRecord}
use Rattle.kz_spec_data.specs.Settlement.{is_end, closes, is_inside, first_close, is_migration, is_at, ends_migration, commit}
use Rattle.kz_spec_data.specs.Log.{Log, end_of, entries, with_batch, commit_of}
use Rattle.kz_spec_machine.specs.Sound.{LogShape, IsPastCommit}
use Rattle.kz_laws_machine.proofs.LogBatches.{AllAfter, and_third, any_same, inside_same, numbered_after}
use Rattle.kz_laws_machine.proofs.Migration.{AllUpTo, NoneEnds, entries_more, up_to_end, next_entries}

-- ---- an entry at an offset

other_offset : (a b : ℤ) (t : Bool) → int_eq a b ≡ t → b <ℤ a → t ≡ false
other_offset a b true is less = absurd (let same : a ≡ b = (Decides-int_eq a b).0 is in omega (arith, ints, same, less))
other_offset a b false is less = refl

not_found_at : (o : ℤ) (b : Bool) (e : Entry) (m : Option Entry) → o <ℤ e.offset → is_at o m ≡ false → is_at o (cond b (Some e) m) ≡ false
not_found_at o true e m less rest = other_offset e.offset o (int_eq e.offset o) refl less
not_found_at o false e m less rest = rest

none_at : (at o : ℤ) (p : Entry → Bool) (new : List Entry) → o ≤ℤ at → AllAfter at new → is_at o (find p new) ≡ false
none_at at o p [] low after = refl
none_at at o p (e ∷ new) low after = not_found_at o (p e) e (find p new) (omega (arith, ints, low, after.0)) (none_at at o p new low after.1)

found_alike : (o : ℤ) (b : Bool) (e : Entry) (m n : Option Entry) → is_at o m ≡ is_at o n → is_at o (cond b (Some e) m) ≡ is_at o (cond b (Some e) n)
found_alike o true e m n rest = refl
found_alike o false e m n rest = rest

same_at : (at o : ℤ) (p : Entry → Bool) (es new : List Entry) → o ≤ℤ at → AllAfter at new → is_at o (find p (es ++ new)) ≡ is_at o (find p es)
same_at at o p [] new low after = none_at at o p new low after
same_at at o p (e ∷ es) new low after = found_alike o (p e) e (find p (es ++ new)) (find p es) (same_at at o p es new low after)

and_last : (a b : Bool) → (a && b) ≡ true → b ≡ true
and_last true b is = is
and_last false b is = absurd (cc)

is_less : (a b : ℤ) → int_lt a b ≡ true → a <ℤ b
is_less a b is = grind (arith, ints)

closed_late : (from o : ℤ) (e : Entry) (m : Option Entry) (b : Bool) → (closes e.item && int_lt from e.offset) ≡ b → o <ℤ from → is_at o m ≡ false → is_at o (cond b (Some e) m) ≡ false
closed_late from o e m true is less rest =
    let above : from <ℤ e.offset = is_less from e.offset (and_last (closes e.item) (int_lt from e.offset) is) in
    other_offset e.offset o (int_eq e.offset o) refl (omega (arith, ints, less, above))
closed_late from o e m false is less rest = rest

-- what closes after an offset doesn't stand before it
late_at : (from o : ℤ) (es : List Entry) → o <ℤ from → is_at o (first_close es from) ≡ false
late_at from o [] less = refl
late_at from o (e ∷ es) less = closed_late from o e (first_close es from) (closes e.item && int_lt from e.offset) refl less (late_at from o es less)

-- ---- an entry that ends the migration

pub any_up_to : (at : ℤ) (p q : Entry → Bool) (es : List Entry) → AllUpTo at es → ((e : Entry) → e.offset ≤ℤ at → p e ≡ q e) → list_any p es ≡ list_any q es
any_up_to at p q [] up_to agree = refl
any_up_to at p q (e ∷ es) up_to agree = ap (λ b. b || list_any p es) (agree e up_to.0) ∙ ap (λ b. q e || b) (any_up_to at p q es up_to.1 agree)

-- whether this entry is one of the migration's state in the transaction that ends at an offset
abbrev is_of_commit : List Entry → ℤ → Entry → Bool
is_of_commit es o s = is_migration s.item && is_inside es s.offset && is_at o (first_close es s.offset)

of_commit_same : (at o : ℤ) (es new : List Entry) (s : Entry) → o ≤ℤ at → AllAfter at new → s.offset ≤ℤ at → is_of_commit (es ++ new) o s ≡ is_of_commit es o s
of_commit_same at o es new s low after up_to =
    ap (λ b. is_migration s.item && b && is_at o (first_close (es ++ new) s.offset)) (inside_same at s.offset es new up_to after)
    ∙ ap (λ b. is_migration s.item && is_inside es s.offset && b) (same_at at o (λ (e : Entry). closes e.item && int_lt s.offset e.offset) es new low after)

pub ends_same : (at : ℤ) (es new : List Entry) (e : Entry) → AllUpTo at es → AllAfter at new → e.offset ≤ℤ at → ends_migration (es ++ new) e ≡ ends_migration es e
ends_same at es new e up_to after low =
    ap (λ b. is_end e.item && b)
    (any_same at (is_of_commit (es ++ new) e.offset) es new
    (λ s later. and_third (is_migration s.item) (is_inside (es ++ new) s.offset) (is_at e.offset (first_close (es ++ new) s.offset)) (late_at s.offset e.offset (es ++ new) (omega (arith, ints, low, later)))) after
    ∙ any_up_to at (is_of_commit (es ++ new) e.offset) (is_of_commit es e.offset) es up_to (λ s here. of_commit_same at e.offset es new s low after here))

-- ---- the commit

not_first : (b c : Bool) → b ≡ false → (b && c) ≡ false
not_first true c is = absurd (cc)
not_first false c is = refl

find_none : (all new : List Entry) → NoneEnds new → find (ends_migration all) new ≡ None
find_none all [] none = refl
find_none all (e ∷ new) none =
    ap (λ b. cond b (Some e) (find (ends_migration all) new)) (not_first (is_end e.item) (list_any (is_of_commit all e.offset) all) none.0) ∙ find_none all new none.1

find_same : (at : ℤ) (p q : Entry → Bool) (es new : List Entry) → AllUpTo at es → ((e : Entry) → e.offset ≤ℤ at → p e ≡ q e) → find p new ≡ None → find p (es ++ new) ≡ find q es
find_same at p q [] new up_to agree none = none
find_same at p q (e ∷ es) new up_to agree none =
    ap (λ b. cond b (Some e) (find p (es ++ new))) (agree e up_to.0) ∙ ap (λ m. cond (q e) (Some e) m) (find_same at p q es new up_to.1 agree none)

commit_same : (at : ℤ) (es new : List Entry) → AllUpTo at es → AllAfter at new → NoneEnds new → commit (es ++ new) ≡ commit es
commit_same at es new up_to after none =
    ap (option_map (λ (e : Entry). e.offset)) (find_same at (ends_migration (es ++ new)) (ends_migration es) es new up_to (λ e low. ends_same at es new e up_to after low) (find_none (es ++ new) new none))

pub commit_kept : (l : Log) (epoch now : ℤ) (items : List MetaRecord) → LogShape l → NoneEnds (next_entries l epoch items) → commit_of (with_batch l epoch now items) ≡ commit_of l
commit_kept l epoch now items shape none =
    ap commit (entries_more l epoch now items)
    ∙ commit_same (end_of l) (entries l.batches) (next_entries l epoch items) (up_to_end l shape) (numbered_after (end_of l) (end_of l +ℤ pos 1) epoch items (omega (arith, ints))) none

-- ---- which offsets aren't before a commit

contained_up_to : (at : ℤ) (es : List Entry) (e : Entry) → AllUpTo at es → Contains es e → e.offset ≤ℤ at
contained_up_to at [] e up_to (n, within, is) = absurd (omega (arith, within))
contained_up_to at (x ∷ es) e up_to (zero, within, is) = subst (λ (y : Entry). y.offset ≤ℤ at) is up_to.0
contained_up_to at (x ∷ es) e up_to (suc n, within, is) = contained_up_to at es e up_to.1 (n, omega (arith, within), is)

contained_in_either : (xs ys : List Entry) (e : Entry) → Contains (xs ++ ys) e → Contains xs e ⊎ Contains ys e
contained_in_either [] ys e has = inr has
contained_in_either (x ∷ xs) ys e (zero, within, is) = inl (0, omega (arith), is)
contained_in_either (x ∷ xs) ys e (suc n, within, is) = by (contained_in_either xs ys e (n, omega (arith, within), is))
  where
    by : Contains xs e ⊎ Contains ys e → Contains (x ∷ xs) e ⊎ Contains ys e
    by (inl has) = inl (suc has.0, omega (arith, has.1), has.2)
    by (inr has) = inr has

contained_first : (xs ys : List Entry) (e : Entry) → Contains xs e → Contains (xs ++ ys) e
contained_first [] ys e (n, within, is) = absurd (omega (arith, within))
contained_first (x ∷ xs) ys e (zero, within, is) = (0, omega (arith), is)
contained_first (x ∷ xs) ys e (suc n, within, is) = let rest = contained_first xs ys e (n, omega (arith, within), is) in (suc rest.0, omega (arith, rest.1), rest.2)

none_contained : (es : List Entry) (e : Entry) → NoneEnds es → Contains es e → is_end e.item ≡ false
none_contained [] e none (n, within, is) = absurd (omega (arith, within))
none_contained (x ∷ es) e none (zero, within, is) = subst (λ (y : Entry). is_end y.item ≡ false) is none.0
none_contained (x ∷ es) e none (suc n, within, is) = none_contained es e none.1 (n, omega (arith, within), is)

ends_nothing : (all : List Entry) (e : Entry) → is_end e.item ≡ false → ends_migration all e ≡ true → ⊥
ends_nothing all e none ends =
    let both : false ≡ true = sym (not_first (is_end e.item) (list_any (is_of_commit all e.offset) all) none) ∙ ends in absurd (cc)

-- the log's end
pub end_is_past : (l : Log) → LogShape l → IsPastCommit l (end_of l)
end_is_past l shape e has ends = contained_up_to (end_of l) (entries l.batches) e (up_to_end l shape) has

either_past : (l : Log) (new : List Entry) (k : ℤ) → LogShape l → AllAfter (end_of l) new → NoneEnds new → IsPastCommit l k → (e : Entry) → ends_migration (entries l.batches ++ new) e ≡ true → Contains (entries l.batches) e ⊎ Contains new e → e.offset ≤ℤ k
either_past l new k shape after none past e ends (inl old) =
    let up_to = up_to_end l shape in
    past e old (sym (ends_same (end_of l) (entries l.batches) new e up_to after (contained_up_to (end_of l) (entries l.batches) e up_to old)) ∙ ends)
either_past l new k shape after none past e ends (inr late) = absurd (ends_nothing (entries l.batches ++ new) e (none_contained new e none late) ends)

next_after : (l : Log) (epoch : ℤ) (items : List MetaRecord) → AllAfter (end_of l) (next_entries l epoch items)
next_after l epoch items = numbered_after (end_of l) (end_of l +ℤ pos 1) epoch items (omega (arith, ints))

-- one that was it, after a batch that ends no transaction
pub past_kept : (l : Log) (epoch now : ℤ) (items : List MetaRecord) (k : ℤ) → LogShape l → NoneEnds (next_entries l epoch items) → IsPastCommit l k → IsPastCommit (with_batch l epoch now items) k
past_kept l epoch now items k shape none past e has ends =
    let more = entries_more l epoch now items in
    either_past l (next_entries l epoch items) k shape (next_after l epoch items) none past e
    (subst (λ (all : List Entry). ends_migration all e ≡ true) more ends)
    (contained_in_either (entries l.batches) (next_entries l epoch items) e (subst (λ (all : List Entry). Contains all e) more has))

-- one that is it after a batch was so before it
pub past_before : (l : Log) (epoch now : ℤ) (items : List MetaRecord) (k : ℤ) → LogShape l → IsPastCommit (with_batch l epoch now items) k → IsPastCommit l k
past_before l epoch now items k shape past e has ends =
    let more = entries_more l epoch now items in
    let up_to = up_to_end l shape in
    let es = entries l.batches in
    let new = next_entries l epoch items in
    past e (subst (λ (all : List Entry). Contains all e) (sym more) (contained_first es new e has))
    (subst (λ (all : List Entry). ends_migration all e ≡ true) (sym more) (ends_same (end_of l) es new e up_to (next_after l epoch items) (contained_up_to (end_of l) es e up_to has) ∙ ends))

found_by : (k c : ℤ) (p : Entry → Bool) (es : List Entry) → ((e : Entry) → Contains es e → p e ≡ true → e.offset ≤ℤ k) → option_map (λ (x : Entry). x.offset) (find p es) ≡ Some c → c ≤ℤ k
found_by k c p [] past is = absurd (cc)
found_by k c p (x ∷ es) past is = by (p x) refl (found_by k c p es (λ e has. past e (suc has.0, omega (arith, has.1), has.2))) is
  where
    by : (b : Bool) → p x ≡ b → (option_map (λ (y : Entry). y.offset) (find p es) ≡ Some c → c ≤ℤ k) → option_map (λ (y : Entry). y.offset) (cond b (Some x) (find p es)) ≡ Some c → c ≤ℤ k
    by true t rest found = let same : x.offset ≡ c = cc in subst (λ (o : ℤ). o ≤ℤ k) same (past x (0, omega (arith), refl) t)
    by false t rest found = rest found

-- the log's commit isn't after such an offset
pub commit_is_past : (l : Log) (c k : ℤ) → IsPastCommit l k → commit_of l ≡ Some c → c ≤ℤ k
commit_is_past l c k past is = found_by k c (ends_migration (entries l.batches)) (entries l.batches) past is
