-- What counts once the migration is committed: what counted before, and the records of its transaction.
use Rattle.std.proofs.Common.{◌≡◌, ℤ, pos, ◌+ℤ◌, ◌≤ℤ◌, int_le, Bool, true, false, not, ◌&&◌, ◌||◌, cond, List, [], ◌∷◌, ◌++◌, Option, Some, refl, sym, ap, ◌∙◌, subst, arith}
use Rattle.std.specs.List.{find}
use Rattle.std.proofs.lemmas.Int.{ints}
use Rattle.kz_types.specs.declared.codes.TheConstants.{MIGRATION}
use Rattle.kz_types.specs.declared.log.Entry.{Entry}
use Rattle.kz_types.specs.declared.record.MetaRecord.TheVariants as meta
use Rattle.kz_spec_data.specs.Settlement.{is_begin, is_end, closes, is_marker, is_ended_by, counting_records}
use Rattle.kz_spec_data.specs.Log.{Log, end_of, entries, with_batch}
use Rattle.kz_spec_machine.specs.Driver.{commit_records}
use Rattle.kz_spec_machine.specs.Sound.{LogShape}
use Rattle.kz_laws_machine.proofs.Numbers.{at_most_then}
use Rattle.kz_laws_machine.proofs.LogBatches.{end_more}
use Rattle.kz_laws_machine.proofs.Migration.{AllUpTo, entries_more, up_to_append, up_to_end}
use Rattle.kz_laws_machine.proofs.Rising.{more_rises, next_up_to}
use Rattle.kz_laws_machine.proofs.Begun.{any_closes, or_true}
use Rattle.kz_laws_machine.proofs.LogSettled.{is_ended_in, open_after, settled, counting_settled, log_settled}
use Rattle.kz_laws_machine.proofs.Pending.{pending, NoneMarks}

abbrev pub state_entry : ℤ → ℤ → Entry
state_entry offset epoch = record { offset = offset; epoch = epoch; item = meta.ZkMigrationState MIGRATION }

abbrev pub end_entry : ℤ → ℤ → Entry
end_entry offset epoch = record { offset = offset; epoch = epoch; item = meta.EndTransaction }

-- the records of the commit
abbrev pub committing : ℤ → ℤ → List Entry
committing offset epoch = state_entry offset epoch ∷ end_entry (offset +ℤ pos 1) epoch ∷ []

-- ---- tests

true_or_false : (b : Bool) → b ≡ true → b ≡ false → ⊥
true_or_false b x y = cc

neither : (a b : Bool) → (a || b) ≡ false → (a ≡ false) × (b ≡ false)
neither true b is = absurd (cc)
neither false b is = (refl, is)

or_left : (a b : Bool) → a ≡ true → (a || b) ≡ true
or_left true b is = refl
or_left false b is = absurd (cc)

at_most_is : (a b : ℤ) → a ≤ℤ b → int_le a b ≡ true
at_most_is a b low = grind (arith, ints)

-- ---- records that end no transaction

-- before the records of the commit, their transaction is ended by it
ended_by_commit : (later offset epoch : ℤ) (es : List Entry) → any_closes es ≡ false → (offset +ℤ pos 1) ≤ℤ later → is_ended_in later (es ++ committing offset epoch) ≡ true
ended_by_commit later offset epoch [] none low = at_most_is (offset +ℤ pos 1) later low
ended_by_commit later offset epoch (e ∷ es) none low =
    let both = neither (closes e.item) (any_closes es) none in
    ap (λ (b : Bool). is_ended_by later (cond b (Some e) (find (λ (x : Entry). closes x.item) (es ++ committing offset epoch)))) both.0 ∙ ended_by_commit later offset epoch es both.1 low

none_ended : (at : ℤ) (es : List Entry) → any_closes es ≡ false → is_ended_in at es ≡ false
none_ended at [] none = refl
none_ended at (e ∷ es) none =
    let both = neither (closes e.item) (any_closes es) none in
    ap (λ (b : Bool). is_ended_by at (cond b (Some e) (find (λ (x : Entry). closes x.item) es))) both.0 ∙ none_ended at es both.1

-- a transaction that is open stays so
stays_open : (e : Entry) → closes e.item ≡ false → open_after true e ≡ true
stays_open e none = ap (λ (b : Bool). is_begin e.item || not b) none ∙ or_true (is_begin e.item)

not_counted : (marker ended : Bool) → ended ≡ false → (not marker && ended) ≡ false
not_counted true ended is = refl
not_counted false ended is = is

-- they don't count
pub none_settled : (at : ℤ) (es : List Entry) → any_closes es ≡ false → settled at true es ≡ []
none_settled at [] none = refl
none_settled at (e ∷ es) none =
    let both = neither (closes e.item) (any_closes es) none in
    ap (λ (b : Bool). cond b (e ∷ settled at (open_after true e) es) (settled at (open_after true e) es)) (not_counted (is_marker e.item) (is_ended_in at es) (none_ended at es both.1))
    ∙ ap (λ (b : Bool). settled at b es) (stays_open e both.0) ∙ none_settled at es both.1

counted_now : (marker ended : Bool) → marker ≡ false → ended ≡ true → (not marker && ended) ≡ true
counted_now marker ended x y = ap (λ (b : Bool). not b && ended) x ∙ y

-- with the commit they all do
all_settled : (later offset epoch : ℤ) (es : List Entry) → any_closes es ≡ false → NoneMarks es → (offset +ℤ pos 1) ≤ℤ later → settled later true (es ++ committing offset epoch) ≡ es ++ state_entry offset epoch ∷ []
all_settled later offset epoch [] none marks low =
    ap (λ (b : Bool). cond b (state_entry offset epoch ∷ []) []) (at_most_is (offset +ℤ pos 1) later low)
all_settled later offset epoch (e ∷ es) none marks low =
    let both = neither (closes e.item) (any_closes es) none in
    let rest = es ++ committing offset epoch in
    ap (λ (b : Bool). cond b (e ∷ settled later (open_after true e) rest) (settled later (open_after true e) rest)) (counted_now (is_marker e.item) (is_ended_in later rest) marks.0 (ended_by_commit later offset epoch es both.1 low))
    ∙ ap (λ (b : Bool). e ∷ settled later b rest) (stays_open e both.0)
    ∙ ap (λ (l : List Entry). e ∷ l) (all_settled later offset epoch es both.1 marks.1 low)

-- ---- records whose transaction is ended among them

ended_by : (at later : ℤ) (b : Bool) (e : Entry) (m n : Option Entry) → e.offset ≤ℤ at → at ≤ℤ later → (b ≡ false → is_ended_by later m ≡ is_ended_by at n) → is_ended_by later (cond b (Some e) m) ≡ is_ended_by at (cond b (Some e) n)
ended_by at later true e m n low more rest = ap (λ (t : Bool). is_end e.item && t) (at_most_is e.offset later (at_most_then e.offset at later low more) ∙ sym (at_most_is e.offset at low))
ended_by at later false e m n low more rest = rest refl

rest_closes : (a b : Bool) → (a || b) ≡ true → a ≡ false → b ≡ true
rest_closes true b is none = absurd (cc)
rest_closes false b is none = is

ended_before : (at later : ℤ) (es new : List Entry) → any_closes es ≡ true → AllUpTo at es → at ≤ℤ later → is_ended_in later (es ++ new) ≡ is_ended_in at es
ended_before at later [] new closed up_to more = absurd (cc)
ended_before at later (e ∷ es) new closed up_to more =
    ended_by at later (closes e.item) e (find (λ (x : Entry). closes x.item) (es ++ new)) (find (λ (x : Entry). closes x.item) es) up_to.0 more
    (λ none. ended_before at later es new (rest_closes (closes e.item) (any_closes es) closed none) up_to.1 more)

-- whether a record counts
abbrev counts_by : Bool → Bool → Bool → Bool
counts_by marker within ended = not marker && (not within || ended)

marker_counts : (marker within x y : Bool) → marker ≡ true → counts_by marker within x ≡ counts_by marker within y
marker_counts true within x y is = refl
marker_counts false within x y is = absurd (cc)

same_counts : (marker within closing : Bool) (x y : Bool) → (closing ≡ true → marker ≡ true) → (within ≡ true → closing ≡ false → x ≡ y) → counts_by marker within x ≡ counts_by marker within y
same_counts marker false closing x y marks same = refl
same_counts marker true true x y marks same = marker_counts marker true x y (marks refl)
same_counts marker true false x y marks same = ap (λ (b : Bool). not marker && b) (same refl refl)

-- no transaction is left open behind a record but one that is ended later
still_closed : (begins closing within rest : Bool) → (begins && not rest) ≡ false → (within ≡ true → (closing || rest) ≡ true) → (begins || (within && not closing)) ≡ true → rest ≡ true
still_closed begins closing within true test closed is = refl
still_closed true closing within false test closed is = absurd (cc)
still_closed false true true false test closed is = absurd (cc)
still_closed false true false false test closed is = absurd (cc)
still_closed false false true false test closed is = closed refl
still_closed false false false false test closed is = absurd (cc)

-- ---- all records

append_cond : (b : Bool) (e : Entry) (xs ys zs : List Entry) → xs ≡ ys ++ zs → cond b (e ∷ xs) xs ≡ cond b (e ∷ ys) ys ++ zs
append_cond true e xs ys zs is = ap (λ (l : List Entry). e ∷ l) is
append_cond false e xs ys zs is = is

-- the pending records and the state of the migration
abbrev pub added : ℤ → ℤ → List Entry → List Entry
added offset epoch es = pending es ++ state_entry offset epoch ∷ []

begins : (a b : Bool) → (a && not b) ≡ true → (a ≡ true) × (b ≡ false)
begins true true is = absurd (cc)
begins true false is = (refl, refl)
begins false b is = absurd (cc)

-- a Begin doesn't count, and opens a transaction
skipped : (at : ℤ) (within : Bool) (e : Entry) (rest : List Entry) → is_begin e.item ≡ true → settled at within (e ∷ rest) ≡ settled at true rest
skipped at within e rest is =
    ap (λ (b : Bool). cond (not (b || closes e.item) && (not within || is_ended_in at rest)) (e ∷ settled at (open_after within e) rest) (settled at (open_after within e) rest)) is
    ∙ ap (λ (b : Bool). settled at b rest) (or_left (is_begin e.item) (within && not (closes e.item)) is)

-- what is to be shown of records, and whether one is open before them
abbrev Settles : ℤ → ℤ → ℤ → ℤ → Bool → List Entry → Type 0
Settles at later offset epoch within es = settled later within (es ++ committing offset epoch) ≡ settled at within es ++ added offset epoch es

settles_first : (at later offset epoch : ℤ) (within : Bool) (e : Entry) (es : List Entry) → (is_begin e.item && not (any_closes es)) ≡ true → (offset +ℤ pos 1) ≤ℤ later → NoneMarks (pending (e ∷ es)) → Settles at later offset epoch within (e ∷ es)
settles_first at later offset epoch within e es test low marks =
    let both = begins (is_begin e.item) (any_closes es) test in
    let own : NoneMarks es = subst (λ (b : Bool). NoneMarks (cond b es (pending es))) test marks in
    skipped later within e (es ++ committing offset epoch) both.0
    ∙ all_settled later offset epoch es both.1 own low
    ∙ ap (λ (b : Bool). cond b es (pending es) ++ state_entry offset epoch ∷ []) (sym test)
    ∙ ap (λ (l : List Entry). l ++ added offset epoch (e ∷ es)) (sym (skipped at within e es both.0 ∙ none_settled at es both.1))

settles_later : (at later offset epoch : ℤ) (within : Bool) (e : Entry) (es : List Entry) → (is_begin e.item && not (any_closes es)) ≡ false → (within ≡ true → any_closes (e ∷ es) ≡ true) → AllUpTo at (e ∷ es) → at ≤ℤ later → NoneMarks (pending (e ∷ es))
    → ((b : Bool) → (b ≡ true → any_closes es ≡ true) → NoneMarks (pending es) → Settles at later offset epoch b es) → Settles at later offset epoch within (e ∷ es)
settles_later at later offset epoch within e es test closed up_to more marks rest_settles =
    let rest = es ++ committing offset epoch in
    let own : NoneMarks (pending es) = subst (λ (b : Bool). NoneMarks (cond b es (pending es))) test marks in
    let again = rest_settles (open_after within e) (still_closed (is_begin e.item) (closes e.item) within (any_closes es) test closed) own in
    ap (λ (b : Bool). cond b (e ∷ settled later (open_after within e) rest) (settled later (open_after within e) rest))
    (same_counts (is_marker e.item) within (closes e.item) (is_ended_in later rest) (is_ended_in at es) (λ closing. ap (λ (b : Bool). is_begin e.item || b) closing ∙ or_true (is_begin e.item))
    (λ inside none. ended_before at later es (committing offset epoch) (rest_closes (closes e.item) (any_closes es) (closed inside) none) up_to.1 more))
    ∙ append_cond (not (is_marker e.item) && (not within || is_ended_in at es)) e (settled later (open_after within e) rest) (settled at (open_after within e) es) (added offset epoch es) again
    ∙ ap (λ (b : Bool). settled at within (e ∷ es) ++ (cond b es (pending es) ++ state_entry offset epoch ∷ [])) (sym test)

settles_by : (at later offset epoch : ℤ) (within t : Bool) (e : Entry) (es : List Entry) → (is_begin e.item && not (any_closes es)) ≡ t → (within ≡ true → any_closes (e ∷ es) ≡ true) → AllUpTo at (e ∷ es) → at ≤ℤ later → (offset +ℤ pos 1) ≤ℤ later → NoneMarks (pending (e ∷ es))
    → ((b : Bool) → (b ≡ true → any_closes es ≡ true) → NoneMarks (pending es) → Settles at later offset epoch b es) → Settles at later offset epoch within (e ∷ es)
settles_by at later offset epoch within true e es test closed up_to more low marks rest_settles = settles_first at later offset epoch within e es test low marks
settles_by at later offset epoch within false e es test closed up_to more low marks rest_settles = settles_later at later offset epoch within e es test closed up_to more marks rest_settles

pub commit_settles : (at later offset epoch : ℤ) (within : Bool) (es : List Entry) → (within ≡ true → any_closes es ≡ true) → AllUpTo at es → at ≤ℤ later → (offset +ℤ pos 1) ≤ℤ later → NoneMarks (pending es) → Settles at later offset epoch within es
commit_settles at later offset epoch true [] closed up_to more low marks = absurd (true_or_false false (closed refl) refl)
commit_settles at later offset epoch false [] closed up_to more low marks = refl
commit_settles at later offset epoch within (e ∷ es) closed up_to more low marks =
    settles_by at later offset epoch within (is_begin e.item && not (any_closes es)) e es refl closed up_to more low marks (λ b ends own. commit_settles at later offset epoch b es ends up_to.1 more low own)

-- ---- a log

two_more : (e n : ℤ) → n ≡ e +ℤ pos 2 → ((e +ℤ pos 1) +ℤ pos 1) ≤ℤ n
two_more e n is = omega (arith, ints, is)

low_more : (e n : ℤ) → n ≡ e +ℤ pos 2 → e ≤ℤ n
low_more e n is = omega (arith, ints, is)

higher : (at later : ℤ) (es : List Entry) → at ≤ℤ later → AllUpTo at es → AllUpTo later es
higher at later [] low up_to = tt
higher at later (e ∷ es) low up_to = (at_most_then e.offset at later up_to.0 low, higher at later es low up_to.1)

-- what counts in a log once the migration is committed
pub commit_counts : (l : Log) (epoch now : ℤ) → LogShape l → NoneMarks (pending (entries l.batches))
    → counting_records (entries (with_batch l epoch now commit_records).batches) (end_of (with_batch l epoch now commit_records)) ≡ counting_records (entries l.batches) (end_of l) ++ added (end_of l +ℤ pos 1) epoch (entries l.batches)
commit_counts l epoch now shape marks =
    let es = entries l.batches in
    let later = end_of (with_batch l epoch now commit_records) in
    let is : later ≡ end_of l +ℤ pos 2 = end_more l epoch now commit_records in
    let up_to = up_to_end l shape in
    ap (λ (all : List Entry). counting_records all later) (entries_more l epoch now commit_records)
    ∙ counting_settled later l.base [] (es ++ committing (end_of l +ℤ pos 1) epoch) (more_rises l epoch commit_records shape) (up_to_append later es (committing (end_of l +ℤ pos 1) epoch) (higher (end_of l) later es (low_more (end_of l) later is) up_to) (next_up_to l epoch now commit_records))
    ∙ commit_settles (end_of l) later (end_of l +ℤ pos 1) epoch false es (λ none. absurd (cc)) up_to (low_more (end_of l) later is) (two_more (end_of l) later is) marks
    ∙ ap (λ (all : List Entry). all ++ added (end_of l +ℤ pos 1) epoch es) (sym (log_settled l shape))
