-- A table that is judged line by line.
use Rattle.std.proofs.Common.{◌≡◌, ℕ, suc, ◌+◌, ◌-◌, ◌<◌, Bool, true, false, cond, eqb, ◌&&◌, slice_index, List, [], ◌∷◌, ◌++◌, length, take, None, Some, IfSome, refl, sym, ap, subst, ◌∙◌, append_assoc, arith}
use Rattle.std.proofs.lemmas.Bool.{lt-ltb}
use Rattle.std.proofs.lemmas.List.{append-nil, length-append}
use Rattle.std.proofs.lemmas.List.Sums.{sum_by-append}
use Rattle.std.specs.Prelude.{Option, Result, Ok, IfOk, not}
use Rattle.std.specs.List.{count_by}
use Rattle.std.specs.Io.KnownBytes.{Appends, IsAtEnd}
use Rattle.std.specs.Io.BufRead.{take_through, drop_through, strip_last, first_piece, DropsThrough}
use Rattle.std.proofs.KnownBytes.{Appends-trans}
use Rattle.kz_cases.specs.Tables.{Outcome, lines_of, with_byte, passes, fails, told, all_told, summary, IsOutcome, AreOutcomes, IsReported}

-- the value of a call that succeeded
pub value_of : {X E : Type 0} (P : X → Type 0) (r : Result X E) (x : X) → r ≡ Ok x → IfOk r P → P x
value_of P r x e h = subst (λ q. IfOk q P) e h

-- ---- lines

under : (b : Bool) (x : ℕ) (p q : List ℕ) → cond b (x ∷ p) (x ∷ q) ≡ x ∷ cond b p q
under true x p q = refl
under false x p q = refl

strip_at : (x : ℕ) (xs : List ℕ) → strip_last 10 (x ∷ xs) ≡ cond (eqb (slice_index (x ∷ xs) (length xs)) 10) (take (length xs) (x ∷ xs)) (x ∷ xs)
strip_at x xs =
    let some = lt-ltb 0 (suc (length xs)) (omega arith) in
    let last : suc (length xs) - 1 ≡ length xs = omega arith in
    ap (λ b. cond (b && eqb (slice_index (x ∷ xs) (suc (length xs) - 1)) 10) (take (suc (length xs) - 1) (x ∷ xs)) (x ∷ xs)) some
    ∙ ap (λ k. cond (eqb (slice_index (x ∷ xs) k) 10) (take k (x ∷ xs)) (x ∷ xs)) last

strip_more : (x : ℕ) (t : List ℕ) → 0 < length t → strip_last 10 (x ∷ t) ≡ x ∷ strip_last 10 t
strip_more x [] some = absurd (omega arith)
strip_more x (y ∷ ys) some =
    strip_at x (y ∷ ys) ∙ under (eqb (slice_index (y ∷ ys) (length ys)) 10) x (take (length ys) (y ∷ ys)) (y ∷ ys) ∙ ap (λ l. x ∷ l) (sym (strip_at y ys))

some_of : (b : Bool) (y : ℕ) (ys : List ℕ) → 0 < length (cond b (y ∷ []) (y ∷ ys))
some_of true y ys = omega arith
some_of false y ys = omega arith

-- the line of one byte more, where the byte is the only one that is left, or others are
cut_last : (x : ℕ) (b : Bool) → eqb x 10 ≡ b → cond b ([] ∷ []) ((x ∷ []) ∷ []) ≡ strip_last 10 (cond b (x ∷ []) (x ∷ [])) ∷ lines_of (cond b [] [])
cut_last x true e = ap (λ c. cond c [] (x ∷ []) ∷ []) (sym e)
cut_last x false e = ap (λ c. cond c [] (x ∷ []) ∷ []) (sym e)

cut_more : (x y : ℕ) (ys : List ℕ) → lines_of (y ∷ ys) ≡ first_piece 10 (y ∷ ys) ∷ lines_of (drop_through 10 (y ∷ ys)) → (b : Bool) → eqb x 10 ≡ b
    → cond b ([] ∷ lines_of (y ∷ ys)) (with_byte x (lines_of (y ∷ ys)))
    ≡ strip_last 10 (cond b (x ∷ []) (x ∷ take_through 10 (y ∷ ys))) ∷ lines_of (cond b (y ∷ ys) (drop_through 10 (y ∷ ys)))
cut_more x y ys cut true e = ap (λ c. cond c [] (x ∷ []) ∷ lines_of (y ∷ ys)) (sym e)
cut_more x y ys cut false e =
    ap (with_byte x) cut
    ∙ ap (λ line. line ∷ lines_of (drop_through 10 (y ∷ ys))) (sym (strip_more x (take_through 10 (y ∷ ys)) (some_of (eqb y 10) y (take_through 10 ys))))

-- The first line is all up to the first line break, and the other lines are those of what stands after it.
line_cut : (x : ℕ) (xs : List ℕ) → lines_of (x ∷ xs) ≡ first_piece 10 (x ∷ xs) ∷ lines_of (drop_through 10 (x ∷ xs))
line_cut x [] = cut_last x (eqb x 10) refl
line_cut x (y ∷ ys) = cut_more x y ys (line_cut y ys) (eqb x 10) refl

line_cut_at : (xs : List ℕ) → 0 < length xs → lines_of xs ≡ first_piece 10 xs ∷ lines_of (drop_through 10 xs)
line_cut_at [] some = absurd (omega arith)
line_cut_at (x ∷ xs) some = line_cut x xs

-- ---- what is left of a table

-- With outcomes of what is left, these are the outcomes of the table.
abbrev pub Left : Option (List ℕ) → Option (List ℕ) → List Outcome → Type 0
Left None known os = Unit {0}
Left (Some bytes) None os = ⊥
Left (Some bytes) (Some left) os = (later : List Outcome) → AreOutcomes (lines_of left) later → AreOutcomes (lines_of bytes) (os ++ later)

left_at_first : (table : Option (List ℕ)) → Left table table []
left_at_first None = tt
left_at_first (Some bytes) = λ later all. all

left_after : (table known new : Option (List ℕ)) (os : List Outcome) (line : List ℕ) (o : Outcome) → Left table known os
    → IfSome known (λ xs. (0 < length xs) × (line ≡ first_piece 10 xs)) → DropsThrough known new 10 → IsOutcome line o → Left table new (os ++ o ∷ [])
left_after None known new os line o so_far piece drops judged = tt
left_after (Some bytes) None new os line o so_far piece drops judged = absurd so_far
left_after (Some bytes) (Some left) None os line o so_far piece drops judged = cc
left_after (Some bytes) (Some left) (Some rest) os line o so_far piece drops judged = λ later all.
    let e : rest ≡ drop_through 10 left = cc in
    let cut = line_cut_at left piece.0 in
    let both : AreOutcomes (first_piece 10 left ∷ lines_of (drop_through 10 left)) (o ∷ later) = (subst (λ l. IsOutcome l o) piece.1 judged, subst (λ l. AreOutcomes (lines_of l) later) e all) in
    subst (AreOutcomes (lines_of bytes)) (sym (append_assoc os (o ∷ []) later)) (so_far (o ∷ later) (subst (λ ls. AreOutcomes ls (o ∷ later)) (sym cut) both))

left_at_end : (table known : Option (List ℕ)) (os : List Outcome) → Left table known os → IsAtEnd known → IfSome table (λ bytes. AreOutcomes (lines_of bytes) os)
left_at_end None known os so_far end = tt
left_at_end (Some bytes) None os so_far end = absurd so_far
left_at_end (Some bytes) (Some left) os so_far end =
    subst (AreOutcomes (lines_of bytes)) (append-nil os) (so_far [] (subst (λ l. AreOutcomes (lines_of l) []) (sym end) tt))

-- ---- the lines so far

all_told_more : (number : ℕ) (os : List Outcome) (o : Outcome) → all_told number (os ++ o ∷ []) ≡ all_told number os ++ told (number + length os) o
all_told_more number [] o =
    let n : number ≡ number + 0 = omega arith in
    append-nil (told number o) ∙ ap (λ k. told k o) n
all_told_more number (p ∷ os) o =
    let n : number + 1 + length os ≡ number + suc (length os) = omega arith in
    ap (λ l. told number p ++ l) (all_told_more (number + 1) os o ∙ ap (λ k. all_told (number + 1) os ++ told k o) n) ∙ sym (append_assoc (told number p) (all_told (number + 1) os) (told (number + suc (length os)) o))

-- The outcomes of the lines that are judged so far, of which so many passed and failed.
pub record Progress (table known before now : Option (List ℕ)) (passed failed : ℕ) : Type 0 where
  pub outcomes : List Outcome
  pub lines : Left table known outcomes
  pub written : Appends before now (all_told 1 outcomes)
  pub passing : passed ≡ count_by passes outcomes
  pub failing : failed ≡ count_by fails outcomes
  pub count : passed + failed ≡ length outcomes

appends_none : (before : Option (List ℕ)) → Appends before before []
appends_none None = tt
appends_none (Some xs) = sym (append-nil xs)

pub at_first : (table before : Option (List ℕ)) → Progress table table before before 0 0
at_first table before = record { outcomes = []; lines = left_at_first table; written = appends_none before; passing = refl; failing = refl; count = refl }

pub one_more : (b : Bool) → cond b 1 0 + cond (not b) 1 0 ≡ 1
one_more true = refl
one_more false = refl

pub one_passed : (o : Outcome) (p f p2 f2 : ℕ) → passes o ≡ true → p2 ≡ p + 1 → f2 ≡ f → (p2 ≡ p + cond (passes o) 1 0) × (f2 ≡ f + cond (fails o) 1 0)
one_passed o p f p2 f2 e more same =
    let none : f ≡ f + 0 = omega arith in
    (more ∙ ap (λ (b : Bool). p + cond b 1 0) (sym e), same ∙ none ∙ ap (λ (b : Bool). f + cond (not b) 1 0) (sym e))

pub one_failed : (o : Outcome) (p f p2 f2 : ℕ) → passes o ≡ false → p2 ≡ p → f2 ≡ f + 1 → (p2 ≡ p + cond (passes o) 1 0) × (f2 ≡ f + cond (fails o) 1 0)
one_failed o p f p2 f2 e same more =
    let none : p ≡ p + 0 = omega arith in
    (same ∙ none ∙ ap (λ (b : Bool). p + cond b 1 0) (sym e), more ∙ ap (λ (b : Bool). f + cond (not b) 1 0) (sym e))

-- one more line is judged
pub line_judged : (table known new before now then_ : Option (List ℕ)) (p f p2 f2 number : ℕ) (line : List ℕ) (o : Outcome) → Progress table known before now p f → number ≡ p + f + 1
    → IfSome known (λ xs. (0 < length xs) × (line ≡ first_piece 10 xs)) → DropsThrough known new 10 → IsOutcome line o → Appends now then_ (told number o)
    → p2 ≡ p + cond (passes o) 1 0 → f2 ≡ f + cond (fails o) 1 0 → Progress table new before then_ p2 f2
line_judged table known new before now then_ p f p2 f2 number line o so_far at piece drops judged more passed failed =
    let os = so_far.outcomes in
    let place : 1 + length os ≡ number = omega arith in
    let out : all_told 1 (os ++ o ∷ []) ≡ all_told 1 os ++ told number o = all_told_more 1 os o ∙ ap (λ k. all_told 1 os ++ told k o) place in
    let size = length-append os (o ∷ []) in
    let one = one_more (passes o) in
    let passed_all = sum_by-append (λ (q : Outcome). cond (passes q) 1 0) os (o ∷ []) in
    let failed_all = sum_by-append (λ (q : Outcome). cond (fails q) 1 0) os (o ∷ []) in
    record {
      outcomes = os ++ o ∷ [];
      lines = left_after table known new os line o so_far.lines piece drops judged;
      written = subst (Appends before then_) (sym out) (Appends-trans before now then_ (all_told 1 os) (told number o) so_far.written more);
      passing = omega (arith, passed_all, so_far.passing, passed);
      failing = omega (arith, failed_all, so_far.failing, failed);
      count = omega (arith, size, so_far.count, one);
    }

-- no line is left
pub all_judged : (table known before now last : Option (List ℕ)) (p f : ℕ) → Progress table known before now p f → IsAtEnd known → Appends now last (summary p f) → IsReported table before last f
all_judged table known before now last p f so_far end more =
    let os = so_far.outcomes in
    let sums : summary p f ≡ summary (count_by passes os) (count_by fails os) = ap (λ k. summary k f) so_far.passing ∙ ap (λ k. summary (count_by passes os) k) so_far.failing in
    (os, left_at_end table known os so_far.lines end, subst (Appends before last) (ap (λ l. all_told 1 os ++ l) sums) (Appends-trans before now last (all_told 1 os) (summary p f) so_far.written more), so_far.failing)
