-- Fields that are appended one after another.
use Rattle.std.proofs.Common.{◌≡◌, ℕ, zero, suc, ◌+◌, ◌*◌, ◌/◌, ◌%◌, ◌^◌, ◌<◌, ℤ, ltb, Bool, true, false, cond, List, [], ◌∷◌, ◌++◌, length, get_or, refl, sym, ap, ◌∙◌, append_assoc, arith}
use Rattle.std.proofs.lemmas.List.{length-append, append-nil}
use Rattle.std.specs.Prelude.{Some}
use Rattle.kz_spec_data.specs.Fields.{groups_of, int_bytes, items_with_count}
use Rattle.kz_spec_data.specs.Forms.{items_written, AllFit, Tag, tags_written}

pub seq : (old a mid b new : List ℕ) → mid ≡ old ++ a → new ≡ mid ++ b → new ≡ old ++ (a ++ b)
seq old a mid b new e f = f ∙ ap (λ (l : List ℕ). l ++ b) e ∙ append_assoc old a b

pub AllFit_at : {X : Type 0} (fits : X → Type 0) (xs : List X) (i : ℕ) (d : X) → AllFit fits xs → i < length xs → fits (get_or xs i d)
AllFit_at fits [] i d all lt = absurd (omega arith)
AllFit_at fits (x ∷ xs) zero d all lt = all.0
AllFit_at fits (x ∷ xs) (suc i) d all lt = AllFit_at fits xs i d all.1 (omega arith)

pub items_written_push : {X : Type 0} (written : X → List ℕ) (xs : List X) (x : X) → items_written written (xs ++ x ∷ []) ≡ items_written written xs ++ written x
items_written_push written [] x = append-nil (written x)
items_written_push written (y ∷ ys) x = ap (λ (l : List ℕ). written y ++ l) (items_written_push written ys x) ∙ sym (append_assoc (written y) (items_written written ys) (written x))

some_either : (b : Bool) (xs : List ℕ) (y : ℕ) (ys : List ℕ) → 0 < length xs → 0 < length (cond b xs (y ∷ ys))
some_either true xs y ys lt = lt
some_either false xs y ys lt = omega arith

groups_some : (more n : ℕ) → 0 < length (groups_of more n)
unfolding groups_of
groups_some zero n = omega arith
groups_some (suc more) n = some_either (ltb n 128) (n ∷ []) (128 + n % 128) (groups_of more (n / 128)) (omega arith)

pub text_short : (n : ℕ) (text : List ℕ) → length (groups_of 9 n ++ text) < 2 ^ 32 → length text + 1 < 2 ^ 32
text_short n text lt = let some = groups_some 9 n in let parts = length-append (groups_of 9 n) text in omega arith

int_bytes_length : (xs : List ℤ) → length (int_bytes xs) ≡ 4 * length xs
int_bytes_length [] = refl
int_bytes_length (x ∷ xs) = let h = int_bytes_length xs in omega arith

pub ints_length : (xs : List ℤ) → length ((items_with_count 4).written (Some (int_bytes xs))) ≡ length (groups_of 9 (length xs + 1)) + 4 * length xs
ints_length xs =
    let size = int_bytes_length xs in
    let count : length (int_bytes xs) / 4 + 1 ≡ length xs + 1 = omega arith in
    length-append (groups_of 9 (length (int_bytes xs) / 4 + 1)) (int_bytes xs) ∙ ap (λ (n : ℕ). length (groups_of 9 n) + length (int_bytes xs)) count ∙ ap (λ (n : ℕ). length (groups_of 9 (length xs + 1)) + n) size

pub ints_few : (xs : List ℤ) → length ((items_with_count 4).written (Some (int_bytes xs))) < 2 ^ 32 → (length xs + 1 < 2 ^ 32) × (4 * length xs < 2 ^ 32)
ints_few xs lt =
    let e = ints_length xs in
    let some = groups_some 9 (length xs + 1) in
    (omega arith, omega arith)

tags_append : (a b : List Tag) → tags_written (a ++ b) ≡ tags_written a ++ tags_written b
tags_append [] b = refl
tags_append (t ∷ ts) b =
    let number = groups_of 9 t.number in
    let size = groups_of 9 (length t.bytes) in
    ap (λ (l : List ℕ). number ++ (size ++ (t.bytes ++ l))) (tags_append ts b) ∙ simp append_assoc

pub tags_six : (a b c d e f : List Tag) → tags_written (a ++ (b ++ (c ++ (d ++ (e ++ f))))) ≡ tags_written a ++ (tags_written b ++ (tags_written c ++ (tags_written d ++ (tags_written e ++ tags_written f))))
tags_six a b c d e f = simp tags_append

pub no_tags_length : length (groups_of 9 0 ++ []) ≡ 1
unfolding groups_of
no_tags_length = refl

length_zero : length (groups_of 9 0) ≡ 1
unfolding groups_of
length_zero = refl

length_one : length (groups_of 9 1) ≡ 1
unfolding groups_of
length_one = refl

-- a section of one tag 0
pub one_tag_length : (w : List ℕ) → length (groups_of 9 1 ++ (groups_of 9 0 ++ (groups_of 9 (length w) ++ (w ++ [])))) ≡ 2 + (length (groups_of 9 (length w)) + length w)
one_tag_length w =
    let one = length_one in
    let all = length-append (groups_of 9 (length w)) (w ++ []) in
    let body = length-append w [] in
    let head = length-append (groups_of 9 0) (groups_of 9 (length w) ++ (w ++ [])) in
    let front = length-append (groups_of 9 1) (groups_of 9 0 ++ (groups_of 9 (length w) ++ (w ++ []))) in
    let zero_one = length_zero in
    omega (arith, one, all, body, head, front, zero_one)
