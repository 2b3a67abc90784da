-- A commit in the later records of a log is one of the whole log.
use Rattle.std.proofs.Common.{◌≡◌, ℤ, ◌≤ℤ◌, int_lt, Bool, true, false, not, ◌&&◌, ◌||◌, cond, List, [], ◌∷◌, ◌++◌, Option, Some, refl, sym, ap, ◌∙◌, subst, arith}
use Rattle.std.specs.Prelude.{◌<ℤ◌}
use Rattle.std.specs.List.{list_any, find}
use Rattle.std.proofs.lemmas.Int.{ints}
use Rattle.kz_types.specs.declared.log.Entry.{Entry}
use Rattle.kz_spec_data.specs.Settlement.{is_begin, is_end, closes, is_inside, is_closed_between, first_close, is_migration, is_at, ends_migration}
use Rattle.kz_laws_machine.proofs.LogBatches.{AllAfter, and_second, and_last, opens}
use Rattle.kz_laws_machine.proofs.Migration.{AllUpTo}
use Rattle.kz_laws_machine.proofs.Begun.{or_true}

not_after : (at from x : ℤ) → x ≤ℤ at → at <ℤ from → int_lt from x ≡ false
not_after at from x low less = grind (arith, ints)

-- ---- tests on lists

any_append : (f : Entry → Bool) (p q : List Entry) → list_any f (p ++ q) ≡ (list_any f p || list_any f q)
any_append f [] q = refl
any_append f (x ∷ p) q = ap (λ (b : Bool). f x || b) (any_append f p q) ∙ or_or (f x) (list_any f p) (list_any f q)
  where
    or_or : (a b c : Bool) → (a || (b || c)) ≡ ((a || b) || c)
    or_or true b c = refl
    or_or false b c = refl

any_of_later : (f : Entry → Bool) (p q : List Entry) → list_any f q ≡ true → list_any f (p ++ q) ≡ true
any_of_later f p q is = any_append f p q ∙ ap (λ (b : Bool). list_any f p || b) is ∙ or_true (list_any f p)

either_by : (b c x y : Bool) → (b ≡ true → c ≡ true) → (x ≡ true → y ≡ true) → (b || x) ≡ true → (c || y) ≡ true
either_by true c x y f g is = ap (λ (t : Bool). t || y) (f refl)
either_by false c x y f g is = ap (λ (t : Bool). c || t) (g is) ∙ or_true c

any_implies : (at : ℤ) (f g : Entry → Bool) (q : List Entry) → AllAfter at q → ((s : Entry) → at <ℤ s.offset → f s ≡ true → g s ≡ true) → list_any f q ≡ true → list_any g q ≡ true
any_implies at f g [] after implies is = is
any_implies at f g (x ∷ q) after implies is = either_by (f x) (g x) (list_any f q) (list_any g q) (implies x after.0) (any_implies at f g q after.1 implies) is

none_earlier : (at : ℤ) (f : Entry → Bool) (p q : List Entry) → AllUpTo at p → ((x : Entry) → x.offset ≤ℤ at → f x ≡ false) → list_any f (p ++ q) ≡ list_any f q
none_earlier at f [] q up_to none = refl
none_earlier at f (x ∷ p) q up_to none = ap (λ (b : Bool). b || list_any f (p ++ q)) (none x up_to.0) ∙ none_earlier at f p q up_to.1 none

none_found : (at : ℤ) (f : Entry → Bool) (p q : List Entry) → AllUpTo at p → ((x : Entry) → x.offset ≤ℤ at → f x ≡ false) → find f (p ++ q) ≡ find f q
none_found at f [] q up_to none = refl
none_found at f (x ∷ p) q up_to none = ap (λ (b : Bool). cond b (Some x) (find f (p ++ q))) (none x up_to.0) ∙ none_found at f p q up_to.1 none

-- ---- after the earlier records

between_is : (at from to : ℤ) (p q : List Entry) → AllUpTo at p → at <ℤ from → is_closed_between (p ++ q) from to ≡ is_closed_between q from to
between_is at from to p q up_to less = none_earlier at (λ (x : Entry). closes x.item && int_lt from x.offset && int_lt x.offset to) p q up_to
    (λ x low. and_second (closes x.item) (int_lt from x.offset) (int_lt x.offset to) (not_after at from x.offset low less))

inside_is : (at o : ℤ) (p q : List Entry) → AllUpTo at p → AllAfter at q → is_inside q o ≡ true → is_inside (p ++ q) o ≡ true
inside_is at o p q up_to after is =
    any_of_later (opens (p ++ q) o) p q
    (any_implies at (opens q o) (opens (p ++ q) o) q after (λ b later inside. ap (λ (t : Bool). is_begin b.item && int_lt b.offset o && not t) (between_is at b.offset o p q up_to later) ∙ inside) is)

close_is : (at o : ℤ) (p q : List Entry) → AllUpTo at p → at <ℤ o → first_close (p ++ q) o ≡ first_close q o
close_is at o p q up_to less = none_found at (λ (x : Entry). closes x.item && int_lt o x.offset) p q up_to (λ x low. and_last (closes x.item) (int_lt o x.offset) (not_after at o x.offset low less))

abbrev holds_state : List Entry → Entry → Entry → Bool
holds_state es e s = is_migration s.item && is_inside es s.offset && is_at e.offset (first_close es s.offset)

all_by : (a b c d : Bool) → (b ≡ true → d ≡ true) → (a && b && c) ≡ true → (a && d && c) ≡ true
all_by true true c d f is = ap (λ (t : Bool). t && c) (f refl) ∙ is
all_by true false c d f is = absurd (cc)
all_by false b c d f is = absurd (cc)

both_by : (a b c : Bool) → (b ≡ true → c ≡ true) → (a && b) ≡ true → (a && c) ≡ true
both_by true b c f is = f is
both_by false b c f is = absurd (cc)

pub ends_in_whole : (at : ℤ) (p q : List Entry) (e : Entry) → AllUpTo at p → AllAfter at q → ends_migration q e ≡ true → ends_migration (p ++ q) e ≡ true
ends_in_whole at p q e up_to after is =
    both_by (is_end e.item) (list_any (holds_state q e) q) (list_any (holds_state (p ++ q) e) (p ++ q))
    (λ some. any_of_later (holds_state (p ++ q) e) p q (any_implies at (holds_state q e) (holds_state (p ++ q) e) q after
    (λ s later holds.
    ap (λ (m : Option Entry). is_migration s.item && is_inside (p ++ q) s.offset && is_at e.offset m) (close_is at s.offset p q up_to later)
    ∙ all_by (is_migration s.item) (is_inside q s.offset) (is_at e.offset (first_close q s.offset)) (is_inside (p ++ q) s.offset) (inside_is at s.offset p q up_to after) holds) some)) is
