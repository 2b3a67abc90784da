-- What is put beside members without floats has none.
use Rattle.std.proofs.Common.{◌≡◌, ℕ, Bool, true, false, ◌||◌, List, refl, ◌∙◌}
use Rattle.std.specs.Ordering.{nat_cmp, match_ordering}
use Rattle.std.specs.Cmp.Lexicographic.{slice_cmp}
use Rattle.std.specs.declared.cmp.Ordering.{Ordering}
use Rattle.std.specs.declared.cmp.Ordering.TheVariants.{Less, Equal, Greater}
use Rattle.serde_json.specs.Data.{Data, Members, no_members, member, put}
use Rattle.serde_json.specs.Written.{has_float, members_have_float}

pub neither : (a b : Bool) → a ≡ false → b ≡ false → a || b ≡ false
neither a b p q = (λ i. p i || b) ∙ q

first_of_two : (a b : Bool) → a || b ≡ false → a ≡ false
first_of_two true b h = h
first_of_two false b h = refl

second_of_two : (a b : Bool) → a || b ≡ false → b ≡ false
second_of_two true true h = h
second_of_two true false h = refl
second_of_two false b h = h

by_order : (o : Ordering) (a b c : Members) → members_have_float a ≡ false → members_have_float b ≡ false → members_have_float c ≡ false → members_have_float (match_ordering o a b c) ≡ false
by_order Less a b c p q r = p
by_order Equal a b c p q r = q
by_order Greater a b c p q r = r

-- a member without floats brings none
pub put_no_float : (k : List ℕ) (d : Data) (ms : Members) → has_float d ≡ false → members_have_float ms ≡ false → members_have_float (put k d ms) ≡ false
put_no_float k d no_members none all = neither (has_float d) false none refl
put_no_float k d (member l e ms) none all =
    let rest : members_have_float ms ≡ false = second_of_two (has_float e) (members_have_float ms) all in
    by_order (slice_cmp nat_cmp k l) (member k d (member l e ms)) (member l d ms) (member l e (put k d ms))
    (neither (has_float d) (has_float e || members_have_float ms) none all)
    (neither (has_float d) (members_have_float ms) none rest)
    (neither (has_float e) (members_have_float (put k d ms)) (first_of_two (has_float e) (members_have_float ms) all) (put_no_float k d ms none rest))
