-- What putting a member does.
use Rattle.std.proofs.Common.{◌≡◌, ◌≢◌, ℕ, List, Option, Some, refl, sym, ap, subst, ◌∙◌, Ordering, Less, Equal, Greater}
use Rattle.std.specs.Prelude.{⊤}
use Rattle.std.specs.Ordering.{match_ordering}
use Rattle.serde_json.specs.Data.{Data, Members, no_members, member, put}
use Rattle.serde_json.specs.Find.{get_member}
use Rattle.kz_types.specs.Order.{bytes_cmp}
use Rattle.kz_types.proofs.Order.{bytes_order, Place, below, equal, above, place, cmp_equal, cmp_greater}
use Rattle.kz_laws_values.specs.Readable.{IsText}
use Rattle.kz_laws_values.proofs.Plain.{puts, IsPlain, ArePlainMembers}
use Rattle.kz_laws_values.proofs.Configs.{after, after_none, after_after, AreBelow, put_last, below_after}

-- one of three by the order of two names
pub by_order : (P : Members → Type 0) (k l : List ℕ) (a b c : Members) → (bytes_cmp k l ≡ Less → P a) → (k ≡ l → P b) → (bytes_cmp l k ≡ Less → P c) → P (match_ordering (bytes_cmp k l) a b c)
by_order P k l a b c first second third = by (place bytes_order k l)
  where
    by : Place bytes_cmp k l → P (match_ordering (bytes_cmp k l) a b c)
    by (below e) = subst (λ r. P (match_ordering r a b c)) (sym e) (first e)
    by (equal e) = subst (λ r. P (match_ordering r a b c)) (sym (cmp_equal bytes_order k l e)) (second e)
    by (above e) = subst (λ r. P (match_ordering r a b c)) (sym (cmp_greater bytes_order k l e)) (third e)

-- ---- plain members

pub put_plain : (n : ℕ) (k : List ℕ) (d : Data) (ms : Members) → IsText k → IsPlain n d → ArePlainMembers n ms → ArePlainMembers n (put k d ms)
put_plain n k d no_members text plain all = (text, plain, tt)
put_plain n k d (member l e ms) text plain all =
    by_order (ArePlainMembers n) k l (member k d (member l e ms)) (member l d ms) (member l e (put k d ms))
    (λ less. (text, plain, all)) (λ same. (all.0, plain, all.2)) (λ more. (all.0, all.1, put_plain n k d ms text plain all.2))

-- ---- rising members

-- the name is below each name of the members
abbrev pub IsUnder : List ℕ → Members → Type 0
IsUnder k no_members = ⊤
IsUnder k (member l e ms) = (bytes_cmp k l ≡ Less) × IsUnder k ms

abbrev pub Rise : Members → Type 0
Rise no_members = ⊤
Rise (member k d ms) = IsUnder k ms × Rise ms

under_put : (j k : List ℕ) (d : Data) (ms : Members) → bytes_cmp j k ≡ Less → IsUnder j ms → IsUnder j (put k d ms)
under_put j k d no_members less all = (less, tt)
under_put j k d (member l e ms) less all =
    by_order (IsUnder j) k l (member k d (member l e ms)) (member l d ms) (member l e (put k d ms))
    (λ first. (less, all)) (λ same. all) (λ more. (all.0, under_put j k d ms less all.1))

under_less : (j k : List ℕ) (ms : Members) → bytes_cmp j k ≡ Less → IsUnder k ms → IsUnder j ms
under_less j k no_members less all = tt
under_less j k (member l e ms) less all = (bytes_order.chain j k l less all.0, under_less j k ms less all.1)

pub put_rises : (k : List ℕ) (d : Data) (ms : Members) → Rise ms → Rise (put k d ms)
put_rises k d no_members r = (tt, tt)
put_rises k d (member l e ms) r =
    by_order Rise k l (member k d (member l e ms)) (member l d ms) (member l e (put k d ms))
    (λ less. ((less, under_less k l ms less r.0), r)) (λ same. r) (λ more. (under_put l k d ms more r.0, put_rises k d ms r.1))

-- each name of the first is below each name of the second
abbrev AreUnder : Members → Members → Type 0
AreUnder found no_members = ⊤
AreUnder found (member k d ms) = AreBelow found k × AreUnder found ms

under_after : (found : Members) (k : List ℕ) (d : Data) (ms : Members) → AreUnder found ms → IsUnder k ms → AreUnder (after found (member k d no_members)) ms
under_after found k d no_members h less = tt
under_after found k d (member l e ms) h less = (below_after found k d l h.0 less.0, under_after found k d ms h.1 less.1)

puts_after : (found ms : Members) → AreUnder found ms → Rise ms → puts ms found ≡ after found ms
puts_after found no_members h r = sym (after_none found)
puts_after found (member k d ms) h r =
    ap (puts ms) (put_last k d found h.0)
    ∙ puts_after (after found (member k d no_members)) ms (under_after found k d ms h.1 r.0) r.1
    ∙ after_after found (member k d no_members) ms

none_under : (ms : Members) → AreUnder no_members ms
none_under no_members = tt
none_under (member k d ms) = (tt, none_under ms)

-- rising members are put as they are
pub puts_same : (ms : Members) → Rise ms → puts ms no_members ≡ ms
puts_same ms r = puts_after no_members ms (none_under ms) r

-- ---- what is at a name

get_here : (k : List ℕ) (d : Data) (ms : Members) → get_member k (member k d ms) ≡ Some d
get_here k d ms = ap (λ r. match_ordering r (get_member k ms) (Some d) (get_member k ms)) (bytes_order.itself k)

other_by : (r : Ordering) (a b : Option Data) → r ≢ Equal → match_ordering r a b a ≡ a
other_by Less a b ne = refl
other_by Equal a b ne = absurd (ne refl)
other_by Greater a b ne = refl

-- another name is passed over
pub get_past : (k l : List ℕ) (d : Data) (ms : Members) → k ≢ l → get_member k (member l d ms) ≡ get_member k ms
get_past k l d ms ne = other_by (bytes_cmp k l) (get_member k ms) (Some d) (λ e. ne (bytes_order.same k l e))

pub get_put : (k : List ℕ) (d : Data) (ms : Members) → get_member k (put k d ms) ≡ Some d
get_put k d no_members = get_here k d no_members
get_put k d (member l e ms) =
    by_order (λ m. get_member k m ≡ Some d) k l (member k d (member l e ms)) (member l d ms) (member l e (put k d ms))
    (λ less. get_here k d (member l e ms))
    (λ same. subst (λ n. get_member k (member n d ms) ≡ Some d) same (get_here k d ms))
    (λ more. get_past k l e (put k d ms) (λ same. not_less k l more same) ∙ get_put k d ms)
  where
    not_less : (a b : List ℕ) → bytes_cmp b a ≡ Less → a ≢ b
    not_less a b less e = let tied = cmp_equal bytes_order b a (sym e) in cc

same_past : (k l : List ℕ) (d : Data) (one other : Members) → get_member k one ≡ get_member k other → get_member k (member l d one) ≡ get_member k (member l d other)
same_past k l d one other same i = match_ordering (bytes_cmp k l) (same i) (Some d) (same i)

pub get_put_other : (k l : List ℕ) (d : Data) (ms : Members) → k ≢ l → get_member k (put l d ms) ≡ get_member k ms
get_put_other k l d no_members ne = get_past k l d no_members ne
get_put_other k l d (member m e ms) ne =
    by_order (λ x. get_member k x ≡ get_member k (member m e ms)) l m (member l d (member m e ms)) (member m d ms) (member m e (put l d ms))
    (λ less. get_past k l d (member m e ms) ne)
    (λ same. get_past k m d ms (λ is. ne (is ∙ sym same)) ∙ sym (get_past k m e ms (λ is. ne (is ∙ sym same))))
    (λ more. same_past k m e (put l d ms) ms (get_put_other k l d ms ne))
