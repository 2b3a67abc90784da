-- Lists of items.
use Rattle.std.proofs.Common.{◌≡◌, ℕ, zero, suc, ◌+◌, ◌-◌, ◌==◌, List, [], ◌∷◌, ◌++◌, length, Ok, refl, sym, ap, ◌∙◌, subst, append_assoc, arith, add-zero, ne_eqb}
use borrow.Author.Tests.{eqb-false}
use Rattle.kz_types.specs.declared.record.CodecFault.{CodecFault}
use Rattle.kz_types.specs.declared.record.CodecFault.TheVariants.{BadField}
use Rattle.kz_spec_data.specs.Fields.{Reading, Format, ◌>>=◌, uvarint}
use Rattle.kz_spec_data.specs.Forms.{with_field_fault, Each, items_at, counted_items, list_of}
use Rattle.kz_laws_values.proofs.Exact.{AreSmall, came, ok_same, Takes, taken_then, Comes, Exact, small_after}
use Rattle.kz_laws_values.proofs.Basics.{passed_false, cond_false, lifted_same}
use Rattle.kz_laws_values.proofs.Counted.{uvarint_exact}

items_none : {E X : Type 0} (f : Format E X) (rest : List ℕ) (at : ℕ) → Takes (items_at f.read 0) [] [] rest at
unfolding items_at
items_none f rest at = ap (λ n. Ok ([], record { at = n; left = rest })) (sym (add-zero at))

pub items_takes : {E X : Type 0} (f : Format E X) → Exact f → (xs : List X) (body rest : List ℕ) (at : ℕ) → Each f.spells xs body → Takes (items_at f.read (length xs)) xs body rest at
unfolding items_at
items_takes f ef [] body rest at s = subst (λ b. Takes (items_at f.read 0) [] b rest at) (sym s) (items_none f rest at)
items_takes f ef (x ∷ xs) body rest at s =
    subst (λ b. Takes (items_at f.read (suc (length xs))) (x ∷ xs) b rest at) (sym s.2)
    (taken_then f.read (λ y. items_at f.read (length xs) y.1 >>= λ ys. Ok (y.0 ∷ ys.0, ys.1)) x (x ∷ xs) s.0 s.1 rest at
    (ef.taken x s.0 (s.1 ++ rest) at s.3)
    (ap (λ m. m >>= λ ys. Ok (x ∷ ys.0, ys.1)) (items_takes f ef xs s.1 rest (at + length s.0) s.4)))

-- items that were read
pub record Items {E X : Type 0} (f : Format E X) (n : ℕ) (xs : List X) (left rest : List ℕ) : Type 0 where
  pub bytes : List ℕ
  pub split : left ≡ bytes ++ rest
  pub each : Each f.spells xs bytes
  pub count : length xs ≡ n

pub items_given : {E X : Type 0} (f : Format E X) → Exact f → (n : ℕ) (xs : List X) (r next : Reading) → AreSmall r.left → items_at f.read n r ≡ Ok (xs, next) → Items f n xs r.left next.left
unfolding items_at
items_given f ef zero xs r next small h =
    subst (λ q. Items f 0 q.0 r.left q.1.left) (ok_same ([], r) (xs, next) h) (record { bytes = []; split = refl; each = refl; count = refl })
items_given f ef (suc n) xs r next small h =
    let c = came (f.read r) (λ y. items_at f.read n y.1 >>= λ ys. Ok (y.0 ∷ ys.0, ys.1)) (xs, next) h in
    let d = came (items_at f.read n c.value.1) (λ ys. Ok (c.value.0 ∷ ys.0, ys.1)) (xs, next) c.second in
    let one = ef.given c.value.0 r c.value.1 small c.first in
    let more = items_given f ef n d.value.0 c.value.1 d.value.1 (small_after f c.value.0 r.left c.value.1.left one small) d.first in
    subst (λ q. Items f (suc n) q.0 r.left q.1.left) (ok_same (c.value.0 ∷ d.value.0, d.value.1) (xs, next) d.second)
    (record {
      bytes = one.bytes ++ more.bytes;
      split = one.split ∙ ap (λ b. one.bytes ++ b) more.split ∙ sym (append_assoc one.bytes more.bytes d.value.1.left);
      each = (one.bytes, more.bytes, refl, one.spelled, more.each);
      count = ap suc more.count;
    })

list_taken : {X : Type 0} (f : Format CodecFault X) → Exact f → (xs : List X) (bytes rest : List ℕ) (at : ℕ) → (list_of f).spells xs bytes → Takes (list_of f).read xs bytes rest at
list_taken f ef xs bytes rest at s =
    let count : (length xs + 1) - 1 ≡ length xs = omega arith in
    subst (λ b. Takes (list_of f).read xs b rest at) (sym s.2)
    (taken_then (λ r. with_field_fault (uvarint.read r)) (counted_items f.read at) (length xs + 1) xs s.0 s.1 rest at
    (ap with_field_fault (uvarint_exact.taken (length xs + 1) s.0 (s.1 ++ rest) at s.3))
    (cond_false (length xs + 1 == 0) _ _ (ne_eqb (length xs + 1) 0 (λ e. omega arith))
    ∙ ap (λ n. items_at f.read n (record { at = at + length s.0; left = s.1 ++ rest })) count
    ∙ items_takes f ef xs s.1 rest (at + length s.0) s.4))

list_given : {X : Type 0} (f : Format CodecFault X) → Exact f → (xs : List X) (r next : Reading) → AreSmall r.left → (list_of f).read r ≡ Ok (xs, next) → Comes (list_of f) xs r.left next.left
list_given f ef xs r next small h =
    let c = came (with_field_fault (uvarint.read r)) (counted_items f.read r.at) (xs, next) h in
    let one = uvarint_exact.given c.value.0 r c.value.1 small (lifted_same (uvarint.read r) c.value c.first) in
    let d = passed_false (c.value.0 == 0) (BadField r.at) (items_at f.read (c.value.0 - 1) c.value.1) (xs, next) c.second in
    let more = items_given f ef (c.value.0 - 1) xs c.value.1 next (small_after uvarint c.value.0 r.left c.value.1.left one small) d.1 in
    let count : c.value.0 ≡ length xs + 1 = omega (arith, more.count, eqb-false c.value.0 0 d.0) in
    record {
      bytes = one.bytes ++ more.bytes;
      split = one.split ∙ ap (λ b. one.bytes ++ b) more.split ∙ sym (append_assoc one.bytes more.bytes next.left);
      spelled = (one.bytes, more.bytes, refl, subst (λ n. uvarint.spells n one.bytes) count one.spelled, more.each);
    }

pub list_exact : {X : Type 0} (f : Format CodecFault X) → Exact f → Exact (list_of f)
list_exact f ef = record { taken = list_taken f ef; given = list_given f ef }
