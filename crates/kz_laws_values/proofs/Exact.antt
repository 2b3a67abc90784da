-- Formats whose reading is their spelling: what spells a value is read as it, and what is read spells its value.
use Rattle.std.proofs.Common.{◌≡◌, ℕ, ◌+◌, ◌<◌, List, [], ◌∷◌, ◌++◌, length, Result, Ok, Err, refl, sym, ap, ◌∙◌, subst, append_assoc, length-append, add_assoc}
use Rattle.std.specs.Prelude.{⊤}
use Rattle.kz_spec_data.specs.Fields.{Reading, Format, ◌>>=◌, format_through}
use Rattle.kz_spec_data.specs.Forms.{◌⊗◌}
use Rattle.std.proofs.lemmas.List.Elements.{All-head, All-tail}
use Rattle.kz_laws_values.specs.Texts.{AreBytes}

-- ---- bytes

-- bytes, each below 256
abbrev pub AreSmall : List ℕ → Type 0
AreSmall [] = ⊤
AreSmall (b ∷ bs) = (b < 256) × AreSmall bs

pub small_from_bytes : (text : List ℕ) → AreBytes text → AreSmall text
small_from_bytes [] h = tt
small_from_bytes (b ∷ bs) h = (All-head (λ n. n < 256) b bs h, small_from_bytes bs (All-tail (λ n. n < 256) b bs h))

pub small_front : (xs ys : List ℕ) → AreSmall (xs ++ ys) → AreSmall xs
small_front [] ys s = tt
small_front (x ∷ xs) ys s = (s.0, small_front xs ys s.1)

pub small_rest : (xs ys : List ℕ) → AreSmall (xs ++ ys) → AreSmall ys
small_rest [] ys s = s
small_rest (x ∷ xs) ys s = small_rest xs ys s.1

-- ---- what follows a value

-- what was read before something followed
pub record Came {A B E : Type 0} (m : Result A E) (k : A → Result B E) (y : B) : Type 0 where
  pub value : A
  pub first : m ≡ Ok value
  pub second : k value ≡ Ok y

pub came : {A B E : Type 0} (m : Result A E) (k : A → Result B E) (y : B) → m >>= k ≡ Ok y → Came m k y
came (Ok x) k y h = record { value = x; first = refl; second = h }
came (Err e) k y h = absurd (cc)

pub follows : {A B E : Type 0} (m : Result A E) (k : A → Result B E) (x : A) (y : B) → m ≡ Ok x → k x ≡ Ok y → m >>= k ≡ Ok y
follows m k x y e h = ap (λ n. n >>= k) e ∙ h

pub ok_same : {A E : Type 0} (x y : A) → ◌≡◌ {A = Result A E} (Ok x) (Ok y) → x ≡ y
ok_same x y h = cc

pub result_same : {A E : Type 0} (m : Result A E) (x y : A) → m ≡ Ok x → m ≡ Ok y → x ≡ y
result_same m x y e h = cc

-- ---- exact formats

-- This reading takes these bytes as this value, whatever follows.
abbrev pub Takes : {E X : Type 0} → (Reading → Result (X × Reading) E) → X → List ℕ → List ℕ → ℕ → Type 0
Takes read x bytes rest at = read (record { at = at; left = bytes ++ rest }) ≡ Ok (x, record { at = at + length bytes; left = rest })

-- The bytes in front of the rest spell the value.
pub record Comes {E X : Type 0} (f : Format E X) (x : X) (left rest : List ℕ) : Type 0 where
  pub bytes : List ℕ
  pub split : left ≡ bytes ++ rest
  pub spelled : f.spells x bytes

pub record Exact {E X : Type 0} (f : Format E X) : Type 0 where
  pub taken : (x : X) (bytes rest : List ℕ) (at : ℕ) → f.spells x bytes → Takes f.read x bytes rest at
  pub given : (x : X) (r next : Reading) → AreSmall r.left → f.read r ≡ Ok (x, next) → Comes f x r.left next.left

pub small_after : {E X : Type 0} (f : Format E X) (x : X) (left rest : List ℕ) → Comes f x left rest → AreSmall left → AreSmall rest
small_after f x left rest c s = small_rest c.bytes rest (subst AreSmall c.split s)

-- two readings, one after the other
pub taken_then : {E X Y : Type 0} (m : Reading → Result (X × Reading) E) (k : X × Reading → Result (Y × Reading) E) (x : X) (y : Y) (a b rest : List ℕ) (at : ℕ)
    → Takes m x a (b ++ rest) at
    → k (x, record { at = at + length a; left = b ++ rest }) ≡ Ok (y, record { at = (at + length a) + length b; left = rest })
    → m (record { at = at; left = (a ++ b) ++ rest }) >>= k ≡ Ok (y, record { at = at + length (a ++ b); left = rest })
taken_then m k x y a b rest at h g =
    ap (λ bytes. m (record { at = at; left = bytes }) >>= k) (append_assoc a b rest)
    ∙ ap (λ n. n >>= k) h
    ∙ g
    ∙ ap (λ n. Ok (y, record { at = n; left = rest })) (add_assoc at (length a) (length b) ∙ ap (λ n. at + n) (sym (length-append a b)))

-- ---- one after another

pair_taken : {E X Y : Type 0} (f : Format E X) (g : Format E Y) → Exact f → Exact g
    → (p : X × Y) (bytes rest : List ℕ) (at : ℕ) → (f ⊗ g).spells p bytes → Takes (f ⊗ g).read p bytes rest at
pair_taken f g ef eg p bytes rest at s =
    subst (λ b. Takes (f ⊗ g).read p b rest at) (sym s.2)
    (taken_then f.read (λ x. g.read x.1 >>= λ y. Ok ((x.0, y.0), y.1)) p.0 p s.0 s.1 rest at
    (ef.taken p.0 s.0 (s.1 ++ rest) at s.3)
    (ap (λ n. n >>= λ y. Ok ((p.0, y.0), y.1)) (eg.taken p.1 s.1 rest (at + length s.0) s.4)))

pair_given : {E X Y : Type 0} (f : Format E X) (g : Format E Y) → Exact f → Exact g
    → (p : X × Y) (r next : Reading) → AreSmall r.left → (f ⊗ g).read r ≡ Ok (p, next) → Comes (f ⊗ g) p r.left next.left
pair_given f g ef eg p r next small h =
    let c = came (f.read r) (λ x. g.read x.1 >>= λ y. Ok ((x.0, y.0), y.1)) (p, next) h in
    let d = came (g.read c.value.1) (λ y. Ok ((c.value.0, y.0), y.1)) (p, next) c.second in
    let one = ef.given c.value.0 r c.value.1 small c.first in
    let two = eg.given d.value.0 c.value.1 d.value.1 (small_after f c.value.0 r.left c.value.1.left one small) d.first in
    subst (λ q. Comes (f ⊗ g) q.0 r.left q.1.left) (ok_same ((c.value.0, d.value.0), d.value.1) (p, next) d.second)
    (record {
      bytes = one.bytes ++ two.bytes;
      split = one.split ∙ ap (λ b. one.bytes ++ b) two.split ∙ sym (append_assoc one.bytes two.bytes d.value.1.left);
      spelled = (one.bytes, two.bytes, refl, one.spelled, two.spelled);
    })

pub pair_exact : {E X Y : Type 0} (f : Format E X) (g : Format E Y) → Exact f → Exact g → Exact (f ⊗ g)
pair_exact f g ef eg = record { taken = pair_taken f g ef eg; given = pair_given f g ef eg }

-- ---- a value that another one stands for

pub record Turns {X Y : Type 0} (made : X → Y) (back : Y → X) : Type 0 where
  pub there : (x : X) → back (made x) ≡ x
  pub again : (y : Y) → made (back y) ≡ y

mapped_taken : {E X Y : Type 0} (made : X → Y) (back : Y → X) (f : Format E X) → Turns made back → Exact f
    → (y : Y) (bytes rest : List ℕ) (at : ℕ) → (format_through made back f).spells y bytes → Takes (format_through made back f).read y bytes rest at
mapped_taken made back f t ef y bytes rest at s =
    ap (λ n. n >>= λ x. Ok (made x.0, x.1)) (ef.taken (back y) bytes rest at s)
    ∙ ap (λ z. Ok (z, record { at = at + length bytes; left = rest })) (t.again y)

mapped_given : {E X Y : Type 0} (made : X → Y) (back : Y → X) (f : Format E X) → Turns made back → Exact f
    → (y : Y) (r next : Reading) → AreSmall r.left → (format_through made back f).read r ≡ Ok (y, next) → Comes (format_through made back f) y r.left next.left
mapped_given made back f t ef y r next small h =
    let c = came (f.read r) (λ x. Ok (made x.0, x.1)) (y, next) h in
    let one = ef.given c.value.0 r c.value.1 small c.first in
    subst (λ q. Comes (format_through made back f) q.0 r.left q.1.left) (ok_same (made c.value.0, c.value.1) (y, next) c.second)
    (record { bytes = one.bytes; split = one.split; spelled = subst (λ x. f.spells x one.bytes) (sym (t.there c.value.0)) one.spelled })

pub mapped_exact : {E X Y : Type 0} (made : X → Y) (back : Y → X) (f : Format E X) → Turns made back → Exact f → Exact (format_through made back f)
mapped_exact made back f t ef = record { taken = mapped_taken made back f t ef; given = mapped_given made back f t ef }
