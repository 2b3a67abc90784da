-- Lemmas on the texts of credentials.
use Rattle.std.proofs.Common.{◌≡◌, ℕ, ◌+◌, Bool, true, false, nat_eq, List, ◌∷◌, ◌++◌, append_assoc, length, take, drop, codes, Some, None, Ok, Err, Bor, refl, sym, ap, ◌∙◌}
use Rattle.std.specs.Prelude.{Option, option_map, if◌then◌else◌}
use Rattle.std.specs.Cmp.Lexicographic.{pointwise}
use Rattle.std.specs.List.{starts_with}
use Rattle.std.specs.Option.{MatchOption}
use Rattle.std.specs.Result.{result_ok}
use Rattle.std.proofs.Math.Seq.{drop-append-add}
use Rattle.std.proofs.lemmas.List.{append_cancel_left}
use Rattle.std.proofs.lemmas.Bool.Decides.{Decides-eqb}
use Rattle.std.proofs.lemmas.Slice.Eq.{starts_is, strip_prefix_is}
use Rattle.base64.specs.declared.decode.DecodeError.{DecodeError}
use Rattle.base64.specs.Engines.{standard}
use Rattle.base64.specs.GeneralPurpose.{decode_of, decoded_of}
use Rattle.kz_spec_data.specs.Credentials.{after_name}

-- what a call says that strips a front
abbrev pub Strips : Option (Bor (List ℕ)) → List ℕ → List ℕ → Type 0
Strips r front text = MatchOption r (pointwise nat_eq (take (length front) text) front ≡ false)
    (λ x. (pointwise nat_eq (take (length front) text) front ≡ true) × (x.now ≡ drop (length front) text) × (length x.now + length front ≡ length text))

-- a piece of that name
after_found : (name piece rest : List ℕ) → piece ≡ name ++ (61 ∷ rest) → after_name name piece ≡ Some rest
after_found name piece rest e =
    let starts : starts_with nat_eq piece (name ++ codes "=") ≡ true =
    (starts_is Decides-eqb piece (name ++ codes "=") (starts_with nat_eq piece (name ++ codes "=")) refl).1 rest (e ∙ sym (append_assoc name (codes "=") rest)) in
    (λ i. if starts i then Some (drop (length name + 1) piece) else None)
    ∙ ap (λ s. Some (drop (length name + 1) s)) e ∙ ap (λ s. Some s) (drop-append-add name (61 ∷ rest) 1)

-- another piece
after_other : (name piece : List ℕ) → ((rest : List ℕ) → piece ≡ name ++ (61 ∷ rest) → ⊥) → after_name name piece ≡ None
after_other name piece other = by (starts_with nat_eq piece (name ++ codes "=")) refl
  where
    by : (t : Bool) → starts_with nat_eq piece (name ++ codes "=") ≡ t → after_name name piece ≡ None
    by false t = λ i. if t i then Some (drop (length name + 1) piece) else None
    by true t = absurd (other (drop (length (name ++ codes "=")) piece) ((starts_is Decides-eqb piece (name ++ codes "=") true (sym t)).0 refl ∙ append_assoc name (codes "=") (drop (length (name ++ codes "=")) piece)))

-- no name
pub after_no_name : (name piece : List ℕ) → Strips None name piece → None ≡ after_name name piece
after_no_name name piece h = sym (after_other name piece (λ rest. strip_prefix_is Decides-eqb piece name None h (61 ∷ rest)))

-- a name, and perhaps `=`
pub after_a_name : (name piece equals : List ℕ) (x : Bor (List ℕ)) (r : Option (Bor (List ℕ))) → Strips (Some x) name piece → equals ≡ codes "=" → Strips r equals x.now → option_map (λ v. v.now) r ≡ after_name name piece
after_a_name name piece equals x None h q k =
    let is : piece ≡ name ++ x.now = strip_prefix_is Decides-eqb piece name (Some x) h in
    sym (after_other name piece (λ rest e. strip_prefix_is Decides-eqb x.now equals None k rest (append_cancel_left name x.now (61 ∷ rest) (sym is ∙ e) ∙ ap (λ s. s ++ rest) (sym q))))
after_a_name name piece equals x (Some y) h q k =
    let is : piece ≡ name ++ x.now = strip_prefix_is Decides-eqb piece name (Some x) h in
    let after : x.now ≡ 61 ∷ y.now = strip_prefix_is Decides-eqb x.now equals (Some y) k ∙ ap (λ s. s ++ y.now) q in
    sym (after_found name piece y.now (is ∙ ap (λ s. name ++ s) after))

-- what a text decodes to
pub decoded_is : (text bytes : List ℕ) → decode_of standard text ≡ Ok bytes → Some bytes ≡ decoded_of standard text
unfolding decoded_of
decoded_is text bytes e = ap result_ok (sym e)

pub decoded_none : (text : List ℕ) (e : DecodeError) → decode_of standard text ≡ Err e → None ≡ decoded_of standard text
unfolding decoded_of
decoded_none text e h = ap result_ok (sym h)
