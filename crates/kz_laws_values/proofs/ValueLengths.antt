-- The values of a batch that is read of bytes are bytes, and each has fewer than 2^31 of them.
use Rattle.std.proofs.Common.{◌≡◌, ℕ, ◌<◌, Bool, true, false, List, [], ◌∷◌, map, take, drop, Ok, sym, subst, All, arith}
use Rattle.std.proofs.lemmas.List.Elements.{All-nil, All-cons}
use Rattle.std.proofs.lemmas.List.{take-append-drop}
use Rattle.kz_spec_data.specs.Forms.{Each}
use Rattle.kz_spec_data.specs.Batches.{Content, value_of, content, entry, BatchContents, IsContent, batch_of}
use Rattle.kz_laws_values.specs.Texts.{AreBytes}
use Rattle.kz_laws_values.proofs.Exact.{AreSmall, small_from_bytes, small_front, small_rest}
use Rattle.kz_laws_values.proofs.Batches.{read_is_batch}
use Rattle.kz_laws_values.specs.Lengths.{IsShortValue}

bytes_from_small : (text : List ℕ) → AreSmall text → AreBytes text
bytes_from_small [] s = All-nil (λ b. b < 256)
bytes_from_small (b ∷ bs) s = All-cons (λ n. n < 256) b bs s.0 (bytes_from_small bs s.1)

content_short : (c : Content) (body : List ℕ) → AreSmall body → content.spells c body → IsShortValue (value_of c)
content_short c body small s =
    let one = small_rest s.0 s.1 (subst AreSmall s.2 small) in
    let t = s.4 in
    let two = small_rest t.0 t.1 (subst AreSmall t.2 one) in
    let u = t.4 in
    let three = small_rest u.0 u.1 (subst AreSmall u.2 two) in
    let v = u.4 in
    let four = small_rest v.0 v.1 (subst AreSmall v.2 three) in
    let w = v.4 in
    let five = small_front w.0 w.1 (subst AreSmall w.2 four) in
    let value = w.3 in
    let few = value.2.2 in
    record {
      bytes = bytes_from_small (value_of c) (small_rest value.0 (value_of c) (subst AreSmall value.1 five));
      size = omega (arith, few);
    }

entries_short : (cs : List Content) (bytes : List ℕ) → AreSmall bytes → Each entry.spells cs bytes → All IsShortValue (map value_of cs)
entries_short [] bytes small s = All-nil IsShortValue
entries_short (c ∷ cs) bytes small s =
    let all = subst AreSmall s.2 small in
    let e = s.3 in
    let first = subst AreSmall e.2 (small_front s.0 s.1 all) in
    All-cons IsShortValue (value_of c) (map value_of cs) (content_short c e.1 (small_rest e.0 e.1 first) e.4) (entries_short cs s.1 (small_rest s.0 s.1 all) s.4)

values_short : (control : Bool) (bytes : List ℕ) (values : List (List ℕ)) → AreSmall (drop 61 bytes) → IsContent control bytes values → All IsShortValue values
values_short true bytes values small s = subst (All IsShortValue) (sym s.1) (All-nil IsShortValue)
values_short false bytes values small s = subst (All IsShortValue) (sym s.2) (entries_short s.0 (drop 61 bytes) small s.1.spelled)

pub batch_values_short : (bytes : List ℕ) (batch : BatchContents) → AreBytes bytes → batch_of bytes ≡ Ok batch → All IsShortValue batch.values
batch_values_short bytes batch are h =
    let small = small_from_bytes bytes are in
    let tail = small_rest (take 61 bytes) (drop 61 bytes) (subst AreSmall (sym (take-append-drop 61 bytes)) small) in
    values_short batch.control bytes batch.values tail (read_is_batch bytes batch small h).content
