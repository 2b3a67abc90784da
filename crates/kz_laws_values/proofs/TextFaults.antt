-- Faults of a text stand at the first byte at which no text goes on.
use Rattle.std.proofs.Common.{◌≡◌, ℕ, zero, suc, ◌+◌, ◌-◌, ◌*◌, Bool, true, false, cond, ◌⊎◌, inl, inr, List, [], ◌∷◌, ◌++◌, length, take, drop, get_or, Option, Some, None, Result, Ok, Err, IsUtf8, refl, sym, ap, ◌∙◌, subst, append_assoc, length-append, length-take-le, take_at, take-append-drop, arith}
use Rattle.std.specs.Str.{is_utf8}
use Rattle.std.proofs.lemmas.List.{take_more, drop_more}
use Rattle.kz_types.specs.declared.record.ByteFault.{ByteFault}
use Rattle.kz_types.specs.declared.record.ByteFault.TheVariants.{Short, Overlong, NotUtf8}
use Rattle.kz_spec_data.specs.Fields.{Reading, ◌>>=◌, uvarint, nullable_bytes, nullable_text, text_or_fault, text_fault}
use Rattle.kz_laws_values.specs.Texts.{AreBytes}
use Rattle.kz_laws_values.specs.FieldLaws.{AreBetween}
use Rattle.kz_laws_values.specs.FaultLaws.{GoesOn, IsFirstBad, IsFirstTextFault}
use Rattle.kz_laws_values.proofs.Exact.{result_same}
use Rattle.kz_laws_values.proofs.Counted.{uvarint_exact, counted_exact, counted_rest, text_exact}
use Rattle.kz_laws_values.proofs.FieldLaws.{between, alone}
use Rattle.kz_laws_values.proofs.Faults.{err_same, failed, made_fails, zeros, length-zeros, first_bad, Ends, cut_goes, counted_goes, CountedFails, at_count, at_items, counted_fails}
use Rattle.kz_laws_values.proofs.Utf8Faults.{zeros_are_text, Stop, text_stop}

-- what begins a count begins a text too
text_goes : (bytes : List ℕ) (n : ℕ) (more : List ℕ) → uvarint.spells n (bytes ++ more) → GoesOn nullable_text bytes
text_goes bytes zero more s = (None, more, (tt, s))
text_goes bytes (suc n) more s =
    let count : suc n ≡ n + 1 = omega arith in
    let size : length (zeros n) ≡ 1 * n = omega (arith, length-zeros n) in
    (Some (zeros n), more ++ zeros n, (zeros_are_text n, (n, bytes ++ more, size, subst (λ k. uvarint.spells k (bytes ++ more)) count s, sym (append_assoc bytes more (zeros n)))))

head_first : (r : Reading) (fault : ByteFault) → Ends 4 16 r.at r.left fault → IsFirstTextFault r fault
head_first r (Short place) c = let g = cut_goes r.left c.1 in (c.0, counted_goes 1 r.left g.0 g.1 g.2)
head_first r (Overlong place) c = let g = cut_goes c.before c.cut in first_bad nullable_text text_exact r place (Overlong place) (record {
  before = c.before;
  byte = c.byte;
  after = c.after;
  left = c.split;
  at = c.stands;
  some = text_goes c.before g.0 g.1 g.2;
  same = λ rest. ap (λ m. (m >>= counted_rest 1) >>= λ x. text_or_fault x.1.at x.0 >>= λ text. Ok (text, x.1)) (c.same rest);
})
head_first r (NotUtf8 place) c = absurd c

taking_fails : (r : Reading) (fault : ByteFault) → CountedFails 1 r fault → IsFirstTextFault r fault
taking_fails r fault (at_count c) = head_first r fault c
taking_fails r fault (at_items e g) = subst (IsFirstTextFault r) (sym e) (refl, g)

-- ---- a text that was taken

-- a text's count and bytes, where the text is no UTF-8
module _ (head text : List ℕ) (count : ℕ) (size : length text ≡ 1 * count) (spelled : uvarint.spells (count + 1) head) (stop : Stop text (text_fault text)) where
  abbrev place : ℕ
  place = text_fault text

  abbrev front : List ℕ
  front = head ++ take place text

  abbrev byte : ℕ
  byte = get_or text place 0

  goes : GoesOn nullable_text front
  goes =
      let whole : front ++ drop place stop.other ≡ head ++ stop.other =
      append_assoc head (take place text) (drop place stop.other) ∙ ap (λ l. head ++ (l ++ drop place stop.other)) (sym stop.same) ∙ ap (λ l. head ++ l) (take-append-drop place stop.other) in
      (Some stop.other, drop place stop.other, (stop.text, (count, head, stop.size ∙ size, spelled, whole)))

  -- other items that begin so
  no_items : (others more : List ℕ) → others ≡ take place text ++ (byte ∷ more) → length others ≡ length text → IsUtf8 others → ⊥
  no_items others more e l u =
      let long : length (take place text) ≡ place = length-take-le place text (omega (arith, stop.within)) in
      let split : take place text ++ (byte ∷ more) ≡ (take place text ++ (byte ∷ [])) ++ more = sym (append_assoc (take place text) (byte ∷ []) more) in
      let next : length (take place text ++ (byte ∷ [])) ≡ place + 1 = omega (arith, long, length-append (take place text) (byte ∷ [])) in
      stop.none others u l
      (ap (take (place + 1)) (e ∙ split) ∙ take_at (take place text ++ (byte ∷ [])) more (place + 1) next ∙ sym (take_more text place 0 stop.within))

  no_spelling : (value : Option (List ℕ)) (more : List ℕ) → nullable_text.spells value (head ++ (take place text ++ (byte ∷ more))) → ⊥
  no_spelling None more s =
      let same : count + 1 ≡ 0 = (alone uvarint uvarint_exact (count + 1) 0 head (take place text ++ (byte ∷ more)) spelled s.1).0 in
      omega (arith, same)
  no_spelling (Some others) more s =
      let rest : List ℕ = take place text ++ (byte ∷ more) in
      let other : List ℕ = s.1.1 in
      let one = uvarint_exact.taken (count + 1) head rest 0 spelled in
      let two = ap (λ left. uvarint.read (record { at = 0; left = left })) s.1.4 ∙ uvarint_exact.taken (s.1.0 + 1) other others 0 s.1.3 in
      let same = result_same (uvarint.read (record { at = 0; left = head ++ rest })) (count + 1, record { at = 0 + length head; left = rest }) (s.1.0 + 1, record { at = 0 + length other; left = others }) one two in
      let counts : count + 1 ≡ s.1.0 + 1 = ap (λ (p : ℕ × Reading). p.0) same in
      let lefts : rest ≡ others = ap (λ (p : ℕ × Reading). p.1.left) same in
      no_items others more (sym lefts) (omega (arith, s.1.2, size, counts)) s.0

  text_bad : (r after : Reading) → r.left ≡ (head ++ text) ++ after.left → after.at ≡ r.at + length (head ++ text) → IsFirstBad nullable_text r (after.at - length text + place)
  text_bad r after left at = record {
    before = front;
    byte = byte;
    after = drop (place + 1) text ++ after.left;
    left =
        left ∙ append_assoc head text after.left
        ∙ ap (λ l. head ++ (l ++ after.left)) (sym (take-append-drop place text) ∙ ap (λ l. take place text ++ l) (drop_more text place 0 stop.within))
        ∙ ap (λ l. head ++ l) (append_assoc (take place text) (byte ∷ drop (place + 1) text) after.left)
        ∙ sym (append_assoc head (take place text) (byte ∷ (drop (place + 1) text ++ after.left)));
    at =
        let long : length (take place text) ≡ place = length-take-le place text (omega (arith, stop.within)) in
        omega (arith, at, length-append head text, length-append head (take place text), long);
    some = goes;
    none = λ g.
        let whole : (front ++ (byte ∷ [])) ++ g.1 ≡ head ++ (take place text ++ (byte ∷ g.1)) =
        append_assoc front (byte ∷ []) g.1 ∙ append_assoc head (take place text) (byte ∷ g.1) in
        no_spelling g.0 g.1 (subst (nullable_text.spells g.0) whole g.2);
  }

judged_fails : (text : List ℕ) (place : ℕ) (fault : ByteFault) (good : Bool) → cond {A = Result (Option (List ℕ)) ByteFault} good (Ok (Some text)) (Err (NotUtf8 place)) ≡ Err fault → (good ≡ false) × (NotUtf8 place ≡ fault)
judged_fails text place fault true h = absurd (cc)
judged_fails text place fault false h = (refl, err_same (NotUtf8 place) fault h)

judging_fails : (r after : Reading) (value : Option (List ℕ)) (fault : ByteFault) → AreBetween nullable_bytes value r after → text_or_fault after.at value ≡ Err fault → IsFirstTextFault r fault
judging_fails r after None fault b h = absurd (cc)
judging_fails r after (Some text) fault b h =
    let c = judged_fails text (after.at - length text + text_fault text) fault (is_utf8 text) h in
    let s = b.spelled in
    subst (IsFirstTextFault r) c.1
    (text_bad s.1 text s.0 s.2 s.3 (text_stop text c.0) r after (b.left ∙ ap (λ l. l ++ after.left) s.4) (b.at ∙ ap (λ l. r.at + length l) s.4))

abbrev kept : Reading → Option (List ℕ) → Result (Option (List ℕ) × Reading) ByteFault
kept r text = Ok (text, r)

text_where : (r : Reading) (fault : ByteFault) → AreBytes r.left
    → (nullable_bytes.read r ≡ Err fault) ⊎ ((x : Option (List ℕ) × Reading) × (nullable_bytes.read r ≡ Ok x) × ((text_or_fault x.1.at x.0 >>= kept x.1) ≡ Err fault)) → IsFirstTextFault r fault
text_where r fault small (inl e) = taking_fails r fault (counted_fails 1 r fault small e)
text_where r fault small (inr c) =
    judging_fails r c.0.1 c.0.0 fault (between nullable_bytes (counted_exact 1) c.0.0 r c.0.1 small c.1) (made_fails (text_or_fault c.0.1.at c.0.0) (λ text. (text, c.0.1)) fault c.2)

pub text_faults : (r : Reading) (fault : ByteFault) → AreBytes r.left → nullable_text.read r ≡ Err fault → IsFirstTextFault r fault
text_faults r fault small h = text_where r fault small (failed (nullable_bytes.read r) (λ x. text_or_fault x.1.at x.0 >>= λ text. Ok (text, x.1)) fault h)
