use Rattle.std.proofs.Common.{◌≡◌, ◌+◌, ◌/◌, ◌%◌, ◌∷◌, [], ◌++◌, string_bytes, decimal, arith, ap, sym, ◌∙◌, append_assoc}
use Rattle.std.proofs.lemmas.Fmt.{decimal_step}
use Rattle.kz_body_texts.proofs.texts.+push_decimal.Goals as goal

pub returns : goal.returns
returns t c =
    let n = c.args.number in
    let last = (48 + n % 10) ∷ [] in
    let step : decimal n ≡ decimal (n / 10) ++ last = decimal_step n (omega arith) (omega arith) in
    let e : string_bytes c.args.text.now ++ decimal n ≡ string_bytes c.push_decimal.new.text ++ last =
    ap (λ l. string_bytes c.args.text.now ++ l) step ∙ sym (append_assoc (string_bytes c.args.text.now) (decimal (n / 10)) last) ∙ ap (λ l. l ++ last) (sym c.in_ok-push_decimal.ensures) in
    rw e c.push_sign-2.ensures
