use Rattle.std.proofs.Common.{◌≡◌, [], List, sym, subst}
use Rattle.std.proofs.lemmas.Result.{IfErr-weaker, IfOk-weaker}
use Rattle.kz_spec_data.specs.Lines.{Item}
use Rattle.kz_laws_values.proofs.CutLines.{last_item, some_bytes}
use Rattle.kz_load.specs.Stops.{IsLineStop}
use Rattle.kz_load.specs.Pending.{load_of_lines}
use Rattle.kz_load.proofs.reader.last_line.Goals as goal

pub returns-else-is_empty-clause-ok : goal.returns-else-is_empty-clause-ok
returns-else-is_empty-clause-ok c =
    let one = last_item c.args.line.now (some_bytes c.args.line.now c.is_empty.result c.is_empty.ensures c.if-is_empty.false) in
    IfOk-weaker c.advance.result _ _ (λ _ h. subst (λ (is : List Item). load_of_lines c.args.place.now is ≡ load_of_lines c.advance.new.self []) (sym one) (h [])) c.advance.ensures.ok

pub returns-else-is_empty-clause-stop : goal.returns-else-is_empty-clause-stop
returns-else-is_empty-clause-stop c =
    let one = last_item c.args.line.now (some_bytes c.args.line.now c.is_empty.result c.is_empty.ensures c.if-is_empty.false) in
    IfErr-weaker c.advance.result _ _ (λ why h. subst (λ (is : List Item). IsLineStop (load_of_lines c.args.place.now is) why) (sym one) (h [])) c.advance.ensures.stop
