use Rattle.std.proofs.Common.{[], ◌∷◌}
use Rattle.std.proofs.lemmas.Result.{IfErr-weaker}
use Rattle.kz_load.proofs.Bytes.{stops_before, stops_next}
use Rattle.kz_load.proofs.reader.Reader.take_line.Goals as goal

pub returns-in-Ok-clause-stop : goal.returns-in-Ok-clause-stop
returns-in-Ok-clause-stop c = IfErr-weaker c.end_line.result _ _ (λ why h. stops_next c.args.self.now c.push.new.self c.args.rest.now (10 ∷ []) why c.in-Ok.ensures.ok h) c.end_line.ensures.stop

pub returns-in-Err-clause-stop : goal.returns-in-Err-clause-stop
returns-in-Err-clause-stop c = stops_before c.args.self.now c.args.rest.now (10 ∷ []) c.in-Err.stop c.in-Err.ensures.stop
