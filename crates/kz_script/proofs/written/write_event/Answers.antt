use Rattle.std.proofs.Common.{◌∙◌, ap}
use Rattle.serde_json.specs.Written.{has_float}
use Rattle.kz_script.proofs.Plain.{event_no_float}
use Rattle.kz_script.proofs.written.write_event.Goals as goal

pub value_text-requires : goal.value_text-requires
value_text-requires c = ap has_float c.in_ok-value.ensures ∙ event_no_float c.args.event.now
