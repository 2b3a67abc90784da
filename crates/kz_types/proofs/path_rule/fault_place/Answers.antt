use Rattle.kz_types.proofs.FormPlaces.{both_places}
use Rattle.kz_types.proofs.path_rule.fault_place.Goals as goal

pub returns : goal.returns
returns c = both_places c.args.bytes.now c.text_place.result c.form_place.result c.text_place.ensures c.form_place.ensures
