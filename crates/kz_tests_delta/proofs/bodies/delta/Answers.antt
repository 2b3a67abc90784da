use Rattle.std.proofs.Common.{pos, sym, subst}
use Rattle.kz_spec_data.specs.Metadata.{Image}
use Rattle.kz_spec_data.specs.Touched.{Lead}
use Rattle.kz_view_delta.proofs.Covered.{applied_lead}
use Rattle.kz_tests_delta.proofs.bodies.delta.Goals as goal

pub keys_of_applied-requires : goal.keys_of_applied-requires
keys_of_applied-requires g c = subst (λ (i : Image). Lead c.args.old.now c.args.records.now i) (sym c.requires) (applied_lead (pos 5) c.args.records.now c.args.old.now)
