use Rattle.std.proofs.Common.{sym, subst}
use Rattle.kz_spec_data.specs.Touched.{Lead}
use Rattle.kz_view_delta.proofs.Covered.{applied_lead}
use Rattle.kz_counted_view.proofs.view.counts_of_change.Goals as goal

pub keys_of_applied-requires : goal.keys_of_applied-requires
keys_of_applied-requires c = subst (Lead c.args.before.now c.args.records.now) (sym c.requires.applied) (applied_lead _ c.args.records.now c.args.before.now)
