use Rattle.std.proofs.Common.{◌≡◌, ◌+◌, ◌-◌, length, ap, sym, ◌∙◌, arith}
use Rattle.kz_spec_data.specs.Tree.{count_beside}
use Rattle.kz_tree_rows.proofs.Counts.{migrated_within, beside_outside}
use Rattle.kz_tree_rows.proofs.rows.Rows.count_beside.Goals as goal

pub returns-else-is_migrated : goal.returns-else-is_migrated
returns-else-is_migrated c =
    let whole : c.count.result - c.self.inside.migrated + c.self.inside.migrated ≡ length c.self.inside.list =
    omega (arith, c.count.ensures, c.self.invariant.counted.fits, migrated_within c.self.inside.list c.self.inside.migrated c.self.invariant.counted) in
    beside_outside c.args.path.now c.self.inside.list c.self.inside.migrated (c.count.result - c.self.inside.migrated) c.self.invariant.counted (sym c.is_migrated.ensures ∙ c.if-is_migrated.false) whole
    ∙ ap (count_beside c.args.path.now) c.self.view_is
