use Rattle.std.proofs.Common.{◌≡◌, ◌+◌, ◌^◌, ◌<◌, None, cond, length, ap, ◌∙◌, arith}
use Rattle.kz_types.specs.Paths.{is_migrated}
use Rattle.kz_spec_data.specs.Tree.{row_at}
use Rattle.kz_tree_rows.proofs.Counts.{part, counted_new}
use Rattle.kz_tree_rows.proofs.Ephemerals.{ephemeral_put_new}
use Rattle.kz_tree_rows.proofs.rows.Rows.add.Goals as goal

pub invariant_of-self-2 : goal.invariant_of-self-2
invariant_of-self-2 c =
    let rows = c.self.inside.list in
    let none : row_at c.args.row.path rows ≡ None = ap (row_at c.args.row.path) c.self.view_is ∙ c.requires in
    let room : length rows + 1 < 2 ^ 64 = omega (arith, c.self.invariant.counted.fits, c.count.ensures, c.if-count.false) in
    let extra : c.migrated_part.result ≡ part c.args.row = c.migrated_part.ensures ∙ ap (λ path. cond (is_migrated path) 1 0) c.bytes.ensures.value in
    record {
      counted = rw (extra, c.in_ok-put.ensures.ok) (counted_new rows c.self.inside.migrated c.args.row c.self.invariant.counted none room);
      with_owner =
          ephemeral_put_new c.args.row rows c.put.new.self c.self.inside.ephemeral c.set.new.ephemeral c.self.invariant.counted.rise none c.self.invariant.with_owner (c.set.ensures ∙ c.in_ok-ephemeral.ensures) c.in_ok-put.ensures.ok;
    }
