use Rattle.std.proofs.Common.{◌≡◌, ◌≢◌, ◌+◌, ◌-◌, None, cond, ap, sym, ◌∙◌, arith}
use Rattle.kz_types.specs.Paths.{is_migrated}
use Rattle.kz_spec_data.specs.Tree.{row_at}
use Rattle.kz_tree_rows.proofs.Counts.{counted_less, counted_without}
use Rattle.kz_tree_rows.proofs.Ephemerals.{ephemeral_without}
use Rattle.kz_tree_rows.proofs.rows.Rows.remove.Goals as goal

pub overflow_sub-self : goal.overflow_sub-self
overflow_sub-self c =
    let known : row_at c.args.path.now c.self.inside.list ≢ None = λ none. c.requires (sym (ap (row_at c.args.path.now) c.self.view_is) ∙ none) in
    let less = counted_less c.self.inside.list c.self.inside.migrated c.args.path.now c.self.invariant.counted known in
    omega (arith, c.migrated_part.ensures, less.inside)

pub invariant_of-self-2 : goal.invariant_of-self-2
invariant_of-self-2 c =
    let rows = c.self.inside.list in
    let known : row_at c.args.path.now rows ≢ None = λ none. c.requires (sym (ap (row_at c.args.path.now) c.self.view_is) ∙ none) in
    let less = counted_less rows c.self.inside.migrated c.args.path.now c.self.invariant.counted known in
    let inside : c.self.inside.migrated - c.migrated_part.result + cond (is_migrated c.args.path.now) 1 0 ≡ c.self.inside.migrated = omega (arith, c.migrated_part.ensures, less.inside) in
    record {
      counted = rw c.in_ok-take_out.ensures.ok (counted_without rows c.self.inside.migrated (c.self.inside.migrated - c.migrated_part.result) c.args.path.now c.self.invariant.counted less inside);
      with_owner =
          ephemeral_without c.args.path.now rows c.take_out.new.self c.self.inside.ephemeral c.set.new.ephemeral c.self.invariant.counted.rise c.self.invariant.with_owner (c.set.ensures ∙ c.in_ok-ephemeral.ensures)
          c.in_ok-take_out.ensures.ok;
    }
