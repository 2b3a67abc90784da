use Rattle.std.proofs.Common.{◌≢◌, None, List, ap, sym, ◌∙◌, subst}
use Rattle.kz_types.specs.declared.tree.Row.{Row}
use Rattle.kz_spec_data.specs.Tree.{row_at}
use Rattle.kz_tree_rows.specs.Kept.{AreKept}
use Rattle.kz_tree_rows.proofs.Counts.{counted_found}
use Rattle.kz_tree_rows.proofs.Ephemerals.{ephemeral_put}
use Rattle.kz_tree_rows.proofs.rows.Rows.replace.Goals as goal

pub invariant_of-self : goal.invariant_of-self
invariant_of-self c = subst (λ (rows : List Row). AreKept rows c.self.inside.migrated c.self.inside.ephemeral) (sym c.in_err-put.ensures.err) c.self.invariant

pub invariant_of-self-2 : goal.invariant_of-self-2
invariant_of-self-2 c =
    let rows = c.self.inside.list in
    let known : row_at c.args.row.path rows ≢ None = λ none. c.requires (sym (ap (row_at c.args.row.path) c.self.view_is) ∙ none) in
    record {
      counted = rw c.in_ok-put.ensures.ok (counted_found rows c.self.inside.migrated c.args.row c.self.invariant.counted known);
      with_owner =
          ephemeral_put c.args.row rows c.put.new.self c.self.inside.ephemeral c.set.new.ephemeral c.self.invariant.counted.rise c.self.invariant.with_owner (c.set.ensures ∙ c.in_ok-ephemeral.ensures) c.in_ok-put.ensures.ok;
    }
