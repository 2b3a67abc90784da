use Rattle.std.proofs.Common.{◌≡◌, None, ap, ◌∙◌}
use Rattle.kz_spec_data.specs.Tree.{Tree}
use Rattle.kz_spec_data.specs.Loads.{row_refusal}
use Rattle.kz_tree.proofs.Loads.{after_others, row_checked, taken_last, with_taken}
use Rattle.kz_tree.proofs.load.LoadCheck.put.Goals as goal

pub append-requires : goal.append-requires
append-requires c =
    after_others c.self.inside.zxid c.self.inside.sessions.items c.self.inside.rows c.args.row (ap (λ (t : Tree). row_refusal t.zxid t.sessions t.rows c.args.row) c.self.view_is ∙ c.requires)

pub invariant_of-self-2 : goal.invariant_of-self-2
invariant_of-self-2 c =
    let none : row_refusal c.self.inside.zxid c.self.inside.sessions.items c.self.inside.rows c.args.row ≡ None =
    ap (λ (t : Tree). row_refusal t.zxid t.sessions t.rows c.args.row) c.self.view_is ∙ c.requires in
    row_checked c.self.inside.zxid c.self.inside.sessions.items c.self.inside.rows c.append.new.self c.args.row c.self.invariant none c.in-Ok.ensures.ok

pub returns-clause-ok : goal.returns-clause-ok
returns-clause-ok c =
    let none : row_refusal c.self.inside.zxid c.self.inside.sessions.items c.self.inside.rows c.args.row ≡ None =
    ap (λ (t : Tree). row_refusal t.zxid t.sessions t.rows c.args.row) c.self.view_is ∙ c.requires in
    with_taken c.self.inside.zxid c.self.inside.sessions.items c.self.inside.rows c.append.new.self c.args.row c.args.self.now c.self.view_is
    (taken_last c.self.inside.zxid c.self.inside.sessions.items c.self.inside.rows c.append.new.self c.args.row none c.in-Ok.ensures.ok)
