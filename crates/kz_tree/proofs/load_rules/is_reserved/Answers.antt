use Rattle.std.proofs.Common.{◌≡◌, true, sym, ap, ◌∙◌}
use Rattle.kz_types.specs.Paths.{is_migrated}
use Rattle.kz_tree.proofs.Loads.{not_reserved}
use Rattle.kz_tree.proofs.load_rules.is_reserved.Goals as goal

pub returns-then-is_migrated : goal.returns-then-is_migrated
returns-then-is_migrated c =
    let migrated : is_migrated c.args.path.now ≡ true = ap is_migrated (sym c.bytes.ensures.value) ∙ sym c.is_migrated.ensures ∙ c.if-is_migrated.true in
    sym (not_reserved c.args.path.now migrated)
