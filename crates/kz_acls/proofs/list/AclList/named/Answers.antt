use Rattle.std.proofs.Common.{filter, ap, ◌∙◌, arith}
use Rattle.std.specs.Str.{bytes_eq}
use Rattle.std.specs.List.{flat_map}
use Rattle.std.proofs.lemmas.List.{take_all}
use Rattle.kz_types.specs.declared.image.AclEntry.{AclEntry}
use Rattle.kz_acls.specs.Names.{entry_named}
use Rattle.kz_acls.proofs.Named.{entries_named}
use Rattle.kz_acls.proofs.list.AclList.named.Goals as goal

pub returns : goal.returns
returns c =
    let name = c.args.name.now in
    let entries = c.self.inside.entries in
    c.loop-id.invariant ∙ ap (flat_map (entry_named name entries)) (take_all c.loop-id.id-index c.ids_at-ids.result.now (omega (arith, c.loop-id-test.false)) ∙ c.ids_at-ids.ensures) ∙ entries_named name entries c.self.inside.names c.self.invariant
    ∙ ap (filter (λ (a : AclEntry). bytes_eq a.row.name name)) c.self.view_is
