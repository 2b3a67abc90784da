use Rattle.std.proofs.Common.{◌≡◌, None, option_map, sym, ap, ◌∙◌}
use Rattle.kz_types.specs.Order.{bytes_cmp}
use Rattle.kz_types.specs.Ordered.{find as find_in}
use Rattle.kz_types.proofs.Order.{bytes_order}
use Rattle.kz_types.proofs.Append.{without_absent}
use Rattle.kz_spec_data.specs.Metadata.{id_of_acl}
use Rattle.kz_acls.proofs.Named.{entry_without}
use Rattle.kz_acls.proofs.list.AclList.without.Goals as goal

pub returns-in_default-clause-ok : goal.returns-in_default-clause-ok
returns-in_default-clause-ok c =
    let none : find_in bytes_cmp id_of_acl c.args.id.bytes c.self.inside.entries ≡ None = sym c.find.ensures ∙ ap (option_map (λ a. a.now)) c.in_default.is in
    sym (without_absent bytes_order id_of_acl c.args.id.bytes c.args.self.now (sym (ap (find_in bytes_cmp id_of_acl c.args.id.bytes) c.self.view_is) ∙ none))

pub invariant_of-self-2 : goal.invariant_of-self-2
invariant_of-self-2 c =
    rw (c.in_ok-take_id.ensures.ok, c.in_ok-without.ensures.ok, c.in_ok-names.ensures) (entry_without c.in-Some.entry.now c.args.id.bytes c.self.inside.names c.self.inside.entries c.self.invariant)
