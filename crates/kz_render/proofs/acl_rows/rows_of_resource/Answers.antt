use Rattle.std.proofs.Common.{◌≡◌, Bor, List, map, ap, ◌∙◌, subst}
use Rattle.std.specs.Prelude.{IfOk}
use Rattle.kz_types.specs.declared.image.AclEntry.{AclEntry}
use Rattle.kz_types.specs.declared.key.EntityKey.TheVariants as key
use Rattle.kz_spec_data.specs.Entities.{rows_of_resource}
use Rattle.kz_render.specs.Resources.{rows_at}
use Rattle.kz_render.proofs.ResourceRows.{rows_named, rows_are}
use Rattle.kz_render.proofs.acl_rows.rows_of_resource.Goals as goal

pub returns : goal.returns
returns c =
    let at = c.args.resource.now in
    let acls = c.args.image.now.acls in
    let found : rows_at at.pattern at.kind at.name.now (map (λ (a : Bor AclEntry). a.now) c.deref.result.now) ≡ rows_of_resource (key.Acl at.pattern at.kind at.name.now) acls =
    ap (λ (l : List (Bor AclEntry)). rows_at at.pattern at.kind at.name.now (map (λ (a : Bor AclEntry). a.now) l)) c.deref.ensures.value
    ∙ ap (rows_at at.pattern at.kind at.name.now) c.in_ok-named.ensures ∙ rows_named at.pattern at.kind at.name.now acls
    ∙ rows_are at.pattern at.kind at.name.now acls c.requires c.held_name_is_text.ensures c.is_held.ensures.order.legal.acls c.is_held.ensures.writable.acls in
    subst (λ rows. IfOk c.rows_at.result (λ made. made.items ≡ rows)) found c.rows_at.ensures
