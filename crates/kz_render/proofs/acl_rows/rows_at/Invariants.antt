use Rattle.std.proofs.Common.{◌≡◌, Bor, map, take}
use Rattle.kz_types.specs.declared.image.AclEntry.{AclEntry}
use Rattle.kz_render.specs.Resources.{rows_at}
use Rattle.kz_render.proofs.acl_rows.rows_at.Given as goal

abbrev pub invariant-loop-entry : goal.invariant-loop-entry
invariant-loop-entry l = l.rows.items ≡ rows_at l.resource.pattern l.resource.kind l.resource.name.now (map (λ (a : Bor AclEntry). a.now) (take l.entry-index l.entries))
