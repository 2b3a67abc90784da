use Rattle.std.proofs.Common.{◌≡◌, Bor, map, take}
use Rattle.std.specs.List.{flat_map}
use Rattle.kz_types.specs.declared.image.AclEntry.{AclEntry}
use Rattle.kz_acls.specs.Names.{entry_named}
use Rattle.kz_acls.proofs.list.AclList.named.Given as goal

abbrev pub invariant-loop-id : goal.invariant-loop-id
invariant-loop-id l = map (λ (a : Bor AclEntry). a.now) l.found.items ≡ flat_map (entry_named l.name l.self-inside.entries) (take l.id-index l.ids)
