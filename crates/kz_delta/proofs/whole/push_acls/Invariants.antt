use Rattle.std.proofs.Common.{◌≡◌, ◌++◌, map}
use Rattle.kz_types.specs.declared.image.AclEntry.{AclEntry}
use Rattle.kz_spec_data.specs.Rendering.{acl_key}
use Rattle.kz_delta.proofs.whole.push_acls.Given as goal

abbrev pub invariant-loop-entry : goal.invariant-loop-entry
invariant-loop-entry l = l.keys.items ++ map (λ (a : AclEntry). acl_key a.row) l.entry-iterator ≡ l.fn.keys.items ++ map (λ (a : AclEntry). acl_key a.row) l.fn.entries
