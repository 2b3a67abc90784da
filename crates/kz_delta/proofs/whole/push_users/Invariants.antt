use Rattle.std.proofs.Common.{◌≡◌, ◌++◌, map, Some}
use Rattle.kz_types.specs.declared.image.ScramEntry.{ScramEntry}
use Rattle.kz_types.specs.declared.key.EntityKey.TheVariants as key
use Rattle.kz_delta.proofs.whole.push_users.Given as goal

abbrev pub invariant-loop-user : goal.invariant-loop-user
invariant-loop-user l = l.keys.items ++ map (λ (u : ScramEntry). key.User (Some u.name)) l.user-iterator ≡ l.fn.keys.items ++ map (λ (u : ScramEntry). key.User (Some u.name)) l.fn.users
