use Rattle.std.proofs.Common.{◌≡◌, ◌++◌, map}
use Rattle.std.specs.List.{All}
use Rattle.kz_spec_data.specs.InOrder.{IsUserFilled}
use Rattle.kz_spec_data.specs.Legal.{IsScramEntry}
use Rattle.kz_spec_data.specs.Rendering.{user_znode}
use Rattle.kz_render.proofs.users.push_users.Given as goal

abbrev pub invariant-loop-user : goal.invariant-loop-user
invariant-loop-user l = (l.znodes.items ++ map (user_znode l.entries) l.user-iterator ≡ l.fn.znodes.items ++ map (user_znode l.fn.entries) l.fn.users)
    × All IsUserFilled l.user-iterator × All IsScramEntry l.user-iterator
