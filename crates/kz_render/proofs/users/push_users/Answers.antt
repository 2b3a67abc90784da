use Rattle.std.proofs.Common.{◌≡◌, ◌++◌, map, ap, ◌∙◌}
use Rattle.std.proofs.lemmas.List.Elements.{All-rest}
use Rattle.kz_spec_data.specs.InOrder.{IsUserFilled}
use Rattle.kz_spec_data.specs.Legal.{IsScramEntry}
use Rattle.kz_spec_data.specs.Rendering.{user_znode}
use Rattle.kz_render.proofs.Going.{map_next, all_left, all_next}
use Rattle.kz_render.proofs.users.push_users.Goals as goal

pub loop-user-init : goal.loop-user-init
loop-user-init c =
    let users = c.args.users.now in
    let left = c.into_iter-user-iterator.result in
    let same : left ≡ users = c.into_iter-user-iterator.ensures.into_iter_gives ∙ c.items-user-items.ensures.items in (
      ap (λ us. c.args.znodes.now.items ++ map (user_znode c.args.entries.now) us) same,
      all_left IsUserFilled users left c.requires.filled same,
      all_left IsScramEntry users left c.requires.legal same,
    )

pub push_user-requires-clause-legal : goal.push_user-requires-clause-legal
push_user-requires-clause-legal c = all_next IsScramEntry c.loop-user.user-iterator c.next.new.self c.in-Some.user.now c.loop-user.invariant.2 c.in-Some.ensures.steps

pub loop-user-preserved : goal.loop-user-preserved
loop-user-preserved c =
    let entries = c.args.entries.now in
    let left = c.loop-user.user-iterator in
    let rest = c.next.new.self in
    let user = c.in-Some.user.now in (
      map_next (user_znode entries) c.loop-user.znodes.items c.push_user.new.znodes.items (c.args.znodes.now.items ++ map (user_znode entries) c.args.users.now) left rest user
          c.loop-user.invariant.0 c.in-Some.ensures.steps c.in_ok-push_user.ensures,
      All-rest IsUserFilled user rest left c.in-Some.ensures.steps c.loop-user.invariant.1,
      All-rest IsScramEntry user rest left c.in-Some.ensures.steps c.loop-user.invariant.2,
    )
