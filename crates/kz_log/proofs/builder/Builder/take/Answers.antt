use Rattle.std.proofs.Common.{◌≡◌, ◌+ℤ◌, pos, w64, w32, to_z, of_z, rules}
use Rattle.kz_log.proofs.Building.{took_next}
use Rattle.kz_log.proofs.builder.Builder.take.Goals as goal

pub returns : goal.returns
returns c =
    let offset : to_z w64 (of_z w64 c.next-offset.result) ≡ c.args.self.now.position +ℤ pos 1 = search rules in
    let epoch : to_z w32 (of_z w32 c.args.epoch) ≡ c.args.epoch = search rules in
    took_next c.args.self.now.position _ _ _ c.args.epoch c.args.self.now.epoch c.args.item c.args.self.now c.push.new.self c.set_position.new.self offset offset epoch c.in_ok-push.ensures c.set_position.ensures
