use Rattle.std.proofs.Common.{◌≡◌, length}
use Rattle.kz_spec_data.specs.Log.{all_entries_applied}
use Rattle.kz_log.proofs.builder.Builder.apply_released.Given as goal

abbrev pub invariant-loop-e : goal.invariant-loop-e
invariant-loop-e l = (all_entries_applied l.self-inside.settler.released l.self-inside.image ≡ all_entries_applied l.fn.self.settling.released l.fn.self.image)
    × (l.self-inside.settler.begun ≡ l.fn.self.settling.begun)
    × (l.self-inside.settler.kept ≡ l.fn.self.settling.kept)
    × (l.self-inside.position ≡ l.fn.self.position)
    × (l.self-inside.epoch ≡ l.fn.self.epoch)

abbrev pub decreases-loop-e : goal.decreases-loop-e
decreases-loop-e l = length l.self-inside.settler.released
