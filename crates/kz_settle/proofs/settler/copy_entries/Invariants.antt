use Rattle.std.proofs.Common.{◌≡◌, map}
use Rattle.kz_settle.proofs.settler.copy_entries.Given as goal

abbrev pub invariant-loop-e : goal.invariant-loop-e
invariant-loop-e l = l.copies.items ≡ map (λ e. e.now) l.yielded
