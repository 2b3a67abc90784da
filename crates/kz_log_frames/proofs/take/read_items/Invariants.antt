use Rattle.std.proofs.Common.{◌≡◌, length}
use Rattle.kz_spec_data.specs.LogFile.{read_values}
use Rattle.kz_log_frames.proofs.Taking.{prefixed}
use Rattle.kz_log_frames.proofs.take.read_items.Given as goal

abbrev pub invariant-loop-value : goal.invariant-loop-value
invariant-loop-value l = prefixed l.items.items (read_values l.values) ≡ read_values l.initial.values

abbrev pub decreases-loop-value : goal.decreases-loop-value
decreases-loop-value l = length l.values
