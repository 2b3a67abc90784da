-- What a proof unfolds to compute the definitions of this crate on a literal.
use Rattle.std.specs.Prelude.{⊤}
use Rattle.kz_spec_data.proofs.ZnodesOnLiterals.{znodes_on_literals}
use Rattle.kz_spec_machine.specs.Driver.{planned_step, step}
use Rattle.kz_spec_machine.specs.Verdicts.{verdict}
use Rattle.kz_spec_machine.specs.Machine.{turn, turn_pairs, next, event_pairs, after_events, answers, request_pairs}

unfoldable pub machine_on_literals : ⊤
unfolding znodes_on_literals planned_step step verdict turn turn_pairs next event_pairs after_events answers request_pairs
machine_on_literals = tt
