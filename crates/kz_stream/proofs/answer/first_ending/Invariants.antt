use Rattle.std.proofs.Common.{◌≡◌, drop}
use Rattle.std.specs.List.{filter_map}
use Rattle.kz_spec_machine.specs.Output.{first_ending, ending_of_reply}
use Rattle.kz_stream.proofs.answer.first_ending.Given as goal

abbrev pub invariant-loop-reply : goal.invariant-loop-reply
invariant-loop-reply l = first_ending (filter_map ending_of_reply (drop l.reply-index l.replies)) ≡ first_ending (filter_map ending_of_reply l.replies)
