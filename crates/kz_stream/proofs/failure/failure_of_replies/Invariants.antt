use Rattle.std.proofs.Common.{◌≡◌, drop}
use Rattle.kz_stream.specs.Failures.{failure_of_replies}
use Rattle.kz_stream.proofs.failure.failure_of_replies.Given as goal

abbrev pub invariant-loop-reply : goal.invariant-loop-reply
invariant-loop-reply l = failure_of_replies l.replies ≡ failure_of_replies (drop l.reply-index l.replies)
