use Rattle.std.proofs.Common.{◌≡◌, take, string_bytes}
use Rattle.std.specs.List.{flat_map}
use Rattle.kz_spec_data.specs.Replies.{reply_line, reply_text}
use Rattle.kz_script.proofs.replies.turn_lines.Given as goal

abbrev pub invariant-loop-reply : goal.invariant-loop-reply
invariant-loop-reply l = string_bytes l.lines ≡ flat_map (λ r. reply_line l.line (reply_text r)) (take l.reply-index l.replies)
