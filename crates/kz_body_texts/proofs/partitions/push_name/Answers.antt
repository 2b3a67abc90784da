use Rattle.std.proofs.Common.{string_bytes, rules}
use Rattle.kz_body_texts.proofs.TopicLemmas.{name_joined}
use Rattle.kz_body_texts.proofs.partitions.push_name.Goals as goal

pub returns : goal.returns
returns c =
    name_joined (string_bytes c.args.text.now) (string_bytes c.push_comma.new.text) (string_bytes c.push_sign.new.text) (string_bytes c.push_whole.new.text) (string_bytes c.push_str.new.self)
    c.args.later c.args.number c.ranges.number c.in_ok-push_comma.ensures c.in_ok-push_sign.ensures (search (rules, c.in_ok-push_whole.ensures)) c.in_ok-push_str.ensures.bytes
