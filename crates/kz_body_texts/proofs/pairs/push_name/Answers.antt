use Rattle.std.proofs.Common.{string_bytes}
use Rattle.kz_body_texts.proofs.ConfigLemmas.{name_joined}
use Rattle.kz_body_texts.proofs.pairs.push_name.Goals as goal

pub returns : goal.returns
returns c =
    name_joined (string_bytes c.args.text.now) (string_bytes c.push_comma.new.text) (string_bytes c.push_quoted.new.text) (string_bytes c.push_str.new.self) c.args.name.now c.args.later
    c.in_ok-push_comma.ensures c.in_ok-push_quoted.ensures c.in_ok-push_str.ensures.bytes
