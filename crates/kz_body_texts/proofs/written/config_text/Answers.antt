use Rattle.std.proofs.Common.{string_bytes}
use Rattle.kz_body_texts.proofs.ConfigLemmas.{config_joined}
use Rattle.kz_body_texts.proofs.written.config_text.Goals as goal

pub returns : goal.returns
returns c =
    config_joined (string_bytes c.in_ok-text.text) (string_bytes c.push_str.new.self) (string_bytes c.push_texts.new.text) (string_bytes c.push_str-2.new.self) c.args.pairs.now
    c.in_ok-text.ensures.bytes c.in_ok-push_str.ensures.bytes c.in_ok-push_texts.ensures c.in_ok-push_str-2.ensures.bytes
