use Rattle.std.proofs.Common.{string_bytes, rules}
use Rattle.kz_body_texts.proofs.TextLemmas.{state_joined}
use Rattle.kz_body_texts.proofs.written.state_text.Goals as goal

pub returns : goal.returns
returns c =
    state_joined (string_bytes c.in_ok-text.text) (string_bytes c.push_whole_of.new.text) (string_bytes c.push_brokers_of.new.text) (string_bytes c.push_whole_of-2.new.text)
    (string_bytes c.push_whole_of-3.new.text) (string_bytes c.push_whole_of-4.new.text) (string_bytes c.push_str.new.self)
    c.args.state.now.leader c.args.state.now.leader_epoch c.args.state.now.controller_epoch c.args.state.now.isr.now c.args.state.now.recovery
    c.in_ok-text.ensures.bytes (search (rules, c.in_ok-push_whole_of.ensures)) c.in_ok-push_brokers_of.ensures (search (rules, c.in_ok-push_whole_of-2.ensures))
    (search (rules, c.in_ok-push_whole_of-3.ensures)) (search (rules, c.in_ok-push_whole_of-4.ensures)) c.in_ok-push_str.ensures.bytes
