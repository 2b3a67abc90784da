use Rattle.std.proofs.Common.{string_bytes}
use Rattle.kz_body_texts.proofs.TextLemmas.{topic_joined}
use Rattle.kz_body_texts.proofs.written.topic_text.Goals as goal

pub returns : goal.returns
returns c =
    topic_joined (string_bytes c.in_ok-text.text) (string_bytes c.push_adding.new.text) (string_bytes c.push_partitions.new.text) (string_bytes c.push_removing.new.text)
    (string_bytes c.push_id.new.text) (string_bytes c.push_str.new.self) c.args.id.now c.args.rows.now
    c.in_ok-text.ensures.bytes c.in_ok-push_adding.ensures c.in_ok-push_partitions.ensures c.in_ok-push_removing.ensures c.in_ok-push_id.ensures c.in_ok-push_str.ensures.bytes
