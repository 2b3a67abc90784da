use Rattle.std.proofs.Common.{codes, string_bytes}
use Rattle.serde_json.specs.Data.{object, no_members}
use Rattle.serde_json.specs.Written.{compact_text}
use Rattle.kz_spec_data.specs.Bodies.{replicas_members}
use Rattle.kz_body_texts.proofs.TextLemmas.{added, closed}
use Rattle.kz_body_texts.proofs.written.push_partitions.Goals as goal

pub returns : goal.returns
returns c =
    let written = compact_text (object (replicas_members no_members c.args.rows.now)) in
    closed c.push_replicas.result (string_bytes c.push_replicas.new.text) (string_bytes c.push_str.new.self) written _ c.push_replicas.ensures
    (added (string_bytes c.args.text.now) (string_bytes c.push_str.new.self) (codes ",\"partitions\":") written c.in_ok-push_str.ensures.bytes)
