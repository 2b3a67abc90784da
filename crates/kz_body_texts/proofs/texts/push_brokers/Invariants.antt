use Rattle.std.proofs.Common.{◌≡◌, ◌++◌, map, drop, string_bytes}
use Rattle.serde_json.specs.View.{items_of}
use Rattle.serde_json.specs.Written.{compact_text, items_text}
use Rattle.kz_spec_data.specs.Bodies.{whole_data, brokers_data}
use Rattle.kz_body_texts.proofs.texts.push_brokers.Given as goal

abbrev pub invariant-loop-id : goal.invariant-loop-id
invariant-loop-id l = string_bytes l.text ++ items_text l.later (items_of (map whole_data (drop l.id-index l.ids))) ≡ string_bytes l.fn.text ++ compact_text (brokers_data l.ids)
