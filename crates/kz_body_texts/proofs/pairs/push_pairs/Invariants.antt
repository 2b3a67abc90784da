use Rattle.std.proofs.Common.{◌≡◌, ◌++◌, drop, string_bytes}
use Rattle.serde_json.specs.Data.{object}
use Rattle.serde_json.specs.Written.{compact_text, members_text}
use Rattle.kz_body_texts.specs.Texts.{texts_in_order}
use Rattle.kz_body_texts.proofs.pairs.push_pairs.Given as goal

abbrev pub invariant-loop-pair : goal.invariant-loop-pair
invariant-loop-pair l = string_bytes l.text ++ members_text l.later (texts_in_order (drop l.pair-index l.pairs)) ≡ string_bytes l.fn.text ++ compact_text (object (texts_in_order l.pairs))
