use Rattle.std.proofs.Common.{rules}
use Rattle.kz_body_parts.proofs.Json.{found_json, no_json}
use Rattle.kz_body_parts.proofs.values.read_json.Goals as goal

pub returns-in-Ok : goal.returns-in-Ok
returns-in-Ok c = found_json _ _ c.in-Ok.ensures.ok

pub returns-else-is_memory : goal.returns-else-is_memory
returns-else-is_memory c = no_json _ (c.in-Err.ensures.err (λ m. search (rules, c.if-is_memory.ensures)))
