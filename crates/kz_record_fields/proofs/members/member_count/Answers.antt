use Rattle.std.proofs.Common.{◌∙◌}
use Rattle.kz_record_fields.proofs.Json.{count_of_members}
use Rattle.kz_record_fields.proofs.members.member_count.Goals as goal

pub returns-in-Some : goal.returns-in-Some
returns-in-Some c = c.len.ensures.len ∙ count_of_members _ _ c.in-Some.ensures
