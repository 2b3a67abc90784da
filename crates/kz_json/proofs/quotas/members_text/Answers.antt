use Rattle.kz_json.proofs.quotas.members_text.Goals as goal

pub returns : goal.returns
returns c = c.in_ok-format.ensures.ok
