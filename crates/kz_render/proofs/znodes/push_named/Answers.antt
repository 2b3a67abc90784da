use Rattle.std.proofs.Common.{All, sym, subst}
use Rattle.kz_spec_data.specs.Legal.{IsScramEntry}
use Rattle.kz_render.proofs.znodes.push_named.Goals as goal

pub push_quotas-requires-clause-legal : goal.push_quotas-requires-clause-legal
push_quotas-requires-clause-legal c = subst (All IsScramEntry) (sym c.users.ensures.users) c.users.ensures.legal
