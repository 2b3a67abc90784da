use Rattle.std.proofs.Common.{rules}
use Rattle.kz_render.proofs.QuotaPaths.{user_legal, user_rule, clients_rule}
use Rattle.kz_render.proofs.quotas.push_parents_of.Goals as goal

pub push_client_parents-requires-clause-legal : goal.push_client_parents-requires-clause-legal
push_client_parents-requires-clause-legal c = user_legal c.in-UserClient.user c.in-UserClient._client c.args.path.now (search rules) (search rules)

pub push_client_parents-requires-clause-path : goal.push_client_parents-requires-clause-path
push_client_parents-requires-clause-path c = user_rule c.in-UserClient.user c.in-UserClient._client c.args.path.now (search rules) (search rules)

pub push_client_parents-requires-clause-clients : goal.push_client_parents-requires-clause-clients
push_client_parents-requires-clause-clients c = clients_rule c.in-UserClient.user c.in-UserClient._client c.args.path.now (search rules) (search rules)
