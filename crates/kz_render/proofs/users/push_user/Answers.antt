use Rattle.kz_render.proofs.QuotaLists.{scram_user}
use Rattle.kz_render.proofs.users.push_user.Goals as goal

pub user_path-requires-clause-legal : goal.user_path-requires-clause-legal
user_path-requires-clause-legal c = (scram_user c.args.user.now c.requires.filled c.requires.legal).0

pub user_path-requires-clause-rule : goal.user_path-requires-clause-rule
user_path-requires-clause-rule c = (scram_user c.args.user.now c.requires.filled c.requires.legal).1
