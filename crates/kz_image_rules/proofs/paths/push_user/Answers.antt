use Rattle.kz_types.specs.Paths.{path_of}
use Rattle.kz_paths.proofs.PathBuffers.{joined}
use Rattle.kz_image_rules.proofs.paths.push_user.Goals as goal

pub returns-then-push-clause-added : goal.returns-then-push-clause-added
unfolding path_of
returns-then-push-clause-added c = λ ok. joined _ _ _ _ _ (c.push.ensures.added c.if-push.true) (c.push_sanitised.ensures.added ok)
