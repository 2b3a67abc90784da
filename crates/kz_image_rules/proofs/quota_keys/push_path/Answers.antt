use Rattle.std.proofs.Common.{ap, sym, ◌∙◌, ◌++◌, codes}
use Rattle.std.proofs.lemmas.List.{append_assoc}
use Rattle.kz_types.specs.Paths.{path_of, part_or_default, part_for_name}
use Rattle.kz_paths.proofs.PathBuffers.{joined}
use Rattle.kz_image_rules.specs.QuotaKeys.{entity_of}
use Rattle.kz_image_rules.proofs.quota_keys.push_path.Goals as goal

pub returns-then-push_named-clause-added : goal.returns-then-push_named-clause-added
unfolding path_of
returns-then-push_named-clause-added c = λ ok.
    let user = part_or_default part_for_name c.in-UserClient.user.now in
    let client = part_or_default part_for_name c.in-UserClient.client.now in
    joined c.args.path.now (codes "/config/users/" ++ user) (codes "/clients/" ++ client) _ _ (c.push_named-in-UserClient.ensures.added c.if-push_named.true) (c.push_named-then-push_named.ensures.added ok)
    ∙ ap (λ l. c.args.path.now ++ l) (append_assoc (codes "/config/users/") user (codes "/clients/" ++ client)) ∙ ap (λ key. c.args.path.now ++ path_of (entity_of key)) (sym c.in-UserClient.is)

pub returns-then-push-clause-added : goal.returns-then-push-clause-added
unfolding path_of
returns-then-push-clause-added c = λ ok.
    joined c.args.path.now (codes "/config/ips/") (part_or_default (λ a. a) c.in-Ip.address.now) _ _ (c.push.ensures.added c.if-push.true) (c.push_address.ensures.added ok)
    ∙ ap (λ key. c.args.path.now ++ path_of (entity_of key)) (sym c.in-Ip.is)
