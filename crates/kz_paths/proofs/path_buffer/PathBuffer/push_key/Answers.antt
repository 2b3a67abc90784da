use Rattle.std.proofs.Common.{ap, sym, ◌∙◌, ◌++◌, codes}
use Rattle.kz_types.specs.Paths.{path_of}
use Rattle.kz_paths.proofs.PathBuffers.{joined}
use Rattle.kz_paths.proofs.path_buffer.PathBuffer.push_key.Goals as goal

pub returns-in-TopicConfig-clause-added : goal.returns-in-TopicConfig-clause-added
unfolding path_of
returns-in-TopicConfig-clause-added c = λ ok.
    c.push_both-in-TopicConfig.ensures.added ok ∙ ap (λ name. c.args.self.now ++ (codes "/config/topics/" ++ name)) c.bytes-in-TopicConfig.ensures
    ∙ ap (λ key. c.args.self.now ++ path_of key) (sym c.in-TopicConfig.is)

pub returns-then-push-3-clause-added : goal.returns-then-push-3-clause-added
unfolding path_of
returns-then-push-3-clause-added c = λ ok.
    joined _ _ _ _ _ (c.push-in-User.ensures.added c.if-push-3.true) (c.push_name-then-push-3.ensures.added ok) ∙ ap (λ key. c.args.self.now ++ path_of key) (sym c.in-User.is)

pub returns-then-push-4-clause-added : goal.returns-then-push-4-clause-added
unfolding path_of
returns-then-push-4-clause-added c = λ ok.
    joined _ _ _ _ _ (c.push-in-UserClient.ensures.added c.if-push-4.true) (c.push_user_client.ensures.added ok) ∙ ap (λ key. c.args.self.now ++ path_of key) (sym c.in-UserClient.is)

pub returns-then-push-5-clause-added : goal.returns-then-push-5-clause-added
unfolding path_of
returns-then-push-5-clause-added c = λ ok.
    joined _ _ _ _ _ (c.push-in-Ip.ensures.added c.if-push-5.true) (c.push_address.ensures.added ok) ∙ ap (λ key. c.args.self.now ++ path_of key) (sym c.in-Ip.is)

pub returns-in-Producer-clause-added : goal.returns-in-Producer-clause-added
unfolding path_of
returns-in-Producer-clause-added c = λ ok. c.push-in-Producer.ensures.added ok ∙ ap (λ key. c.args.self.now ++ path_of key) (sym c.in-Producer.is)
