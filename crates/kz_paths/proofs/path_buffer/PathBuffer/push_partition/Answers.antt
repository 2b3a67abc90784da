use Rattle.std.proofs.Common.{◌++◌, ap, ◌∙◌, codes, SFits, w32, to_z-of_z, rules}
use Rattle.std.specs.Fmt.{signed_decimal}
use Rattle.kz_paths.proofs.PathBuffers.{joined}
use Rattle.kz_paths.proofs.path_buffer.PathBuffer.push_partition.Goals as goal

pub returns-then-push-clause-added : goal.returns-then-push-clause-added
returns-then-push-clause-added c = λ ok.
    joined _ _ _ _ _ (c.push.ensures.added c.if-push.true) (c.push_state.ensures.added ok)
    ∙ ap (λ number. c.args.self.now ++ (codes "/partitions/" ++ (signed_decimal number ++ codes "/state"))) (let fits : SFits w32 c.args.number = search rules in to_z-of_z fits)
