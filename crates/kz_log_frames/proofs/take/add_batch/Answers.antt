use Rattle.std.proofs.Common.{sym, subst, arith, rules}
use Rattle.kz_log.specs.Rows.{GoesOn}
use Rattle.kz_log_frames.proofs.Taking.{as_many, goes_on}
use Rattle.kz_log_frames.proofs.take.add_batch.Goals as goal

pub does_follow-requires : goal.does_follow-requires
does_follow-requires c =
    let count = as_many c.args.batch.now.values c.args.items.items c.requires.values in
    let len = c.len-count.ensures in
    omega (arith, len, count, c.args.items.ok.0)

pub push-requires : goal.push-requires
push-requires c =
    let l = c.args.log.now in
    let b = c.args.batch.now in
    let items = c.args.items.items in
    subst (λ r. GoesOn l r) (sym c.row_of.ensures) (goes_on l c.requires.batch.0 b items c.requires.batch.1 c.requires.values (search rules))
