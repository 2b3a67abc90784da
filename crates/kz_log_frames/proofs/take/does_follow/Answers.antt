use Rattle.std.proofs.Common.{◌∙◌, ap, not, nat_lt}
use Rattle.kz_log_frames.proofs.Taking.{follows_by}
use Rattle.kz_log_frames.proofs.take.does_follow.Goals as goal

pub returns : goal.returns
returns c =
    c.all_hold.ensures
    ∙ follows_by c.args.log.now c.args.batch.now _ _ _ _ _ _ (ap not c.is_control.ensures) (ap (nat_lt 0) c.requires) c.begins_next.ensures c.ends_in_range.ensures c.climbs.ensures c.is_elected.ensures
