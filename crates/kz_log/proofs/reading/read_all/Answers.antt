use Rattle.std.proofs.Common.{◌≡◌, w32, to_z, of_z, subst, sym, ◌∙◌, rules}
use Rattle.kz_spec_data.specs.Log.{IsLog}
use Rattle.kz_log.proofs.Views.{log_is_read}
use Rattle.kz_log.proofs.reading.read_all.Goals as goal

pub from_feed-requires : goal.from_feed-requires
from_feed-requires g c =
    let epoch : to_z w32 (of_z w32 c.epoch-epoch.result) ≡ (g.L.MetaLog.log c.args.log.now).epoch = search rules in
    subst IsLog (sym (log_is_read (g.L.MetaLog.log c.args.log.now) _ c.in-Ok.feed (g.met.L.MetaLog.is_log c.args.log.now) epoch c.in-Ok.ensures.ok)) (g.met.L.MetaLog.is_log c.args.log.now)

pub returns-in-Ok-clause-ok : goal.returns-in-Ok-clause-ok
returns-in-Ok-clause-ok g c =
    let epoch : to_z w32 (of_z w32 c.epoch-epoch.result) ≡ (g.L.MetaLog.log c.args.log.now).epoch = search rules in
    c.from_feed.ensures ∙ log_is_read (g.L.MetaLog.log c.args.log.now) _ c.in-Ok.feed (g.met.L.MetaLog.is_log c.args.log.now) epoch c.in-Ok.ensures.ok
