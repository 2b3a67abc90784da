use Rattle.std.proofs.Common.{◌^◌, ◌<◌, subst, sym, ◌∙◌}
use Rattle.kz_spec_data.specs.Log.{record_count}
use Rattle.kz_log.specs.Rows.{log_of}
use Rattle.kz_log.proofs.Batches.{count_fits}
use Rattle.kz_log.proofs.rows.LogRows.from_feed.Goals as goal

pub count_of-count-requires : goal.count_of-count-requires
count_of-count-requires c =
    subst (λ bs. record_count bs < 2 ^ 64) (sym (c.deref.ensures.value ∙ c.into_vec-batches.ensures)) (count_fits (log_of c.args.epoch c.args.feed) c.requires)
