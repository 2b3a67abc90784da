use Rattle.std.proofs.Common.{◌++◌}
use Rattle.std.specs.List.{flat_map}
use Rattle.std.proofs.lemmas.List.Elements.{All-rest}
use Rattle.kz_spec_data.specs.Legal.{IsQuotaEntry}
use Rattle.kz_spec_data.specs.Rendering.{own_znodes}
use Rattle.kz_render.proofs.Going.{flat_map_next}
use Rattle.kz_render.proofs.quotas.push_all_own.Goals as goal

pub loop-entry-preserved : goal.loop-entry-preserved
loop-entry-preserved c =
    let left = c.loop-entry.entry-iterator in
    let rest = c.next.new.self in
    let entry = c.in-Some.entry.now in (
      flat_map_next own_znodes c.loop-entry.znodes.items c.push_own.new.znodes.items (c.args.znodes.now.items ++ flat_map own_znodes c.args.entries.now) left rest entry
          c.loop-entry.invariant.0 c.in-Some.ensures.steps c.in_ok-push_own.ensures,
      All-rest IsQuotaEntry entry rest left c.in-Some.ensures.steps c.loop-entry.invariant.1,
    )
