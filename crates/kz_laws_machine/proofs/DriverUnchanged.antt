-- A change of the tree that leaves all that drivers read of it.
use Rattle.std.proofs.Common.{ℤ, map, List, Option, option_map, sym, ap, ◌∙◌}
use Rattle.kz_types.specs.declared.tree.Op.{Op}
use Rattle.kz_types.specs.declared.driver.Stage.{Stage}
use Rattle.kz_types.specs.declared.driver.Stage.TheVariants as stage
use Rattle.kz_types.specs.declared.machine.Recorded.{Recorded}
use Rattle.kz_spec_data.specs.Tree.{Tree, rendered_row}
use Rattle.kz_spec_data.specs.Log.{Log, View, image_at}
use Rattle.kz_spec_data.specs.Rendering.{render}
use Rattle.kz_spec_data.specs.Difference.{diff}
use Rattle.kz_types.specs.declared.tree.Row.{Row}
use Rattle.kz_spec_machine.specs.Driver.{Shared, Driver}
use Rattle.kz_spec_machine.specs.Sound.{claim_version, IsCurrent, shown_in, OwnRecord, Migrates, Reads, Targets, Writes, IsAtRest, AtStage, IsSoundDriver}
use Rattle.kz_laws_machine.specs.Effects.{IsUnchanged}
use Rattle.kz_laws_machine.proofs.Known.{views_shown}
use Rattle.kz_laws_machine.proofs.Written.{claims_same, below_same, looks_same}

was_current : (t new : Tree) (claim : Option ℤ) → IsUnchanged t new → IsCurrent new claim → IsCurrent t claim
was_current t new claim u now = (now.0 ∙ u.version, now.1)

own_unchanged : (t new : Tree) (l : Log) (own : Option ℤ) → IsUnchanged t new → OwnRecord t l own → OwnRecord new l own
own_unchanged t new l own u old = record {
  low = λ o is. let was = old.low o is in (was.0, was.1, u.recorded ∙ was.2, was.3);
  rest = λ o r is found same end. u.unclosed ∙ old.rest o r is (sym u.recorded ∙ found) same end;
}

migrates_unchanged : (t new : Tree) (l : Log) (claim : Option ℤ) → IsUnchanged t new → Migrates t l claim → Migrates new l claim
migrates_unchanged t new l claim u old = record {
  claimed = old.claimed;
  unmigrated = λ c. old.unmigrated (was_current t new claim u c);
  recorded = λ c. ap (option_map (λ (r : Recorded). r.offset)) u.recorded ∙ old.recorded (was_current t new claim u c);
}

reads_unchanged : (t new : Tree) (rows : List Row) → IsUnchanged t new → Reads t rows → Reads new rows
reads_unchanged t new rows u old = record { rest = old.rest; whole = u.rows ∙ old.whole }

targets_unchanged : (t new : Tree) (l : Log) (target : Recorded) → IsUnchanged t new → Targets t l target → Targets new l target
targets_unchanged t new l target u old = record { end = old.end; past = old.past; recorded = λ r is. old.recorded r (sym u.recorded ∙ is) }

writes_unchanged : (t new : Tree) (l : Log) (target : Recorded) (ops : List Op) → IsUnchanged t new → Writes t l target ops → Writes new l target ops
writes_unchanged t new l target ops u old = record {
  targets = targets_unchanged t new l target u old.targets;
  remaining = old.remaining ∙ ap (λ rows. diff (map rendered_row rows) (render (image_at l target.offset))) (sym u.rows);
}

rests_unchanged : (t new : Tree) (v : View) (own : Option ℤ) → IsUnchanged t new → IsAtRest t v own → IsAtRest new v own
rests_unchanged t new v own u old = record {
  closed = u.unclosed ∙ old.closed;
  same = ap (option_map (λ (r : Recorded). r.offset)) u.recorded ∙ old.same;
  view = old.view;
  known = old.known;
}

at_unchanged : (t new : Tree) (l : Log) (d : Driver) (x : Stage) → IsUnchanged t new → AtStage t l d x → AtStage new l d x
at_unchanged t new l d stage.Uninitialized u at = tt
at_unchanged t new l d stage.Inactive u at = tt
at_unchanged t new l d stage.WaitForControllerQuorum u at = tt
at_unchanged t new l d stage.WaitForBrokers u at = tt
at_unchanged t new l d stage.ListBrokers u at = tt
at_unchanged t new l d stage.ReadControlZnodes u at = tt
at_unchanged t new l d (stage.ClaimLeadership seen) u at = looks_same t new d.epoch seen u.version u.shown at
at_unchanged t new l d (stage.ScanForMigration rows) u at = (migrates_unchanged t new l d.claim u at.0, λ c. reads_unchanged t new rows u (at.1 (was_current t new d.claim u c)))
at_unchanged t new l d (stage.BeginMigration rows) u at = (migrates_unchanged t new l d.claim u at.0, λ c. u.rows ∙ at.1 (was_current t new d.claim u c))
at_unchanged t new l d (stage.AppendRecords records) u at = (migrates_unchanged t new l d.claim u at.0, λ c. at.1 (was_current t new d.claim u c))
at_unchanged t new l d stage.ReadLogForResync u at = at
at_unchanged t new l d (stage.ScanForResync target rows) u at =
    (at.0, at.1, λ c. let old = at.2 (was_current t new d.claim u c) in (targets_unchanged t new l target u old.0, reads_unchanged t new rows u old.1))
at_unchanged t new l d (stage.WriteResync target ops) u at = (at.0, at.1, λ c. writes_unchanged t new l target ops u (at.2 (was_current t new d.claim u c)))
at_unchanged t new l d stage.KraftControllerToBrokerComm u at = (at.0, λ c. rests_unchanged t new d.view d.recorded u (at.1 (was_current t new d.claim u c)))
at_unchanged t new l d stage.DualWrite u at = (at.0, λ c. rests_unchanged t new d.view d.recorded u (at.1 (was_current t new d.claim u c)))
at_unchanged t new l d (stage.WriteDelta target ops) u at = (at.0, at.1, λ c. writes_unchanged t new l target ops u (at.2 (was_current t new d.claim u c)))

pub others_unchanged : (s : Shared) (new : Tree) (d : Driver) → IsUnchanged s.tree new → IsSoundDriver s d → IsSoundDriver (record s { tree = new }) d
others_unchanged s new d u fine = record {
  id = fine.id;
  epochs = fine.epochs;
  elected = fine.elected;
  claims = claims_same s.log.epoch (claim_version s.tree) (shown_in s.tree) (claim_version new) (shown_in new) d.epoch d.claim u.version u.shown fine.claims;
  views = views_shown s.log (shown_in s.tree) (shown_in new) d.epoch d.stage d.view (below_same (shown_in s.tree) (shown_in new) d.epoch u.shown) fine.views;
  own_record = own_unchanged s.tree new s.log d.recorded u fine.own_record;
  leads = fine.leads;
  stage = at_unchanged s.tree new s.log d d.stage u fine.stage;
}
