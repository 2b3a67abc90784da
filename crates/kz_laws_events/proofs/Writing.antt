-- A write that is taken.
use Rattle.std.proofs.Common.{◌≡◌, ℤ, pos, ◌≤ℤ◌, Bool, true, false, List, Option, Some, None, option_map, refl, sym, ap, ◌∙◌, subst}
use Rattle.std.specs.Prelude.{Ok}
use Rattle.std.specs.Ordering.{int_eq}
use Rattle.std.proofs.lemmas.Bool.Decides.{Decides-int_eq}
use Rattle.kz_types.specs.declared.codes.TheConstants.{BAD_VERSION}
use Rattle.kz_types.specs.declared.tree.Row.{Row}
use Rattle.kz_types.specs.declared.tree.Op.{Op}
use Rattle.kz_types.specs.declared.machine.Recorded.{Recorded}
use Rattle.kz_spec_data.specs.Control.{epoch_path, recorded_of, written_recorded}
use Rattle.kz_spec_data.specs.Tree.{Tree, row_at, code, check_refusal, multi, area, migration_record, has_offset, unclosed_path}
use Rattle.kz_spec_data.specs.Log.{end_of, image_at, is_migrated_log}
use Rattle.kz_spec_data.specs.Rendering.{render}
use Rattle.kz_spec_data.specs.Difference.{diff}
use Rattle.kz_spec_machine.specs.Driver.{Shared, Driver, remaining_at, is_last_write, write_ops}
use Rattle.kz_spec_machine.specs.Sound.{IsSharedSound, RecordAgrees, claim_version, IsCurrent, shown_in, Claims, Targets, IsSoundDriver}
use Rattle.kz_laws_machine.proofs.Numbers.{at_least_itself, both_at_most}
use Rattle.kz_laws_machine.proofs.FenceDrivers.{check_refused}
use Rattle.kz_laws_machine.proofs.Ends.{batch_end_within}
use Rattle.kz_laws_machine.proofs.Render.{render_rises}
use Rattle.kz_laws_machine.proofs.Multi.{multi_ran, write_keeps_version, last_write}
use Rattle.kz_laws_machine.proofs.Claim.{write_keeps_shown}
use Rattle.kz_laws_machine.proofs.Beside.{write_keeps_recorded}
use Rattle.kz_laws_events.specs.Steps.{WritesTo, WriteLeads}
use Rattle.kz_laws_events.proofs.Tests.{true_or_false, not_refused, not_below_zero}
use Rattle.kz_laws_events.proofs.Targets.{target_read, closed_offset, nothing_between, Holds, holds_at}

-- ---- its claim is current

checked_by : (claim : ℤ) (r : Row) (b : Bool) → pos 0 ≤ℤ claim → check_refusal claim (Some r) ≡ None → int_eq claim r.version ≡ b → claim ≡ r.version
checked_by claim r true low pass test = (Decides-int_eq claim r.version).0 test
checked_by claim r false low pass test =
    absurd (not_refused (check_refusal claim (Some r)) (code BAD_VERSION) pass (check_refused claim r low (λ same. true_or_false (int_eq claim r.version) ((Decides-int_eq claim r.version).1 same) test)))

checked : (claim : ℤ) (m : Option Row) → pos 0 ≤ℤ claim → check_refusal claim m ≡ None → option_map (λ (r : Row). r.version) m ≡ Some claim
checked claim None low pass = absurd (cc)
checked claim (Some r) low pass = ap (λ (v : ℤ). Some v) (sym (checked_by claim r (int_eq claim r.version) low pass refl))

claim_least : (log_epoch : ℤ) (version shown epoch m : Option ℤ) (claim : ℤ) → m ≡ Some claim → Claims log_epoch version shown epoch m → pos 0 ≤ℤ claim
claim_least log_epoch version shown epoch None claim is claims = absurd (cc)
claim_least log_epoch version shown epoch (Some c) claim is claims = let same : c ≡ claim = cc in subst (λ (x : ℤ). pos 0 ≤ℤ x) same claims.least

pub taken_current : (s : Shared) (d : Driver) (claim : ℤ) (target : Recorded) (new : Tree) → IsSoundDriver s d → d.claim ≡ Some claim → multi s.tree (write_ops claim (remaining_at s.tree s.log target.offset) target) ≡ Ok new → IsCurrent s.tree d.claim
taken_current s d claim target new fine claimed is =
    let pass = (multi_ran s.tree new (write_ops claim (remaining_at s.tree s.log target.offset) target) is).passes.0 in
    let version = checked claim (row_at epoch_path s.tree.rows) (claim_least s.log.epoch (claim_version s.tree) (shown_in s.tree) d.epoch d.claim claim claimed fine.claims) pass in
    (claimed ∙ sym version, λ none. cc (claimed, none))

-- ---- what it is to others

-- a tree that records the log's end and is closed has nothing left to be written
nothing_left : (s : Shared) (target r : Recorded) → IsSharedSound s → is_migrated_log s.log ≡ true → Targets s.tree s.log target → migration_record s.tree ≡ Some r → r.offset ≡ end_of s.log → unclosed_path s.tree ≡ None
    → is_last_write (diff (area s.tree) (render (image_at s.log target.offset))) ≡ true
nothing_left s target r kept migrated targets found at_end closed =
    let agrees : RecordAgrees s.tree s.log r = (kept.agreement migrated).recorded r found in
    let high = subst (λ (o : ℤ). target.offset ≤ℤ o) (sym at_end) (batch_end_within s.log target.offset kept.log targets.end) in
    let there : r.offset ≡ target.offset = both_at_most r.offset target.offset (targets.recorded r found) high in
    let same : area s.tree ≡ render (image_at s.log target.offset) = agrees.same (closed_offset s.tree r found closed) closed ∙ ap (λ (o : ℤ). render (image_at s.log o)) there in
    ap is_last_write (ap (λ have. diff have (render (image_at s.log target.offset))) same ∙ nothing_between (render (image_at s.log target.offset)) (render_rises (image_at s.log target.offset)))

-- what is recorded after a write
pub record Records (s : Shared) (target : Recorded) (new : Tree) : Type 0 where
  pub recorded : (r : Recorded) → migration_record s.tree ≡ Some r → (q : Recorded) × (migration_record new ≡ Some q) × (r.offset ≤ℤ q.offset)
  pub closed : (q : Recorded) → migration_record new ≡ Some q → q.offset ≡ end_of s.log → unclosed_path s.tree ≡ None → unclosed_path new ≡ None

records_by : (s : Shared) (d : Driver) (claim : ℤ) (target : Recorded) (new : Tree) (b : Bool) → is_last_write (remaining_at s.tree s.log target.offset) ≡ b → IsSharedSound s → is_migrated_log s.log ≡ true → Targets s.tree s.log target → recorded_of (written_recorded target) ≡ Some target
    → pos 0 ≤ℤ target.offset → multi s.tree (write_ops claim (remaining_at s.tree s.log target.offset) target) ≡ Ok new → Records s target new
records_by s d claim target new true last kept migrated targets read low is =
    let all = last_write s.tree new (image_at s.log target.offset) claim target kept.tree last is in
    record {
      recorded = λ r found. (target, all.recorded ∙ read, targets.recorded r found);
      closed = λ q found at_end closed. all.closed (ap has_offset read ∙ not_below_zero target.offset low);
    }
records_by s d claim target new false more kept migrated targets read low is =
    let same = write_keeps_recorded s.tree new (image_at s.log target.offset) claim target more is in
    record {
      recorded = λ r found. (r, same ∙ found, at_least_itself r.offset);
      closed = λ q found at_end closed.
          absurd (true_or_false (is_last_write (remaining_at s.tree s.log target.offset)) (nothing_left s target q kept migrated targets (sym same ∙ found) at_end closed) more);
    }

pub write_leads : (s : Shared) (d : Driver) (claim : ℤ) (target : Recorded) (ops : List Op) (new : Tree) → IsSharedSound s → IsSoundDriver s d → WritesTo d.stage target ops → d.claim ≡ Some claim
    → multi s.tree (write_ops claim (remaining_at s.tree s.log target.offset) target) ≡ Ok new → WriteLeads s d new
write_leads s d claim target ops new kept fine writes claimed is =
    let holds : Holds s d target ops = holds_at s d d.stage target ops writes fine.stage in
    let current = taken_current s d claim target new fine claimed is in
    let records = records_by s d claim target new (is_last_write (remaining_at s.tree s.log target.offset)) refl kept holds.after.migrated (holds.writes current).targets
    (target_read s d target kept.log fine holds.aim) holds.aim.not_negative is in
    record {
      current = current;
      effect = record {
        version = write_keeps_version s.tree new (image_at s.log target.offset) claim target is;
        shown = write_keeps_shown s.tree new (image_at s.log target.offset) claim target is;
        recorded = records.recorded;
        closed = records.closed;
      };
    }
