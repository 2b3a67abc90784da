-- What a driver that writes will record, and what it holds.
use Rattle.std.proofs.Common.{◌≡◌, inl, inr, ℕ, ℤ, pos, ◌≤ℤ◌, int_le, true, List, [], ◌∷◌, Option, Some, None, All, refl, sym, ap, ◌∙◌, subst, map, arith}
use Rattle.std.specs.Prelude.{option_and_then}
use Rattle.std.specs.Result.{result_ok}
use Rattle.std.proofs.lemmas.Int.{ints}
use Rattle.std.proofs.lemmas.List.Elements.{All-head}
use Rattle.kz_types.specs.declared.limits.TheConstants.{MAX_LONG}
use Rattle.kz_types.specs.declared.tree.Row.{Row}
use Rattle.kz_types.specs.declared.tree.Op.{Op}
use Rattle.kz_types.specs.declared.tree.Rendered.{Rendered}
use Rattle.kz_types.specs.declared.driver.Stage.{Stage}
use Rattle.kz_types.specs.declared.driver.Stage.TheVariants as stage
use Rattle.kz_types.specs.declared.machine.Recorded.{Recorded}
use Rattle.kz_types.specs.Order.{bytes_cmp}
use Rattle.kz_types.specs.Ordered.{find, Rises}
use Rattle.kz_types.specs.Difference.{Edit, drop_key, make, alter, difference}
use Rattle.kz_types.specs.Edits.{IsDue}
use Rattle.kz_types.proofs.Order.{bytes_order}
use Rattle.kz_types.proofs.Edits.{each_is_due}
use Rattle.kz_spec_data.specs.Control.{recorded_of, written_recorded}
use Rattle.kz_spec_data.specs.Tree.{Tree, migration_record, has_offset, unclosed_path, path_of_rendered}
use Rattle.kz_spec_data.specs.Log.{Log, View, IsViewOf, end_of}
use Rattle.kz_spec_data.specs.Difference.{same_body, op_of, diff}
use Rattle.kz_spec_machine.specs.Driver.{Shared, Driver}
use Rattle.kz_spec_machine.specs.Sound.{IsId, LogShape, IsCurrent, IsAfterMigration, IsTargetOf, Writes, AtStage, IsSoundDriver}
use Rattle.kz_laws_values.proofs.Control.{recorded_is_read}
use Rattle.kz_laws_machine.proofs.Ends.{base_within, batch_end_within, end_most}
use Rattle.kz_laws_machine.proofs.Later.{closed_is}
use Rattle.kz_laws_machine.proofs.Render.{decides_body}
use Rattle.kz_laws_machine.proofs.Numbers.{weaker, less_then, at_most_then}
use Rattle.kz_laws_events.specs.Steps.{WritesTo}
use Rattle.kz_laws_events.proofs.Tests.{true_or_false, epoch_of}

-- ---- the position of a view

pub view_within : (l : Log) (v : View) → LogShape l → IsViewOf l v → v.position ≤ℤ end_of l
view_within l v shape (inl passed) = weaker v.position (end_of l) (less_then v.position l.base (end_of l) passed (base_within l shape))
view_within l v shape (inr at) = batch_end_within l v.position shape (record { before = at.end.0; after = at.end.1; among = at.end.2 })

-- ---- what the driver records is read as it was written

pub target_read : (s : Shared) (d : Driver) (target : Recorded) → LogShape s.log → IsSoundDriver s d → IsTargetOf target d.id d.epoch d.view → recorded_of (written_recorded target) ≡ Some target
target_read s d target shape fine aim =
    let id : IsId target.id = subst IsId (sym aim.id) fine.id in
    let epoch = epoch_of s.log.epoch d.epoch target.controller_epoch fine.epochs aim.controller_epoch in
    let within = at_most_then d.view.position (end_of s.log) MAX_LONG (view_within s.log d.view shape fine.views.view) (end_most s.log shape) in
    ap result_ok (recorded_is_read target (record {
      id = (id.least, id.most);
      controller_epoch = (epoch.least, epoch.most);
      offset = (let low = aim.not_negative in omega (arith, ints, low), subst (λ (o : ℤ). o ≤ℤ MAX_LONG) (sym aim.offset) within);
      epoch = (let low = aim.epoch.least in omega (arith, ints, low), aim.epoch.most);
    }))

-- ---- a closed tree records an offset

not_negative : (n : ℤ) → int_le (pos 0) n ≡ true → pos 0 ≤ℤ n
not_negative n is = grind (arith, ints)

offset_of : (m : Option Recorded) (r : Recorded) → m ≡ Some r → has_offset m ≡ true → pos 0 ≤ℤ r.offset
offset_of m r is has = not_negative r.offset (sym (ap has_offset is) ∙ has)

pub closed_offset : (t : Tree) (r : Recorded) → migration_record t ≡ Some r → unclosed_path t ≡ None → pos 0 ≤ℤ r.offset
closed_offset t r is closed =
    let c = closed_is t closed in
    offset_of (recorded_of c.row.body) r (sym (ap (option_and_then (λ (x : Row). recorded_of x.body)) c.found) ∙ is) c.offset

-- ---- nothing lies between a list and itself

found_or_not : (m : Option Rendered) (y : Rendered) → m ≡ Some y → m ≡ None → ⊥
found_or_not m y some none = cc

same_found : (m : Option Rendered) (x y : Rendered) → m ≡ Some y → m ≡ Some x → y ≡ x
same_found m x y one two = cc

not_due : (a : List Rendered) (e : Edit Rendered (List ℕ)) → IsDue bytes_cmp path_of_rendered same_body a a e → ⊥
not_due a (drop_key k) due = found_or_not (find bytes_cmp path_of_rendered k a) due.0 due.1 due.2
not_due a (make x) due = found_or_not (find bytes_cmp path_of_rendered x.path a) x due.1 due.0
not_due a (alter x) due =
    let same = same_found (find bytes_cmp path_of_rendered x.path a) x due.0 due.1 due.2 in
    true_or_false (same_body due.0 x) (ap (same_body due.0) (sym same) ∙ decides_body.itself due.0) due.3

no_edits : (a : List Rendered) (es : List (Edit Rendered (List ℕ))) → All (IsDue bytes_cmp path_of_rendered same_body a a) es → es ≡ []
no_edits a [] due = refl
no_edits a (e ∷ es) due = absurd (not_due a e (All-head (IsDue bytes_cmp path_of_rendered same_body a a) e es due))

pub nothing_between : (a : List Rendered) → Rises bytes_cmp path_of_rendered a → diff a a ≡ []
unfolding diff
nothing_between a rise = ap (map op_of) (no_edits a (difference bytes_cmp path_of_rendered same_body a a) (each_is_due bytes_order path_of_rendered same_body a a rise rise))

-- ---- what a driver that writes holds

pub record Holds (s : Shared) (d : Driver) (target : Recorded) (ops : List Op) : Type 0 where
  pub after : IsAfterMigration s.log d.claim
  pub aim : IsTargetOf target d.id d.epoch d.view
  pub writes : IsCurrent s.tree d.claim → Writes s.tree s.log target ops

pub holds_at : (s : Shared) (d : Driver) (x : Stage) (target : Recorded) (ops : List Op) → WritesTo x target ops → AtStage s.tree s.log d x → Holds s d target ops
holds_at s d stage.Uninitialized target ops w at = absurd w
holds_at s d stage.Inactive target ops w at = absurd w
holds_at s d stage.WaitForControllerQuorum target ops w at = absurd w
holds_at s d stage.WaitForBrokers target ops w at = absurd w
holds_at s d stage.ListBrokers target ops w at = absurd w
holds_at s d stage.ReadControlZnodes target ops w at = absurd w
holds_at s d (stage.ClaimLeadership seen) target ops w at = absurd w
holds_at s d (stage.ScanForMigration rows) target ops w at = absurd w
holds_at s d (stage.BeginMigration rows) target ops w at = absurd w
holds_at s d (stage.AppendRecords records) target ops w at = absurd w
holds_at s d stage.ReadLogForResync target ops w at = absurd w
holds_at s d (stage.ScanForResync to rows) target ops w at = absurd w
holds_at s d (stage.WriteResync to held) target ops w at = subst (λ (x : Recorded). Holds s d x ops) w.0 (subst (Holds s d to) w.1 (record { after = at.0; aim = at.1; writes = at.2 }))
holds_at s d stage.KraftControllerToBrokerComm target ops w at = absurd w
holds_at s d stage.DualWrite target ops w at = absurd w
holds_at s d (stage.WriteDelta to held) target ops w at = subst (λ (x : Recorded). Holds s d x ops) w.0 (subst (Holds s d to) w.1 (record { after = at.0; aim = at.1; writes = at.2 }))
