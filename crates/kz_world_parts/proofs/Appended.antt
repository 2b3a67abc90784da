-- What the world knows of the log once records were appended that were judged.
use Rattle.std.proofs.Common.{◌≡◌, false, ℤ, List, Option, Some, None, All, Ok, refl, sym, ap, ◌∙◌, subst}
use Rattle.std.specs.Prelude.{nat_le, length, IfNone, IfSome}
use Rattle.kz_types.specs.declared.limits.TheConstants.{MAX_CHANGE_RECORDS}
use Rattle.kz_types.specs.declared.limits.Limit.TheVariants as limits
use Rattle.kz_types.specs.Limits.{number_of_limit}
use Rattle.kz_types.specs.declared.machine.Answer.TheVariants as answer
use Rattle.kz_types.specs.declared.plan.Plan.{Plan}
use Rattle.kz_types.specs.declared.record.MetaRecord.{MetaRecord}
use Rattle.kz_types.specs.declared.record.MetaRecord.TheVariants as meta
use Rattle.kz_spec_data.specs.Image.{Image, Bad, all_applied, first_bad, is_migrated_state}
use Rattle.kz_spec_data.specs.ImageRules.{is_kept_back}
use Rattle.kz_spec_data.specs.Log.{Log, View, IsLog, IsViewOf, append, end_of}
use Rattle.kz_spec_data.specs.Rendering.{excess}
use Rattle.kz_spec_machine.specs.Driver.{Driver}
use Rattle.kz_spec_machine.specs.Machine.{unless, first_of, over, over_excess, bad_record}
use Rattle.kz_laws_machine.proofs.Asked.{asked_all}
use Rattle.kz_log.specs.ViewLaws.{IsNoMarker}
use Rattle.kz_log.proofs.Appended.{appended_is_view}
use Rattle.kz_log.proofs.Views.{append_leaves_views}
use Rattle.kz_world_parts.specs.Refusals.{records_refusal}
use Rattle.kz_world_parts.specs.Worlds.{IsKept}
use Rattle.kz_world_parts.proofs.Outcomes.{first_none}

-- ---- records that are accepted

others_unmarked : (r : MetaRecord) → is_kept_back r ≡ false → IsNoMarker r
others_unmarked (meta.BeginTransaction name) is = absurd (cc)
others_unmarked meta.EndTransaction is = absurd (cc)
others_unmarked (meta.AbortTransaction reason) is = absurd (cc)
others_unmarked r is = refl

none_bad : (b : Option Bad) → bad_record b ≡ None → b ≡ None
none_bad None h = refl
none_bad (Some bad) h = absurd (cc)

-- none of them is a marker
accepted_unmarked : (epoch : ℤ) (i : Image) (records : List MetaRecord) → records_refusal epoch i records ≡ None → All IsNoMarker records
accepted_unmarked epoch i records none =
    let bad = bad_record (first_bad 0 records i) in
    let much = over_excess (excess (all_applied epoch records i)) in
    let many = unless (nat_le (length records) MAX_CHANGE_RECORDS) (over (number_of_limit limits.ChangeRecords)) in
    let migrated = first_none (unless (is_migrated_state i.state) answer.NotMigrated) (first_of many (first_of bad much)) none in
    let few = first_none many (first_of bad much) migrated.1 in
    asked_all IsNoMarker others_unmarked 0 records i (none_bad (first_bad 0 records i) (first_none bad much few.1).0)

-- ---- the view

abbrev pub put : ℤ → ℤ → Image → View → View
put position epoch image v = record v { position = position; epoch = epoch; image = image }

module _ (l new : Log) (v : View) (position epoch now : ℤ) (records : List MetaRecord) (made : Image) (k : IsLog l) (is : IsViewOf l v) (at : v.position ≡ end_of l)
    (accepted : records_refusal l.epoch v.image records ≡ None) (applied : made ≡ all_applied l.epoch records v.image) (ok : append l l.epoch now records ≡ Ok new) (end : position ≡ end_of new) (led : epoch ≡ l.epoch) where
  taken_by : (begun : Option ℤ) → v.begun ≡ begun → (taken : View) → IfNone begun (taken ≡ put position epoch made v) → IfSome begun (λ _. taken ≡ v) → IsViewOf new taken
  taken_by None none taken is_put still =
      let same : taken ≡ put (end_of new) l.epoch (all_applied l.epoch records v.image) v =
      is_put ∙ ap (λ o. put o epoch made v) end ∙ ap (λ e. put (end_of new) e made v) led ∙ ap (λ i. put (end_of new) l.epoch i v) applied in
      subst (IsViewOf new) (sym same) (appended_is_view l new v l.epoch now records k is at none (accepted_unmarked l.epoch v.image records accepted) ok)
  taken_by (Some from) some taken is_put still = subst (IsViewOf new) (sym still) (append_leaves_views l new v l.epoch now records k is ok)

  -- a view that takes what was appended is one of the log
  pub taken_is_view : (taken : View) → IfNone v.begun (taken ≡ put position epoch made v) → IfSome v.begun (λ _. taken ≡ v) → IsViewOf new taken
  taken_is_view = taken_by v.begun refl

  -- so is one that another takes, which is the same
  pub taken_from : (other taken : View) → other ≡ v → IfNone other.begun (taken ≡ put position epoch made other) → IfSome other.begun (λ _. taken ≡ other) → IsViewOf new taken
  taken_from other taken same none some =
      taken_is_view taken (subst (λ (x : View). IfNone x.begun (taken ≡ put position epoch made x)) same none) (subst (λ (x : View). IfSome x.begun (λ _. taken ≡ x)) same some)

-- another view of the log
pub kept_with : (tree log : Plan) (l : Log) (own other : View) (ds : List Driver) → IsViewOf l other → IsKept tree log l own ds → IsKept tree log l other ds
kept_with tree log l own other ds view h = record { tree_delivers = h.tree_delivers; log_delivers = h.log_delivers; distinct = h.distinct; own = view; each = h.each }
