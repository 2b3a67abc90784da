-- A metadata in order stays so under records, and what each record says is what all say, one after another.
use Rattle.std.proofs.Common.{◌≡◌, ℤ, Bool, true, false, cond, List, [], ◌∷◌, Option, Some, None, refl, ap, ◌∙◌}
use Rattle.std.specs.Prelude.{pos, int_le, ◌&&◌}
use Rattle.std.specs.Ordering.{int_eq}
use Rattle.kz_types.specs.declared.log.Entry.{Entry}
use Rattle.kz_types.specs.declared.image.TopicEntry.{TopicEntry}
use Rattle.kz_types.specs.declared.image.Configuration.{Configuration}
use Rattle.kz_types.specs.declared.image_fault.ImageRule.{ImageRule}
use Rattle.kz_types.specs.declared.record.MetaRecord.{MetaRecord}
use Rattle.kz_types.specs.declared.record.MetaRecord.TheVariants as meta
use Rattle.kz_types.specs.declared.record.ConfigRecord.{ConfigRecord}
use Rattle.kz_spec_data.specs.Metadata.{Image, topic_named}
use Rattle.kz_spec_data.specs.ImageRules.{broken_rule}
use Rattle.kz_spec_data.specs.Image.{with_changed, topic_configured, configurations_after, effect, unless_broken, image_with, all_applied}
use Rattle.kz_spec_data.specs.InOrder.{IsInOrder}
use Rattle.kz_spec_data.specs.Settlement.{counting_records}
use Rattle.kz_spec_data.specs.Log.{Log, entries, all_entries_applied, image_at}
use Rattle.kz_laws_znodes.specs.Said.{before_unless_broken, acceptable_records, value_by_records, accepted_entries, said_by_entries}
use Rattle.kz_laws_znodes.specs.ImageLaws.{IsWhatIsSaid}
use Rattle.kz_laws_znodes.proofs.KeptImages.{kept}

applied_by : (epoch : ℤ) (r : MetaRecord) (i : Image) (found : Option ImageRule) → broken_rule i r ≡ found → IsInOrder i → IsInOrder (unless_broken found (effect epoch r i) i)
applied_by epoch r i None e order = kept i order epoch r e
applied_by epoch r i (Some rule) e order = order

pub applied_keeps : (epoch : ℤ) (r : MetaRecord) (i : Image) → IsInOrder i → IsInOrder (image_with epoch r i)
applied_keeps epoch r i order = applied_by epoch r i (broken_rule i r) refl order

pub all_applied_keeps : (epoch : ℤ) (rs : List MetaRecord) (i : Image) → IsInOrder i → IsInOrder (all_applied epoch rs i)
all_applied_keeps epoch [] i order = order
all_applied_keeps epoch (r ∷ rs) i order = all_applied_keeps epoch rs (image_with epoch r i) (applied_keeps epoch r i order)

-- an accepted record says by this word what is looked up after it
abbrev pub IsStep : {V : Type 0} → (Image → V) → (ℤ → MetaRecord → V → V) → Type 0
IsStep look word = (epoch : ℤ) (r : MetaRecord) (i : Image) → IsInOrder i → broken_rule i r ≡ None → look (effect epoch r i) ≡ word epoch r (look i)

-- what a record says unless it breaks a rule
abbrev said_unless_broken : {V : Type 0} → Option ImageRule → V → V → V
said_unless_broken None says before = says
said_unless_broken (Some rule) says before = before

module _ {V : Type 0} (look : Image → V) (word : ℤ → MetaRecord → V → V) (step : IsStep look word) where
  applied_says_by : (epoch : ℤ) (r : MetaRecord) (i : Image) (found : Option ImageRule) → broken_rule i r ≡ found → IsInOrder i → look (unless_broken found (effect epoch r i) i) ≡ said_unless_broken found (word epoch r (look i)) (look i)
  applied_says_by epoch r i None e order = step epoch r i order e
  applied_says_by epoch r i (Some rule) e order = refl

  applied_says : (epoch : ℤ) (r : MetaRecord) (i : Image) → IsInOrder i → look (image_with epoch r i) ≡ said_unless_broken (broken_rule i r) (word epoch r (look i)) (look i)
  applied_says epoch r i order = applied_says_by epoch r i (broken_rule i r) refl order

  first_said : (epoch : ℤ) (found : Option ImageRule) (r : MetaRecord) (rs : List MetaRecord) (v : V) → value_by_records (word epoch) rs (said_unless_broken found (word epoch r v) v) ≡ value_by_records (word epoch) (before_unless_broken found r rs) v
  first_said epoch None r rs v = refl
  first_said epoch (Some rule) r rs v = refl

  first_entry_said : (found : Option ImageRule) (e : Entry) (es : List Entry) (v : V) → said_by_entries word es (said_unless_broken found (word e.epoch e.item v) v) ≡ said_by_entries word (before_unless_broken found e es) v
  first_entry_said None e es v = refl
  first_entry_said (Some rule) e es v = refl

  all_said : (epoch : ℤ) (rs : List MetaRecord) (i : Image) → IsInOrder i → look (all_applied epoch rs i) ≡ value_by_records (word epoch) (acceptable_records epoch rs i) (look i)
  all_said epoch [] i order = refl
  all_said epoch (r ∷ rs) i order =
      let rest = acceptable_records epoch rs (image_with epoch r i) in
      all_said epoch rs (image_with epoch r i) (applied_keeps epoch r i order) ∙ ap (value_by_records (word epoch) rest) (applied_says epoch r i order) ∙ first_said epoch (broken_rule i r) r rest (look i)

  entries_said : (es : List Entry) (i : Image) → IsInOrder i → look (all_entries_applied es i) ≡ said_by_entries word (accepted_entries es i) (look i)
  entries_said [] i order = refl
  entries_said (e ∷ es) i order =
      let rest = accepted_entries es (image_with e.epoch e.item i) in
      entries_said es (image_with e.epoch e.item i) (applied_keeps e.epoch e.item i order) ∙ ap (said_by_entries word rest) (applied_says e.epoch e.item i order) ∙ first_entry_said (broken_rule i e.item) e rest (look i)

  log_says : (l : Log) (at : ℤ) → IsInOrder l.base_image → look (image_at l at) ≡ said_by_entries word (accepted_entries (counting_records (entries l.batches) at) l.base_image) (look l.base_image)
  unfolding image_at
  log_says l at order = entries_said (counting_records (entries l.batches) at) l.base_image order

  pub is_said : IsWhatIsSaid look word
  is_said = record { after_records = all_said; in_logs = log_says }

-- ---- records whose effect goes by a test

module _ {V : Type 0} (look : Image → V) (v : V) (i : Image) where
  pub either_config : (b : Bool) (topics : List TopicEntry) (configs : List Configuration) → look (record i { topics = topics }) ≡ v → look (record i { broker_configs = configs }) ≡ v
      → look (cond b (record i { topics = topics }) (record i { broker_configs = configs })) ≡ v
  either_config true topics configs h g = h
  either_config false topics configs h g = g

  -- what a configuration leaves
  pub config_leaves : (epoch : ℤ) (r : ConfigRecord) → ((topics : List TopicEntry) → look (record i { topics = topics }) ≡ v) → ((configs : List Configuration) → look (record i { broker_configs = configs }) ≡ v)
      → look (effect epoch (meta.Config r) i) ≡ v
  config_leaves epoch r h g = either_config (int_eq r.resource_type (pos 2)) (with_changed (topic_configured r) (topic_named r.resource_name i) i.topics) (configurations_after r i.broker_configs) (h _) (g _)

  either_state : (b : Bool) (state : ℤ) → look (record i { state = state }) ≡ v → look i ≡ v → look (cond b (record i { state = state }) i) ≡ v
  either_state true state h g = h
  either_state false state h g = g

  -- what a state of the migration leaves
  pub state_leaves : (epoch state : ℤ) → look (record i { state = state }) ≡ v → look i ≡ v → look (effect epoch (meta.ZkMigrationState state) i) ≡ v
  state_leaves epoch state h g = either_state (int_le (pos 0) state && int_le state (pos 3)) state h g
