-- Metadata that translated records make keeps the limits at every epoch.
use Rattle.std.specs.Prelude.{◌≡◌, ℤ, pos, ◌≤ℤ◌, List, [], map, None, All}
use Rattle.kz_types.specs.declared.limits.TheConstants.{MAX_EPOCH}
use Rattle.kz_types.specs.declared.log.Entry.{Entry}
use Rattle.kz_types.specs.declared.record.MetaRecord.{MetaRecord}
use Rattle.kz_types.specs.declared.record.RegisterBrokerRecord.{RegisterBrokerRecord}
use Rattle.kz_spec_data.specs.Image.{Image, empty_image, all_applied}
use Rattle.kz_spec_data.specs.Log.{all_entries_applied}
use Rattle.kz_spec_data.specs.Rendering.{excess}
use Rattle.kz_spec_machine.specs.Sound.{IsTranslated}

-- The epoch of a record is from 0 to the greatest.
pub record HasEpoch (e : Entry) : Type 0 where
  pub least : pos 0 ≤ℤ e.epoch
  pub most : e.epoch ≤ℤ MAX_EPOCH

-- Metadata that holds nothing but brokers and a state of the migration.
pub record IsBare (i : Image) : Type 0 where
  pub topics : i.topics ≡ []
  pub configs : i.broker_configs ≡ []
  pub quotas : i.quotas ≡ []
  pub users : i.users ≡ []
  pub acls : i.acls ≡ []
  pub next : i.next_producer ≡ None

abbrev pub item_of : Entry → MetaRecord
item_of e = e.item

-- Records of a translation that make metadata within the limits at the greatest epoch make such metadata at all epochs, from
-- metadata that holds nothing but brokers and a state.
abbrev pub TranslatedKeepLimits : Type 0
TranslatedKeepLimits = (es : List Entry) (i : Image) → IsBare i → All (λ (e : Entry). IsTranslated e.item) es → All HasEpoch es → excess (all_applied MAX_EPOCH (map item_of es) empty_image) ≡ None → excess (all_entries_applied es i) ≡ None

-- Metadata that holds nothing but brokers and a state keeps the limits.
abbrev pub BareKeepsLimits : Type 0
BareKeepsLimits = (i : Image) → IsBare i → excess i ≡ None

-- The brokers and the state of the migration pass no limit.
abbrev pub OthersKeepLimits : Type 0
OthersKeepLimits = (i : Image) (brokers : List RegisterBrokerRecord) (state : ℤ) → excess (record i { brokers = brokers; state = state }) ≡ excess i
