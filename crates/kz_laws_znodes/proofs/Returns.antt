-- Metadata that is rendered is translated to records that make the same metadata.
use Rattle.std.proofs.Common.{◌≡◌, ◌+◌, ◌≤◌, ℤ, pos, nat_lt, false, List, [], length, map, None, sym, ap, ◌∙◌, subst, codes}
use Rattle.std.specs.Prelude.{Ok, Err, if◌then◌else◌}
use Rattle.std.proofs.lemmas.Bool.{le-ltb}
use Rattle.kz_types.specs.declared.limits.TheConstants.{MAX_EPOCH, MAX_RECORDS}
use Rattle.kz_types.specs.declared.tree.Row.{Row}
use Rattle.kz_types.specs.declared.record.MetaRecord.{MetaRecord}
use Rattle.kz_types.specs.declared.fault.ReadWhy.TheVariants as why
use Rattle.kz_spec_data.specs.Metadata.{Image, empty_image}
use Rattle.kz_spec_data.specs.Image.{all_applied}
use Rattle.kz_spec_data.specs.InOrder.{IsInOrder}
use Rattle.kz_spec_data.specs.Rendering.{excess_of, excess}
use Rattle.kz_spec_data.specs.Translation.{Translated, all_records, further_records, records_unless_excess, within_limits, translate}
use Rattle.kz_laws_znodes.specs.RoundTrip.{znodes_of, topic_without_epochs, IsWritable, MayReturn, IsSameBut}
use Rattle.kz_laws_znodes.proofs.Again.{are_rows, records_again}
use Rattle.kz_laws_znodes.proofs.SameTopics.{returned_same, topics_return, configs_return}
use Rattle.kz_laws_znodes.proofs.SameQuotas.{quotas_return, users_return}
use Rattle.kz_laws_znodes.proofs.SameAcls.{acls_return}
use Rattle.kz_laws_znodes.proofs.Limits.{returned_alike}
use Rattle.kz_laws_znodes.proofs.Says.{Says}
use Rattle.kz_laws_znodes.proofs.WholeZnodes.{Ends, translation_leads}

module _ (i : Image) (o : IsInOrder i) (w : IsWritable i) (m : MayReturn i) where
  abbrev rows : List Row
  rows = znodes_of i

  abbrev records : List MetaRecord
  records = (records_again i o w m).0

  are_records : all_records rows ≡ Ok records
  are_records = (records_again i o w m).1

  few : length records + further_records ≤ MAX_RECORDS
  few = m.records records are_records

  ends : (epoch : ℤ) → Ends epoch rows [] (pos 0) records empty_image
  ends epoch = translation_leads epoch rows [] (pos 0) records (are_rows i o w m) are_records few

  made : (epoch : ℤ) → all_applied epoch records empty_image ≡ (ends epoch).after
  made epoch = (ends epoch).leads.made

  same_of : (epoch : ℤ) (j : Image) → Says epoch rows [] (pos 0) rows j → IsSameBut i j
  same_of epoch j s = record {
    topics = ap (map topic_without_epochs) (topics_return i o w m epoch j.topics s.topics) ∙ returned_same epoch i.topics;
    configs = configs_return i o w m j.broker_configs s.configs;
    quotas = quotas_return i o w m j.quotas s.quotas;
    users = users_return i o w m j.users s.users;
    acls = acls_return i o w m j.acls s.entries;
  }

  same : (epoch : ℤ) → IsSameBut i (all_applied epoch records empty_image)
  same epoch = subst (IsSameBut i) (sym (made epoch)) (same_of epoch (ends epoch).after (ends epoch).says)

  within : excess (all_applied MAX_EPOCH records empty_image) ≡ None
  within =
      let e = ends MAX_EPOCH in
      ap excess (made MAX_EPOCH)
      ∙ ap excess_of (returned_alike i o w m e.after (topics_return i o w m MAX_EPOCH e.after.topics e.says.topics) (configs_return i o w m e.after.broker_configs e.says.configs)
      (quotas_return i o w m e.after.quotas e.says.quotas) (users_return i o w m e.after.users e.says.users) (acls_return i o w m e.after.acls e.says.entries) e.says.next)
      ∙ m.znodes

  not_over : nat_lt MAX_RECORDS (length records + further_records) ≡ false
  not_over = le-ltb MAX_RECORDS (length records + further_records) few

  translated : translate rows ≡ Ok records
  unfolding translate
  translated = ap within_limits are_records ∙ ap (λ x. records_unless_excess x records) within
      ∙ ap (λ t. if◌then◌else◌ {A = Translated} t (Err (record { path = codes "/brokers/topics"; why = why.Over 7 })) (Ok records)) not_over

  pub returns : (records : List MetaRecord) × (translate (znodes_of i) ≡ Ok records) × ((epoch : ℤ) → IsSameBut i (all_applied epoch records empty_image))
  returns = (records, translated, same)
