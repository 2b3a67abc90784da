-- What a record leaves of each list of the metadata, where it doesn't speak of an entry.
use Rattle.std.proofs.Common.{◌≡◌, ◌≢◌, ℕ, ℤ, Bool, true, false, not, cond, List, [], ◌∷◌, Option, Some, None, Contains, refl, sym, ap, ◌∙◌, subst, inl, inr}
use Rattle.kz_types.specs.declared.id.Id.{Id}
use Rattle.kz_types.specs.declared.image.TopicEntry.{TopicEntry}
use Rattle.kz_types.specs.declared.record.MetaRecord.{MetaRecord}
use Rattle.kz_types.specs.declared.image_fault.ImageRule.{ImageRule}
use Rattle.kz_types.specs.Order.{bytes_cmp}
use Rattle.kz_types.specs.Ordered.{find, Rises}
use Rattle.kz_types.proofs.Order.{bytes_order}
use Rattle.kz_types.proofs.Lookup.{find-put_other, find-without_other, Contains-head, Contains-tail}
use Rattle.kz_types.proofs.Maps.{find-filter_found, find-filter_absent}
use Rattle.kz_spec_data.specs.Metadata.{Image, name_of_topic, same_id}
use Rattle.kz_spec_data.specs.ImageRules.{broken_rule}
use Rattle.kz_spec_data.specs.Image.{with_changed, without_topic, effect, unless_broken}
use Rattle.kz_spec_data.specs.InOrder.{IsInOrder}
use Rattle.kz_laws_znodes.proofs.Entries.{Holds}
use Rattle.kz_laws_znodes.proofs.KeptImages.{kept}
use Rattle.kz_laws_znodes.proofs.TopicFinds.{same_id-Decides}
use Rattle.kz_laws_znodes.proofs.ImageTopics.{LeavesKeys}
use Rattle.kz_spec_data.specs.Touched.{Lead}

-- ---- entries with members

module _ {A B : Type 0} {key : A → List ℕ} {members : A → List B} {make : List ℕ → List B → A} {changed : List ℕ → List B → List A → List A} (holds : Holds key members make changed) where
  pub found_elsewhere : (k j : List ℕ) (ms : List B) (xs : List A) → k ≢ j → find bytes_cmp key k (changed j ms xs) ≡ find bytes_cmp key k xs
  found_elsewhere k j [] xs ne = ap (find bytes_cmp key k) (holds.none j xs) ∙ find-without_other bytes_order key j xs k ne
  found_elsewhere k j (m ∷ ms) xs ne = ap (find bytes_cmp key k) (holds.some j m ms xs) ∙ find-put_other bytes_order key (make j (m ∷ ms)) xs k (λ e. ne (e ∙ holds.key_made j (m ∷ ms)))

-- ---- topics

module _ (name : List ℕ) where
  pub changed_elsewhere : (change : TopicEntry → TopicEntry) → LeavesKeys change → (found : Option TopicEntry) (xs : List TopicEntry) → ((t : TopicEntry) → found ≡ Some t → name ≢ t.name)
      → find bytes_cmp name_of_topic name (with_changed change found xs) ≡ find bytes_cmp name_of_topic name xs
  changed_elsewhere change leaves None xs other = refl
  changed_elsewhere change leaves (Some t) xs other = find-put_other bytes_order name_of_topic (change t) xs name (λ e. other t refl (e ∙ leaves.named t))

  pub removed_elsewhere : (id : Id) (xs : List TopicEntry) → Rises bytes_cmp name_of_topic xs → ((t : TopicEntry) → find bytes_cmp name_of_topic name xs ≡ Some t → t.id ≢ id)
      → find bytes_cmp name_of_topic name (without_topic id xs) ≡ find bytes_cmp name_of_topic name xs
  removed_elsewhere id xs rises other = by (find bytes_cmp name_of_topic name xs) refl
    where
      stays : (b : Bool) (t : TopicEntry) → (b ≡ true → t.id ≡ id) → t.id ≢ id → cond (not b) (Some t) None ≡ Some t
      stays true t is ne = absurd (ne (is refl))
      stays false t is ne = refl

      by : (found : Option TopicEntry) → find bytes_cmp name_of_topic name xs ≡ found → find bytes_cmp name_of_topic name (without_topic id xs) ≡ find bytes_cmp name_of_topic name xs
      by None e = find-filter_absent bytes_order name_of_topic (λ (t : TopicEntry). not (same_id t.id id)) name xs e ∙ sym e
      by (Some t) e =
          find-filter_found bytes_order name_of_topic (λ (t : TopicEntry). not (same_id t.id id)) name xs t rises e ∙ stays (same_id t.id id) t (same_id-Decides t.id id).0 (other t e) ∙ sym e

-- ---- along records

-- what stays under each record that is taken in, stays under all of them
pub stays_along : {X : Type 0} (look : Image → X) (was : X) (spares : MetaRecord → Type 0)
    → ((m : Image) (epoch : ℤ) (r : MetaRecord) → IsInOrder m → look m ≡ was → spares r → broken_rule m r ≡ None → look (effect epoch r m) ≡ look m)
    → (rs : List MetaRecord) (m n : Image) → IsInOrder m → look m ≡ was → ((r : MetaRecord) → Contains rs r → spares r) → Lead m rs n → look n ≡ was
stays_along look was spares step [] m n order is spared lead = ap look lead ∙ is
stays_along look was spares step (r ∷ rs) m n order is spared lead =
    elim lead.1 [
      | inl same ↦ stays_along look was spares step rs lead.0 n (subst IsInOrder (sym same) order) (ap look same ∙ is) (λ s has. spared s (Contains-tail r rs s has)) lead.2
      | inr taken ↦
          let after = one_step taken.0 (broken_rule m r) refl in
          stays_along look was spares step rs lead.0 n (subst IsInOrder (sym taken.1) after.0) (ap look taken.1 ∙ after.1) (λ s has. spared s (Contains-tail r rs s has)) lead.2
    ]
  where
    one_step : (epoch : ℤ) (rule : Option ImageRule) → broken_rule m r ≡ rule → IsInOrder (unless_broken rule (effect epoch r m) m) × (look (unless_broken rule (effect epoch r m) m) ≡ was)
    one_step epoch None fine = (kept m order epoch r fine, step m epoch r order is (spared r (Contains-head r rs)) fine ∙ is)
    one_step epoch (Some rule) broken = (order, is)
