-- Records that are accepted one after another, and the metadata that they make.
use Rattle.std.proofs.Common.{◌≡◌, ℤ, false, List, [], ◌∷◌, ◌++◌, map, Some, None, Ordering, All, refl, sym, ap, ◌∙◌, subst, append_assoc, append-nil, if◌then◌else◌}
use Rattle.std.specs.Prelude.{⊤}
use Rattle.std.proofs.lemmas.List.Elements.{All-head, All-tail}
use Rattle.kz_types.specs.declared.image_fault.ImageRule.TheVariants.{NotAllowed}
use Rattle.kz_types.specs.declared.record.MetaRecord.{MetaRecord}
use Rattle.kz_types.specs.Order.{TotalOrder}
use Rattle.kz_types.specs.Ordered.{Rises, AllBelow}
use Rattle.kz_types.proofs.Append.{below_split}
use Rattle.kz_spec_data.specs.Metadata.{Image}
use Rattle.kz_spec_data.specs.Image.{effect, unless_broken, image_with, all_applied}
use Rattle.kz_spec_data.specs.ImageRules.{is_misnamed, lacks, repeats, is_misvalued, is_kept_back, broken_rule, rule_against}

-- each of these records is accepted, in batches of this epoch
abbrev pub Accepted : ℤ → List MetaRecord → Image → Type 0
Accepted epoch [] i = ⊤
Accepted epoch (r ∷ rs) i = (rule_against i r ≡ None) × Accepted epoch rs (image_with epoch r i)

-- Each of these records is accepted, and together they make the second metadata of the first.
pub record Leads (epoch : ℤ) (rs : List MetaRecord) (i j : Image) : Type 0 where
  pub accepted : Accepted epoch rs i
  pub made : all_applied epoch rs i ≡ j

-- A record that breaks no rule.
pub record Keeps (i : Image) (r : MetaRecord) : Type 0 where
  pub plain : is_kept_back r ≡ false
  pub named : is_misnamed r ≡ false
  pub there : lacks i r ≡ false
  pub new : repeats i r ≡ false
  pub valued : is_misvalued i r ≡ false

pub unbroken : (i : Image) (r : MetaRecord) → is_misnamed r ≡ false → lacks i r ≡ false → repeats i r ≡ false → is_misvalued i r ≡ false → broken_rule i r ≡ None
unfolding broken_rule
unbroken i r named there new valued = rw (named, there, new, valued) refl

unbroken_by : (i : Image) (r : MetaRecord) → Keeps i r → broken_rule i r ≡ None
unbroken_by i r k = unbroken i r k.named k.there k.new k.valued

unrefused : (i : Image) (r : MetaRecord) → Keeps i r → rule_against i r ≡ None
unrefused i r k = ap (λ b. if b then Some NotAllowed else broken_rule i r) k.plain ∙ unbroken_by i r k

pub leads_one : (epoch : ℤ) (i : Image) (r : MetaRecord) → Keeps i r → Leads epoch (r ∷ []) i (effect epoch r i)
leads_one epoch i r k = record { accepted = (unrefused i r k, tt); made = ap (λ o. unless_broken o (effect epoch r i) i) (unbroken_by i r k) }

pub leads_none : (epoch : ℤ) (i : Image) → Leads epoch [] i i
leads_none epoch i = record { accepted = tt; made = refl }

applied_append : (epoch : ℤ) (rs ss : List MetaRecord) (i : Image) → all_applied epoch (rs ++ ss) i ≡ all_applied epoch ss (all_applied epoch rs i)
applied_append epoch [] ss i = refl
applied_append epoch (r ∷ rs) ss i = applied_append epoch rs ss (image_with epoch r i)

accepted_append : (epoch : ℤ) (rs ss : List MetaRecord) (i : Image) → Accepted epoch rs i → Accepted epoch ss (all_applied epoch rs i) → Accepted epoch (rs ++ ss) i
accepted_append epoch [] ss i a b = b
accepted_append epoch (r ∷ rs) ss i a b = (a.0, accepted_append epoch rs ss (image_with epoch r i) a.1 b)

pub leads_append : (epoch : ℤ) (rs ss : List MetaRecord) (i j k : Image) → Leads epoch rs i j → Leads epoch ss j k → Leads epoch (rs ++ ss) i k
leads_append epoch rs ss i j k a b = record {
  accepted = accepted_append epoch rs ss i a.accepted (subst (Accepted epoch ss) (sym a.made) b.accepted);
  made = applied_append epoch rs ss i ∙ ap (all_applied epoch ss) a.made ∙ b.made;
}

pub leads_to : (epoch : ℤ) (rs : List MetaRecord) (i j k : Image) → j ≡ k → Leads epoch rs i j → Leads epoch rs i k
leads_to epoch rs i j k e l = record { accepted = l.accepted; made = l.made ∙ e }

-- a record for each item of a list that rises, where each leads from what the items before it make to one item more
module _ {A K : Type 0} {cmp : K → K → Ordering} (o : TotalOrder cmp) (key : A → K) (epoch : ℤ) (record_of : A → MetaRecord) (state : List A → Image) (Good : A → Type 0)
    (one : (done : List A) (a : A) → AllBelow cmp key done (key a) → Good a → Leads epoch (record_of a ∷ []) (state done) (state (done ++ a ∷ []))) where
  pub leads_each : (done todo : List A) → Rises cmp key (done ++ todo) → All Good todo → Leads epoch (map record_of todo) (state done) (state (done ++ todo))
  leads_each done [] h good = subst (λ items. Leads epoch [] (state done) (state items)) (sym (append-nil done)) (leads_none epoch (state done))
  leads_each done (a ∷ todo) h good =
      let whole : (done ++ a ∷ []) ++ todo ≡ done ++ a ∷ todo = append_assoc done (a ∷ []) todo in
      leads_append epoch (record_of a ∷ []) (map record_of todo) (state done) (state (done ++ a ∷ [])) (state (done ++ a ∷ todo))
      (one done a (below_split o key done a todo h) (All-head Good a todo good))
      (subst (λ items. Leads epoch (map record_of todo) (state (done ++ a ∷ [])) (state items)) whole
      (leads_each (done ++ a ∷ []) todo (subst (Rises cmp key) (sym whole) h) (All-tail Good a todo good)))
