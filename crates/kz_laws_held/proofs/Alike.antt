-- Metadata that returns is told by its rendering.
use Rattle.std.proofs.Common.{◌≡◌, pos, List, map, sym, ap, ◌∙◌, subst}
use Rattle.std.specs.Prelude.{Ok}
use Rattle.kz_types.specs.declared.record.MetaRecord.{MetaRecord}
use Rattle.kz_spec_data.specs.Metadata.{Image, empty_image}
use Rattle.kz_spec_data.specs.Image.{all_applied}
use Rattle.kz_spec_data.specs.Rendering.{render}
use Rattle.kz_spec_data.specs.Translation.{Translated, translate}
use Rattle.kz_laws_znodes.specs.RoundTrip.{new_znode, znodes_of, IsSameBut, Returns}

-- two that are the same as a third
both_same : (i j k : Image) → IsSameBut i k → IsSameBut j k → IsSameBut i j
both_same i j k a b = record {
  topics = sym b.topics ∙ a.topics;
  configs = sym b.configs ∙ a.configs;
  quotas = sym b.quotas ∙ a.quotas;
  users = sym b.users ∙ a.users;
  acls = λ row. sym (b.acls row) ∙ a.acls row;
}

same_records : (x y : List MetaRecord) (t : Translated) → t ≡ Ok x → t ≡ Ok y → x ≡ y
same_records x y t a b = cc

pub one_rendering : (i j : Image) → Returns i → Returns j → render i ≡ render j → IsSameBut i j
one_rendering i j a b same =
    let znodes : translate (znodes_of j) ≡ translate (znodes_of i) = ap (λ rs. translate (map new_znode rs)) (sym same) in
    let records : b.0 ≡ a.0 = same_records b.0 a.0 (translate (znodes_of i)) (sym znodes ∙ b.1) a.1 in
    both_same i j (all_applied (pos 0) a.0 empty_image) (a.2 (pos 0)) (subst (λ (rs : List MetaRecord). IsSameBut j (all_applied (pos 0) rs empty_image)) records (b.2 (pos 0)))
