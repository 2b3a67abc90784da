-- Records applied one after another.
use Rattle.std.proofs.Common.{◌≡◌, ℕ, ◌+◌, ◌<◌, ℤ, ◌++◌, take, List, [], ◌∷◌, length, get_or, refl, sym, ap, ◌∙◌}
use Rattle.std.proofs.lemmas.List.{take_more}
use Rattle.kz_types.specs.declared.record.MetaRecord.{MetaRecord}
use Rattle.kz_spec_data.specs.Image.{Image, image_with, all_applied}

pub all_applied-append : (epoch : ℤ) (xs ys : List MetaRecord) (i : Image) → all_applied epoch (xs ++ ys) i ≡ all_applied epoch ys (all_applied epoch xs i)
all_applied-append epoch [] ys i = refl
all_applied-append epoch (x ∷ xs) ys i = all_applied-append epoch xs ys (image_with epoch x i)

-- one record more
pub applied_more : (epoch : ℤ) (xs : List MetaRecord) (n : ℕ) (x : MetaRecord) (i : Image) → n < length xs → x ≡ get_or xs n x → image_with epoch x (all_applied epoch (take n xs) i) ≡ all_applied epoch (take (n + 1) xs) i
applied_more epoch xs n x i h e =
    sym (all_applied-append epoch (take n xs) (x ∷ []) i)
    ∙ ap (λ ys. all_applied epoch ys i) (sym (take_more xs n x h ∙ ap (λ y. take n xs ++ y ∷ []) (sym e)))
