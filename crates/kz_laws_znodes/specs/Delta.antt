-- The keys at which two metadata differ, and the paths at which their renderings do.
use Rattle.std.specs.Prelude.{◌≡◌, ℕ, true, List, Contains}
use Rattle.kz_types.specs.declared.key.EntityKey.{EntityKey}
use Rattle.kz_types.specs.declared.tree.Rendered.{Rendered}
use Rattle.kz_types.specs.Paths.{is_legal}
use Rattle.kz_types.specs.Order.{bytes_cmp}
use Rattle.kz_types.specs.Ordered.{Rises}
use Rattle.kz_types.specs.Covering.{at_keys}
use Rattle.kz_spec_data.specs.Tree.{path_of_rendered}
use Rattle.kz_spec_data.specs.Metadata.{Image}
use Rattle.kz_spec_data.specs.InOrder.{IsInOrder}
use Rattle.kz_spec_data.specs.Log.{Feed}
use Rattle.kz_spec_data.specs.Rendering.{render}
use Rattle.kz_spec_data.specs.Difference.{diff}
use Rattle.kz_spec_data.specs.Entities.{entity}
use Rattle.kz_spec_data.specs.Spans.{spanned_paths, all_spanned_paths, CoverDifference}
use Rattle.kz_spec_data.specs.Touched.{AreTouched, Leads}
use Rattle.kz_laws_values.specs.TextKeys.{HasTexts}
use Rattle.kz_laws_znodes.specs.RoundTrip.{IsWritable}

-- Where two metadata differ at a legal key, these keys span its path and each other path that it spans. So each legal key that spans
-- a path that these keys don't span holds the same in both.
abbrev pub HaveDifference : List EntityKey → Image → Image → Type 0
HaveDifference ks old new = (k : EntityKey) → is_legal k ≡ true → HasTexts k → (p : List ℕ) → Contains (spanned_paths k) p → (Contains (all_spanned_paths ks) p → ⊥) → entity old k ≡ entity new k

-- Where keys have the difference of two metadata, they cover the difference of the renderings.
abbrev pub KeysCoverRenderings : Type 0
KeysCoverRenderings = (old new : Image) → IsInOrder old → IsWritable old → IsInOrder new → IsWritable new → (ks : List EntityKey) → HaveDifference ks old new → CoverDifference ks (render old) (render new)

-- The keys that a feed touches have the difference of the metadata that it leads from and of those that it leads to.
abbrev pub TouchedSuffices : Type 0
TouchedSuffices = (old new : Image) → IsInOrder old → IsWritable old → IsInOrder new → IsWritable new → (f : Feed) → Leads old f new → (ks : List EntityKey) → AreTouched old f new ks → HaveDifference ks old new

-- So they cover the difference of the renderings.
abbrev pub TouchedCover : Type 0
TouchedCover = (old new : Image) → IsInOrder old → IsWritable old → IsInOrder new → IsWritable new → (f : Feed) → Leads old f new → (ks : List EntityKey) → AreTouched old f new ks → CoverDifference ks (render old) (render new)

-- The znodes of a rendering at these paths.
abbrev pub znodes_at : List (List ℕ) → Image → List Rendered
znodes_at paths i = at_keys bytes_cmp path_of_rendered paths (render i)

-- Where keys have the difference of two metadata, the operations between the renderings are those between their znodes at the paths
-- that the keys span, and at any other paths beside.
abbrev pub DeltaIsDifference : Type 0
DeltaIsDifference = (old new : Image) → IsInOrder old → IsWritable old → IsInOrder new → IsWritable new → (ks : List EntityKey) → HaveDifference ks old new
    → (paths : List (List ℕ)) → Rises bytes_cmp (λ p. p) paths → ((p : List ℕ) → Contains (all_spanned_paths ks) p → Contains paths p) → diff (render old) (render new) ≡ diff (znodes_at paths old) (znodes_at paths new)
