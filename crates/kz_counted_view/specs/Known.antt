-- Counts that are those of a rendering, where they are known.
use Rattle.std.specs.Prelude.{◌≡◌, Option, IfSome}
use Rattle.kz_spec_data.specs.Metadata.{Image}
use Rattle.kz_spec_data.specs.Rendering.{render}
use Rattle.kz_counted_view.specs.declared.counts.Counts.{Counts}
use Rattle.kz_counted_view.specs.Counting.{counts_of}

abbrev pub AreCountsOf : Image → Option Counts → Type 0
AreCountsOf i counts = IfSome counts (λ (c : Counts). c ≡ counts_of (render i))
