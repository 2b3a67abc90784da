use Rattle.std.proofs.Common.{◌≡◌, drop}
use Rattle.kz_spec_data.specs.Image.{first_bad}
use Rattle.kz_image.proofs.image.valid.Given as goal

abbrev pub invariant-loop-index : goal.invariant-loop-index
invariant-loop-index l = first_bad 0 l.items l.image ≡ first_bad l.index (drop l.index l.items) l.after
