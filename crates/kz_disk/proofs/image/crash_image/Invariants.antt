use Rattle.std.proofs.Common.{◌≡◌, reverse, take}
use Rattle.kz_disk.specs.Changes.{contents_after, crash_image}
use Rattle.kz_disk.proofs.image.crash_image.Given as goal

abbrev pub invariant-loop-change : goal.invariant-loop-change
invariant-loop-change l = record {
  contents : l.contents.items ≡ contents_after l.start (reverse (take l.change-index l.changes));
  image : l.image.items ≡ crash_image l.fill l.start (reverse (take l.change-index l.changes));
}
