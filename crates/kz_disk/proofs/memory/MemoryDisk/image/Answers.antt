use Rattle.std.proofs.Common.{◌≡◌, ℕ, length, sym, ap, ◌∙◌, subst}
use Rattle.std.proofs.lemmas.Result.{IfOk-weaker}
use Rattle.std.specs.Global.{Vec}
use Rattle.std.specs.Result.{IfOk}
use Rattle.kz_disk.specs.Changes.{crash_image, MayLeave}
use Rattle.kz_disk.specs.Memory.{memory_start, memory_changes, memory_bytes}
use Rattle.kz_disk.proofs.Images.{image_left, image_length}
use Rattle.kz_disk.proofs.memory.MemoryDisk.image.Goals as goal

pub returns : goal.returns
returns c =
    let d = c.args.self.now in
    let start = memory_start d in
    let changes = memory_changes d in
    let IsImage : Vec ℕ → Type 0 = λ image. image.items ≡ crash_image c.args.fill start changes in
    let made : IfOk c.crash_image.result IsImage = rw (← c.deref.ensures.value, ← c.deref-2.ensures.value) c.crash_image.ensures in
    record {
      image = made;
      left = IfOk-weaker c.crash_image.result IsImage (λ image. MayLeave start changes image.items) (λ image is. subst (MayLeave start changes) (sym is) (image_left c.args.fill start changes d.in_range)) made;
      length = IfOk-weaker c.crash_image.result IsImage (λ image. length image.items ≡ length (memory_bytes d)) (λ image is. ap length is ∙ image_length c.args.fill start changes d.in_range ∙ sym (ap length d.same)) made;
    }
