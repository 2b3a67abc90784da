use Rattle.kz_laws_znodes.proofs.HeldStays.{scram_removed_held}
use Rattle.kz_image.proofs.image.Image.remove_scram.Goals as goal

pub invariant_of-self-2 : goal.invariant_of-self-2
invariant_of-self-2 c = rw c.in_ok-remove_scram.ensures.ok (scram_removed_held _ c.self.invariant c.args.name.now _ c.held_name_is_text.ensures)
