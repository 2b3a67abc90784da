use Rattle.std.proofs.Common.{sym, ap, ◌∙◌, subst}
use Rattle.kz_disk.specs.Disks.{StaysTold}
use Rattle.kz_tree_store.specs.Opened.{GrowsByOne}
use Rattle.kz_commands.specs.Making.{found_by}
use Rattle.kz_commands.proofs.Made.{tree_told}
use Rattle.kz_commands.proofs.making.look_through_tree.Goals as goal

pub returns-in-Ok-clause-found : goal.returns-in-Ok-clause-found
returns-in-Ok-clause-found g c = λ file new told told_now.
    tree_told c.in-Ok.tree _ _ _ c.found_by-found.result file new c.in-Ok.ensures.opened (ap g.D.Disk.told c.into_disk.ensures) (c.found_by-found.ensures ∙ ap found_by c.is_fresh.ensures) (c.requires file told) told told_now

pub returns-in-Ok-clause-told : goal.returns-in-Ok-clause-told
returns-in-Ok-clause-told g c =
    let told = g.D.Disk.told in
    subst (λ d. StaysTold (told c.args.disk) (told d) × GrowsByOne (told c.args.disk) (told d)) (sym c.into_disk.ensures) (c.in-Ok.ensures.opened.told, c.in-Ok.ensures.opened.grown)
