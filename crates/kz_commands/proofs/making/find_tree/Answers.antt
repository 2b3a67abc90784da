use Rattle.std.proofs.Common.{ℕ, List, [], ◌∷◌, ◌++◌, Option, is_some, IfOk, IfErr, refl, ap, subst}
use Rattle.kz_disk.specs.Disks.{StaysTold}
use Rattle.kz_tree_store.specs.Opened.{GrowsByOne}
use Rattle.kz_spec_data.specs.Frames.{tree_letter, plain_header, closed_gate, new_file}
use Rattle.kz_spec_machine.specs.Init.{tree_refusal, has_tree}
use Rattle.kz_commands.specs.declared.making.Found.{Found}
use Rattle.kz_commands.specs.Making.{IsShortFound, IsTreeFound, IsRefusedFor, OfFile}
use Rattle.kz_commands.proofs.Made.{short_found, short_tree_none, short_no_tree, EmptyTree, summed_tree, plain_tree, same_told}
use Rattle.kz_commands.proofs.Grown.{same_grown}
use Rattle.kz_commands.proofs.making.find_tree.Goals as goal

pub returns-in-Ok-Some-clause-found : goal.returns-in-Ok-Some-clause-found
returns-in-Ok-Some-clause-found g c = λ file new told told_now.
    short_found tree_letter tree_refusal has_tree EmptyTree (plain_header tree_letter ++ closed_gate ∷ []) (new_file tree_letter) file new c.in-Ok-Some.found (short_tree_none file) (short_no_tree file) summed_tree plain_tree refl refl (same_told _ _ file new c.in-Ok-Some.ensures.same told told_now)
    (subst (λ (o : Option Found). IsShortFound (plain_header tree_letter ++ closed_gate ∷ []) (new_file tree_letter) file o) c.in-Ok-Some.field-0-is (c.in-Ok-Some.ensures.found file told))

pub returns-in-Ok-None-clause-found : goal.returns-in-Ok-None-clause-found
returns-in-Ok-None-clause-found g c =
    subst (λ (before : Option (List ℕ)). IfOk c.look_through_tree.result (λ f. OfFile before (g.D.Disk.told f.0) IsTreeFound f.1)) c.in-Ok-None.ensures.same c.look_through_tree.ensures.found

pub returns-in-Ok-None-clause-refused : goal.returns-in-Ok-None-clause-refused
returns-in-Ok-None-clause-refused g c =
    subst (λ (before : Option (List ℕ)). IfErr c.look_through_tree.result (λ e. OfFile before (g.D.Disk.told e.0) (IsRefusedFor tree_letter tree_refusal) e.1)) c.in-Ok-None.ensures.same c.look_through_tree.ensures.refused

pub returns-in-Ok-Some-clause-told : goal.returns-in-Ok-Some-clause-told
returns-in-Ok-Some-clause-told g c = (ap is_some c.in-Ok-Some.ensures.same, same_grown (g.D.Disk.told c.args.disk) (g.D.Disk.told c.look.new.disk) c.in-Ok-Some.ensures.same)

pub returns-in-Ok-None-clause-told : goal.returns-in-Ok-None-clause-told
returns-in-Ok-None-clause-told g c =
    subst (λ (before : Option (List ℕ)). IfOk c.look_through_tree.result (λ f. StaysTold before (g.D.Disk.told f.0) × GrowsByOne before (g.D.Disk.told f.0))) c.in-Ok-None.ensures.same c.look_through_tree.ensures.told
