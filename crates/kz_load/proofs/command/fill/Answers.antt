use Rattle.std.proofs.Common.{◌≡◌, ◌<◌, ℕ, true, false, List, Some, refl, sym, ap, ◌∙◌, subst, Err}
use Rattle.kz_spec_data.specs.Requests.{answer_of_tree_fault}
use Rattle.kz_spec_data.specs.Frames.{tree_letter}
use Rattle.kz_journal.specs.declared.place.Place.{Place}
use Rattle.kz_journal.specs.Journals.{IsReadTo, HasClosedGate, file_at, file_of}
use Rattle.kz_journal.proofs.Steps.{held_closed}
use Rattle.kz_tree_store.specs.Opened.{Known}
use Rattle.kz_tree_store.specs.LoadCalls.{load_payloads, last_of}
use Rattle.kz_tree_store.specs.Stores.{held_tree, known, store_disk, store_state}
use Rattle.kz_commands.specs.Outside.{outside}
use Rattle.kz_load.specs.LoadsTrees.{FillsStore}
use Rattle.kz_load.proofs.Frames.{wrote}
use Rattle.kz_load.proofs.Filled.{stands, no_room, fault_fills}
use Rattle.kz_load.proofs.Left.{settled_either, fault_left}
use Rattle.kz_load.proofs.command.fill.Goals as goal

-- what a store tells of a tree's file whose frames end at a closed gate
told_file : (letter : ℕ) (place : Place) (file : List ℕ) → IsReadTo letter place file → HasClosedGate place file → place.gate < place.length → letter ≡ tree_letter → Some (file_at place) ≡ Some (file_of tree_letter file)
told_file letter place file read closed stands is = ap (λ f. Some f) (held_closed letter place file read closed stands ∙ ap (λ (l : ℕ). file_of l file) is)

pub returns-in-Err-load_checked-clause-fills : goal.returns-in-Err-load_checked-clause-fills
returns-in-Err-load_checked-clause-fills g c =
    let told = g.D.Disk.told in
    let s = c.args.store.now in
    let t = c.load_checked.new.self in
    let old = store_state g.D.Disk.faults s in
    let new = store_state g.D.Disk.faults t in
    let root = c.in-Ok.check in
    let input = outside g.S.Source.left g.S.Source.faults g.S.Source.last_failed c.args.input.now in
    let input_now = outside g.S.Source.left g.S.Source.faults g.S.Source.last_failed c.read_tree.new.input in
    let tree = outside told g.D.Disk.faults g.D.Disk.last_failed (store_disk s) in
    let tree_now = outside told g.D.Disk.faults g.D.Disk.last_failed (store_disk t) in
    let fault = c.in-Err-load_checked.fault in
    let failed = c.in-Err-load_checked.ensures in
    let up : old.down ≡ false = sym s.down_is ∙ c.requires.up in
    let room = no_room fault root old new (told (store_disk s)) (told (store_disk t)) up failed.disk
    (λ file is. told_file s.journal.letter s.journal.place file (s.journal.read up file is) (s.journal.closed up (s.ended up) file is) (s.journal.stands (s.ended up)) s.letter)
    (λ still file is. told_file t.journal.letter t.journal.place file (t.journal.read still file is) (t.journal.closed still (t.ended still) file is) (t.journal.stands (t.ended still)) t.letter) in
    subst (λ r. FillsStore (held_tree s) input input_now tree tree_now r) (sym c.load_status.ensures)
    (fault_fills _ _ fault (held_tree s) root input input_now tree tree_now old new refl refl (wrote (load_payloads true root.rows (Some (last_of root))) (answer_of_tree_fault fault) old new up failed.disk)
    (λ still. stands (told (store_disk t)) (known t) (held_tree s) (ap (λ (k : Known). k.tree) failed.same) (t.same still)) room c.in-Ok.ensures.loaded (λ is. absurd (cc)) c.in-Ok.ensures.source)

pub returns-in-Err-clause-left : goal.returns-in-Err-clause-left
returns-in-Err-clause-left g c =
    let s = c.args.store.now in
    let up = sym s.down_is ∙ c.requires.up in
    settled_either (g.S.Source.left c.args.input.now) (held_tree s) (known s) (g.D.Disk.told (store_disk s)) (g.D.Disk.may_leave (store_disk s)) (s.journal.settled up) (s.same up) refl

pub returns-in-Err-clause-settled : goal.returns-in-Err-clause-settled
returns-in-Err-clause-settled g c = λ is. let s = c.args.store.now in s.journal.settled (sym s.down_is ∙ c.requires.up)

pub returns-in-Err-load_checked-clause-left : goal.returns-in-Err-load_checked-clause-left
returns-in-Err-load_checked-clause-left g c =
    let s = c.args.store.now in
    let t = c.load_checked.new.self in
    let old = store_state g.D.Disk.faults s in
    let new = store_state g.D.Disk.faults t in
    let up : old.down ≡ false = sym s.down_is ∙ c.requires.up in
    let root = c.in-Ok.check in
    let fault = c.in-Err-load_checked.fault in
    let failed = c.in-Err-load_checked.ensures in
    fault_left fault (g.S.Source.left c.args.input.now) (held_tree s) root (known t) (g.D.Disk.told (store_disk t)) (g.D.Disk.may_leave (store_disk t)) old new
    (wrote (load_payloads true root.rows (Some (last_of root))) (answer_of_tree_fault fault) old new up failed.disk) (λ still. t.journal.settled still) (λ still. t.same still) (ap (λ (k : Known). k.tree) failed.same)
    (λ is. failed.stop (ap Err is)) c.in-Ok.ensures.loaded
