use Rattle.std.proofs.Common.{◌≡◌, ap, ◌∙◌, sym, subst, to_z, of_z, w64, rules}
use Rattle.std.proofs.lemmas.Int.{to_z-of_z}
use Rattle.std.specs.Int.RustNames.{FitsSigned}
use Rattle.kz_spec_data.specs.Requests.{Either}
use Rattle.kz_spec_data.specs.Tree.{Tree}
use Rattle.kz_tree_store.specs.Stores.{left_of}
use Rattle.kz_tree_store.specs.LoadCalls.{loaded_tree, rows_so_far}
use Rattle.kz_tree_store.proofs.Makes.{loaded_is}
use Rattle.kz_tree_store.proofs.store.TreeStore.end_load.Goals as goal

pub returns-clause-stop : goal.returns-clause-stop
returns-clause-stop g c = λ failed.
    let s = c.args.self.now in
    let last = c.args.last.now in
    let under_way = c.requires.under_way in
    let rows = under_way.0 in
    let fits : FitsSigned w64 last.zxid = search rules in
    let held : c.in-Some.rows ≡ rows = cc (c.in-Some.is, c.take.ensures.value, under_way.1) in
    let tree_is = loaded_is last.zxid (to_z w64 (of_z w64 last.zxid)) last.sessions c.as_slice.result.now rows c.into_vec.result.items c.in-Ok.tree (to_z-of_z w64 last.zxid fits) c.as_slice.ensures (c.into_vec.ensures ∙ held) under_way.2 c.in-Ok.ensures in
    let same : loaded_tree last rows ≡ loaded_tree last (rows_so_far s.loaded) = ap (loaded_tree last) (sym (ap rows_so_far under_way.1)) in
    subst (λ (t : Tree). Either s.tree t (left_of g.D.Disk.told g.D.Disk.may_leave c.write_end.new.self)) (tree_is ∙ same) (c.write_end.ensures.stop failed)
