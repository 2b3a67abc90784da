use Rattle.std.proofs.Common.{◌∙◌, w64, to_z, of_z}
use Rattle.std.proofs.lemmas.Int.{to_z-of_z}
use Rattle.kz_verdict.proofs.Agreements.{found_along}
use Rattle.kz_verdict.proofs.comparison.find_all.Goals as goal

pub returns : goal.returns
returns c =
    found_along c.args.tree.now c.args.log.now (to_z w64 (of_z w64 c.args.offset)) c.args.offset c.deref.result.now c.deref-2.result.now c.in_ok-found.found.items c.mark_all.new.found.items
    (to_z-of_z w64 c.args.offset c.ranges.offset) (c.deref.ensures.value ∙ c.in_ok-area.ensures.znodes) (c.deref-2.ensures.value ∙ c.in_ok-area.ensures.znodes)
    c.in_ok-found.ensures c.in_ok-mark_all.ensures
