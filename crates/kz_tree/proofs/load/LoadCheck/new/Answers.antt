use Rattle.std.proofs.Common.{◌≡◌, true, sym, ◌∙◌, to_z-of_z}
use Rattle.kz_spec_data.specs.Loads.{is_header}
use Rattle.kz_tree.proofs.Loads.{header_checked}
use Rattle.kz_tree.proofs.load.LoadCheck.new.Goals as goal

pub invariant_of-result : goal.invariant_of-result
invariant_of-result c =
    let header : is_header c.args.zxid c.args.sessions.now ≡ true = sym (rw (to_z-of_z c.ranges.zxid) at c.is_header.ensures) ∙ c.if-not-is_header.false in
    rw (to_z-of_z c.ranges.zxid, c.in-Ok.ensures, c.new.ensures) (header_checked c.args.zxid c.args.sessions.now header)
