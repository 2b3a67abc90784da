use Rattle.std.proofs.Common.{inl, inr, ◌+◌, [], ◌∷◌, length, arith}
use Rattle.kz_disk.specs.Disks.{with_piece}
use Rattle.kz_disk.proofs.Moments.{joined, weaker}
use Rattle.kz_spec_data.specs.Frames.{open_gate}
use Rattle.kz_journal.specs.Appends.{IsTornOr, IsCutAppend}
use Rattle.kz_journal.proofs.Crashes.{torn_once, told_after, still_within, option_twice}
use Rattle.kz_journal.proofs.device.write_after.Goals as goal

pub write_durably-requires-2-clause-within : goal.write_durably-requires-2-clause-within
write_durably-requires-2-clause-within g c =
    still_within (g.D.Disk.told c.args.disk.now) _ (c.args.gate + 1) c.args.gate c.args.piece.now c.requires.within c.in-Ok.ensures.written (omega arith)

pub returns-in_default-clause-any_moment : goal.returns-in_default-clause-any_moment
returns-in_default-clause-any_moment g c = λ file told.
    weaker g.D.Disk.moment g.D.Disk.left_since _ _ (IsTornOr (g.D.Disk.may_leave c.args.disk.now) (c.args.gate + 1) (length c.args.piece.now)) (IsCutAppend c.args.gate c.args.piece.now file)
    c.write_durably.ensures.any_moment (λ left torn. inl (torn_once (g.D.Disk.told c.args.disk.now) (g.D.Disk.may_leave c.args.disk.now) _ _ file left c.requires.settled told torn))

pub returns-in_default-write_durably-clause-any_moment : goal.returns-in_default-write_durably-clause-any_moment
returns-in_default-write_durably-clause-any_moment g c = λ file told.
    let mid = c.write_durably.new.disk in
    joined g.D.Disk.moment g.D.Disk.left_since _ mid _ (IsTornOr (g.D.Disk.may_leave c.args.disk.now) (c.args.gate + 1) (length c.args.piece.now)) (IsTornOr (g.D.Disk.may_leave mid) c.args.gate 1) (IsCutAppend c.args.gate c.args.piece.now file)
    c.write_durably.ensures.any_moment c.write_durably-2.ensures.any_moment
    (λ left torn. inl (torn_once (g.D.Disk.told c.args.disk.now) (g.D.Disk.may_leave c.args.disk.now) _ _ file left c.requires.settled told torn))
    (λ left torn. inr (torn_once (g.D.Disk.told mid) (g.D.Disk.may_leave mid) _ _ (with_piece (c.args.gate + 1) c.args.piece.now file) left c.in-Ok.ensures.durable
    (told_after (g.D.Disk.told c.args.disk.now) _ (with_piece (c.args.gate + 1) c.args.piece.now) file c.in-Ok.ensures.written told) torn))

pub returns-clause-any_moment : goal.returns-clause-any_moment
returns-clause-any_moment g c = λ file told.
    let mid = c.write_durably.new.disk in
    joined g.D.Disk.moment g.D.Disk.left_since _ mid _ (IsTornOr (g.D.Disk.may_leave c.args.disk.now) (c.args.gate + 1) (length c.args.piece.now)) (IsTornOr (g.D.Disk.may_leave mid) c.args.gate 1) (IsCutAppend c.args.gate c.args.piece.now file)
    c.write_durably.ensures.any_moment c.write_durably-2.ensures.any_moment
    (λ left torn. inl (torn_once (g.D.Disk.told c.args.disk.now) (g.D.Disk.may_leave c.args.disk.now) _ _ file left c.requires.settled told torn))
    (λ left torn. inr (torn_once (g.D.Disk.told mid) (g.D.Disk.may_leave mid) _ _ (with_piece (c.args.gate + 1) c.args.piece.now file) left c.in-Ok.ensures.durable
    (told_after (g.D.Disk.told c.args.disk.now) _ (with_piece (c.args.gate + 1) c.args.piece.now) file c.in-Ok.ensures.written told) torn))

pub returns-clause-written : goal.returns-clause-written
returns-clause-written g c =
    option_twice (g.D.Disk.told c.args.disk.now) _ _ (with_piece (c.args.gate + 1) c.args.piece.now) (with_piece c.args.gate (open_gate ∷ [])) c.in-Ok.ensures.written c.in-Ok-write_durably.ensures.written
