use Rattle.std.proofs.Common.{◌+◌, refl}
use Rattle.kz_reader.proofs.OneMore.{one_more_seen}
use Rattle.kz_reader.proofs.seen.Seen.add.Goals as goal

pub returns-clause-seen : goal.returns-clause-seen
returns-clause-seen c = one_more_seen c.args.rows.now c.args.row.now c.args.note c.args.self.now
    (record { done = c.args.self.now.done + 1; ids = c.add_if_any.new.ids; entries = c.args.self.now.entries + c.args.note.entries })
    c.requires.within c.requires.row c.requires.note c.requires.seen refl refl c.in_ok-add_if_any.ensures
