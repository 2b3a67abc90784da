use Rattle.std.proofs.Common.{◌≡◌, None, sym, ◌∙◌, rules}
use Rattle.kz_log.proofs.Building.{advanced, still_reads, reads_of, nothing_left}
use Rattle.kz_log.proofs.view.View.advance.Goals as goal

pub returns-then-len-eq0-clause-reads : goal.returns-then-len-eq0-clause-reads
returns-then-len-eq0-clause-reads c =
    let base : c.args.feed.base ≡ None = search rules in
    still_reads c.args.self.now c.args.feed c.requires base (nothing_left c.args.feed.batches (sym c.len.ensures ∙ c.if-len-eq0.true))

pub returns-clause-is_at : goal.returns-clause-is_at
returns-clause-is_at c = advanced c.args.self.now c.put.new.self c.args.feed _ c.requires c.in_ok-builder.ensures c.put.ensures

pub returns-clause-reads : goal.returns-clause-reads
returns-clause-reads c =
    let took = c.in_ok-builder.ensures in
    reads_of c.args.self.now c.put.new.self c.args.feed (advanced c.args.self.now c.put.new.self c.args.feed _ c.requires took c.put.ensures) (search rules) (search rules)
