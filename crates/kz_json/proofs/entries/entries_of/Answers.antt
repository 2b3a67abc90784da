use Rattle.std.proofs.Common.{◌+◌, drop, ◌∙◌, sym, ap, Ok, Err, arith}
use Rattle.kz_spec_data.specs.Credentials.{entries_of, both}
use Rattle.kz_json.specs.Entries.{entry_value}
use Rattle.kz_json.proofs.EntryLemmas.{one_more, at_fault, no_more}
use Rattle.kz_json.proofs.entries.entries_of.Goals as goal

pub returns-in-Err : goal.returns-in-Err
returns-in-Err c = λ other.
    sym (at_fault c.args.key.now c.args.pairs.now c.pair-item.result c.loop-pair.pair-index c.loop-pair.entries c.in-Err.fault (omega arith) c.pair-item.is (c.in-Err.ensures.err (λ e. other (ap (λ f. Err f) e))))
    ∙ c.loop-pair.invariant

pub loop-pair-preserved : goal.loop-pair-preserved
loop-pair-preserved c =
    ap (λ e. both (Ok e) (entries_of c.args.key.now (drop (c.loop-pair.pair-index + 1) c.args.pairs.now))) c.in-Ok-push.ensures
    ∙ one_more c.args.key.now c.args.pairs.now c.pair-item.result c.loop-pair.pair-index c.loop-pair.entries (entry_value c.in-Ok.entry) (omega arith) c.pair-item.is c.in-Ok.ensures.ok
    ∙ c.loop-pair.invariant

pub returns : goal.returns
returns c = λ _. sym (no_more c.args.key.now c.args.pairs.now c.loop-pair.pair-index c.loop-pair.entries (omega arith)) ∙ c.loop-pair.invariant
