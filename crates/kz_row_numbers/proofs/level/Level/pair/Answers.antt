use Rattle.std.proofs.Common.{◌≡◌, ◌+◌, ◌*◌, ◌<◌, length, get_or, sym, ◌∙◌, rules}
use Rattle.std.proofs.lemmas.List.{get_or_read}
use Rattle.kz_row_numbers.specs.Joins.{no_numbers}
use Rattle.kz_row_numbers.proofs.LevelLemmas.{pair_alone, pair_both}
use Rattle.kz_row_numbers.proofs.level.Level.pair.Goals as goal

pub returns-then-place-count : goal.returns-then-place-count
returns-then-place-count c =
    let alone : 2 * c.args.place + 1 ≡ length c.args.self.now = search rules in
    let first : c.index-first.result.now ≡ get_or c.args.self.now (2 * c.args.place) no_numbers = search (rules, get_or_read) in
    first ∙ sym (pair_alone c.args.self.now c.args.place alone)

pub returns : goal.returns
returns c =
    let both : 2 * c.args.place + 1 < length c.args.self.now = search rules in
    let first : c.index-first.result.now ≡ get_or c.args.self.now (2 * c.args.place) no_numbers = search (rules, get_or_read) in
    let second : c.index.result.now ≡ get_or c.args.self.now (2 * c.args.place + 1) no_numbers = search (rules, get_or_read) in
    c.join.ensures ∙ rw (first, second) (sym (pair_both c.args.self.now c.args.place both))
