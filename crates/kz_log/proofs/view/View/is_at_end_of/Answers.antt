use Rattle.std.proofs.Common.{◌≡◌, ℕ, true, nat_eq, None, sym, ◌∙◌, arith, rules}
use Rattle.std.proofs.lemmas.Bool.Decides.{nat_tests}
use Rattle.kz_log.proofs.Building.{still_reads, nothing_left}
use Rattle.kz_log.proofs.Views.{feed_fits}
use Rattle.kz_log.proofs.view.View.is_at_end_of.Goals as goal

is_zero : (n : ℕ) → nat_eq n 0 ≡ true → n ≡ 0
is_zero n h = grind (arith, nat_tests)

pub returns-then-is_none : goal.returns-then-is_none
returns-then-is_none c = λ none l k is read.
    let v = c.args.self.now in
    let f = c.args.feed.now in
    let base : f.base ≡ None = search rules in
    still_reads v f (feed_fits l v f k is read) base (nothing_left f.batches (sym c.len.ensures ∙ is_zero c.len.result none)) l k is read
