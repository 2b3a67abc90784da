use Rattle.std.proofs.Common.{◌≡◌, Less, is_lt, ap, sym, ◌∙◌, rules}
use Rattle.kz_types.specs.Order.{bytes_cmp}
use Rattle.kz_sorted.proofs.Parts.{is_less}
use Rattle.kz_sorted.proofs.block.ends_before.Goals as goal

pub returns-in-Some : goal.returns-in-Some
returns-in-Some g c = (
  λ yes. rw c.in-Some.is (ap (λ k. bytes_cmp k c.args.key.now) (sym c.key.ensures) ∙ sym c.compare.ensures ∙ is_less c.compare.result (search rules)),
  λ below.
      let less : bytes_cmp (g.T.Keyed.key c.in-Some.item.now) c.args.key.now ≡ Less = rw c.in-Some.is at below in
      c.is_lt.ensures ∙ ap is_lt (c.compare.ensures ∙ ap (λ k. bytes_cmp k c.args.key.now) c.key.ensures ∙ less),
)
