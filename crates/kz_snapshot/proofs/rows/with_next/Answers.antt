use Rattle.std.proofs.Common.{◌≡◌, ◌∙◌, ◌++◌, ◌∷◌, [], pos, length, ap, w32, rules, arith}
use Rattle.std.proofs.lemmas.Int.{to_z-of_z}
use mir.Val.{SFits}
use Rattle.kz_snapshot.proofs.Filled.{joins_by, taken_by, cut_by}
use Rattle.kz_snapshot.proofs.rows.with_next.Goals as goal

pub returns-then-joins-clause-rows : goal.returns-then-joins-clause-rows
returns-then-joins-clause-rows c = λ left.
    let f = c.args.filling in
    let r = c.args.next in
    let epoch : SFits w32 f.epoch = search rules in
    let next : SFits w32 r.epoch = search rules in
    let test = joins_by f.items.items _ f.epoch _ r.epoch _ _ c.joins.ensures c.deref.ensures.value (to_z-of_z w32 f.epoch epoch) (to_z-of_z w32 r.epoch next) in
    ap (λ bs. f.rows.items ++ bs) (taken_by (pos f.first) f.items.items _ f.epoch _ r left c.in_ok-push.ensures.items (to_z-of_z w32 r.epoch next) (test ∙ c.if-joins.true))

pub returns-clause-rows : goal.returns-clause-rows
returns-clause-rows c = λ left.
    let f = c.args.filling in
    let r = c.args.next in
    let epoch : SFits w32 f.epoch = search rules in
    let next : SFits w32 r.epoch = search rules in
    let test = joins_by f.items.items _ f.epoch _ r.epoch _ _ c.joins.ensures c.deref.ensures.value (to_z-of_z w32 f.epoch epoch) (to_z-of_z w32 r.epoch next) in
    let count : c.len.result ≡ length f.items.items = let len = c.len.ensures in omega (arith, len, f.items.ok.0) in
    cut_by f.rows.items _ c.row_at.result f.first c.len.result f.items.items _ f.epoch _ _ r left c.in_ok-push-2.ensures.items c.row_at.ensures (to_z-of_z w32 f.epoch epoch) count
    (c.in_ok-push-3.ensures.items ∙ ap (λ xs. xs ++ r.item ∷ []) c.new-next_items.ensures.items) (to_z-of_z w32 r.epoch next) (test ∙ c.if-joins.false)
