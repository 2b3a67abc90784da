use Rattle.std.proofs.Common.{◌≡◌, ◌≢◌, true, false, None, Some, is_some, [], ◌∷◌, ◌++◌, ap, sym, ◌∙◌, subst, rules}
use Rattle.std.specs.List.{filter}
use Rattle.std.specs.Ordering.{match_ordering}
use Rattle.kz_types.specs.Order.{bytes_cmp}
use Rattle.kz_types.proofs.Order.{bytes_order}
use Rattle.kz_types.proofs.Maps.{Rises-filter}
use Rattle.kz_spec_data.specs.Tree.{path_of_row, row_at, is_after, has_children}
use Rattle.kz_tree_rows.specs.Kept.{AreRows}
use Rattle.kz_tree_rows.proofs.ChildPaths.{some_there, none_there, found_is_child, from_slash, none_from}
use Rattle.kz_tree_rows.proofs.children.has_children.Goals as goal

pub returns-then-is_some : goal.returns-then-is_some
returns-then-is_some c =
    let first : c.deref.result.now ≡ c.args.path.now ++ 47 ∷ [] = c.deref.ensures.value ∙ c.in_ok-first.ensures in
    let there : is_some c.find.result ≡ true = search rules in
    let found : row_at (c.args.path.now ++ 47 ∷ []) c.args.rows.now ≢ None = some_there _ c.find.result _ there (c.find.ensures ∙ ap (λ path. row_at path c.args.rows.now) first) in
    sym (found_is_child c.args.path.now c.requires c.args.rows.now found)

pub loop-row-init : goal.loop-row-init
loop-row-init c =
    let first : c.deref.result.now ≡ c.args.path.now ++ 47 ∷ [] = c.deref.ensures.value ∙ c.in_ok-first.ensures in
    let second : c.deref-2.result.now ≡ c.args.path.now ++ 47 ∷ [] = c.deref-2.ensures.value ∙ c.in_ok-first.ensures in
    let absent : is_some c.find.result ≡ false = search rules in
    let none : row_at (c.args.path.now ++ 47 ∷ []) c.args.rows.now ≡ None = none_there _ c.find.result _ absent (c.find.ensures ∙ ap (λ path. row_at path c.args.rows.now) first) in
    let is : c.into_iter-row-iterator.result ≡ filter (is_after (Some (c.args.path.now ++ 47 ∷ []))) c.args.rows.now =
    c.into_iter-row-iterator.ensures.into_iter_gives ∙ c.items_after_bytes-row-items.ensures.items ∙ ap (λ path. filter (is_after (Some path)) c.args.rows.now) second in
    rw is (
      from_slash c.args.path.now c.requires c.args.rows.now none,
      Rises-filter bytes_order path_of_row (is_after (Some (c.args.path.now ++ 47 ∷ []))) c.args.rows.now c.items_after_bytes-row-items.ensures.rise,
    )

pub returns-then-not-is_before : goal.returns-then-not-is_before
returns-then-not-is_before c =
    let row = c.in-Some.row.now in
    let rest = c.next.new.self in
    let steps : c.loop-row.row-iterator ≡ row ∷ rest = c.in-Some.ensures.steps in
    let before : c.is_before.result ≡ match_ordering (bytes_cmp row.path (c.args.path.now ++ 48 ∷ [])) true false false =
    rw (c.bytes.ensures.value, c.deref-in-loop-row.ensures.value, c.in_ok-end.ensures) at c.is_before.ensures in
    sym (none_from c.args.path.now c.requires row rest (subst AreRows steps c.loop-row.invariant.1) (sym before ∙ c.if-not-is_before.true))
    ∙ ap (has_children c.args.path.now) (sym steps) ∙ c.loop-row.invariant.0
