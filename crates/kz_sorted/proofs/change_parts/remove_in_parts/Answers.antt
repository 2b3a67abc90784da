use Rattle.std.proofs.Common.{◌≡◌, ◌<◌, List, [], length, sym, ap, ◌∙◌, subst, rules}
use Rattle.std.proofs.lemmas.List.{get_or-set_same}
use Rattle.kz_types.specs.Order.{bytes_cmp}
use Rattle.kz_types.proofs.Order.{bytes_order}
use Rattle.kz_sorted.specs.BlockLists.{items_of, AreParts, IsBlockFor}
use Rattle.kz_sorted.proofs.Changes.{without_in_set, without_in_part_kept, without_part, without_part_kept}
use Rattle.kz_sorted.proofs.Parts.{not_nil, remove-set}
use Rattle.kz_sorted.proofs.change_parts.remove_in_parts.Goals as goal

-- nothing is left of the part
pub returns-then-is_empty-2 : goal.returns-then-is_empty-2
returns-then-is_empty-2 g c =
    let key = g.T.Keyed.key in
    let ps = c.args.parts.now.items in
    let place = c.part_for-place.result in
    let within : place < length ps = search rules in
    let among : IsBlockFor bytes_cmp key c.args.key.now ps place = subst (λ (xs : List (List g.row.T.Denot)). IsBlockFor bytes_cmp key c.args.key.now xs place) c.deref.ensures.value c.part_for-place.ensures.part in
    let none : c.without.new.self ≡ [] = sym (get_or-set_same ps place c.without.new.self c.index.result.now within) ∙ sym c.index.ensures ∙ c.if-is_empty-2.ensures.0 (search rules) in
    let gone = c.remove-removed.ensures.items ∙ remove-set ps place c.without.new.self in record {
      ok = ap (λ (xs : List (List g.row.T.Denot)). items_of xs) gone ∙ without_part bytes_order key c.args.key.now ps place c.index_mut.result.now c.without.new.self within among c.index_mut.ensures.value c.in_ok-without.ensures.ok none;
      err = search rules;
      kept = subst (λ (xs : List (List g.row.T.Denot)). AreParts bytes_cmp key xs) (sym gone) (without_part_kept bytes_order key c.args.key.now ps place c.index_mut.result.now c.without.new.self c.requires within among c.index_mut.ensures.value c.in_ok-without.ensures.ok none);
    }

pub returns-else-is_empty-2 : goal.returns-else-is_empty-2
returns-else-is_empty-2 g c =
    let key = g.T.Keyed.key in
    let ps = c.args.parts.now.items in
    let place = c.part_for-place.result in
    let within : place < length ps = search rules in
    let among : IsBlockFor bytes_cmp key c.args.key.now ps place = subst (λ (xs : List (List g.row.T.Denot)). IsBlockFor bytes_cmp key c.args.key.now xs place) c.deref.ensures.value c.part_for-place.ensures.part in
    let some : 0 < length c.without.new.self = not_nil c.without.new.self (λ e. let no = c.if-is_empty-2.ensures.1 (c.index.ensures ∙ get_or-set_same ps place c.without.new.self c.index.result.now within ∙ e) in search rules) in record {
      ok = without_in_set bytes_order key c.args.key.now ps place c.index_mut.result.now c.without.new.self within among c.index_mut.ensures.value c.in_ok-without.ensures.ok;
      err = search rules;
      kept = without_in_part_kept bytes_order key c.args.key.now ps place c.index_mut.result.now c.without.new.self c.requires within among c.index_mut.ensures.value c.in_ok-without.ensures.ok some;
    }
