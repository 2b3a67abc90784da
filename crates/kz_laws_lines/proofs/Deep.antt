-- The text of plain data is read as that data, at any depth that the reader allows.
use Rattle.std.proofs.Common.{◌≡◌, ℕ, zero, suc, max, ◌≤◌, List, Some, refl, sym, ap, subst, ◌∙◌, arith}
use Rattle.std.specs.Prelude.{IsUtf8, option_map, option_and_then}
use Rattle.std.proofs.lemmas.Str.{IsUtf8-from_is_utf8}
use Rattle.json.specs.Tree as tree
use Rattle.serde_json.specs.Data.{Num, Data, null, boolean, number, string, array, object, Items, no_items, item, Members, no_members, member, put}
use Rattle.serde_json.specs.Read.{of_json, of_items, of_members, number_of}
use Rattle.serde_json.specs.Written.{compact_text, number_text, outline, items_outline, members_outline}
use Rattle.kz_spec_data.specs.Bodies.{json_of}
use Rattle.kz_laws_values.proofs.ReadsBack.{HasUtf8, ItemsHaveUtf8, MembersHaveUtf8, json_of_compact, whole_is_utf8, whole_is_number, whole_reads}
use Rattle.kz_laws_values.proofs.Plain.{puts, IsWholeNumber, IsPlain, ArePlainItems, ArePlainMembers}

-- data whose text is read as it: texts in UTF-8, numbers as they are written, a depth, and the data that its outline is
record Reads (n : ℕ) (d : Data) : Type 0 where
  texts : HasUtf8 d
  numbers : tree.HasNumbers (outline d)
  depth : tree.depth (outline d) ≤ n
  same : of_json (outline d) ≡ Some d

record ItemsRead (n : ℕ) (ds : Items) : Type 0 where
  texts : ItemsHaveUtf8 ds
  numbers : tree.ItemsHaveNumbers (items_outline ds)
  depth : tree.items_depth (items_outline ds) ≤ n
  same : of_items (items_outline ds) ≡ Some ds

record MembersRead (n : ℕ) (ms : Members) : Type 0 where
  texts : MembersHaveUtf8 ms
  numbers : tree.MembersHaveNumbers (members_outline ms)
  depth : tree.members_depth (members_outline ms) ≤ n
  same : (found : Members) → of_members (members_outline ms) found ≡ Some (puts ms found)

max_at_most : (a b n : ℕ) → a ≤ n → b ≤ n → max a b ≤ n
max_at_most a b n h k = grind (arith)

number_reads : (n : ℕ) (x : Num) → IsWholeNumber x → Reads n (number x)
number_reads n x h = record {
  texts = subst (λ y. IsUtf8 (number_text y)) (sym h.1) (whole_is_utf8 h.0 h.2);
  numbers = subst (λ y. tree.HasNumbers (outline (number y))) (sym h.1) (whole_is_number h.0 h.2);
  depth = omega arith;
  same = ap (option_map number) (subst (λ y. number_of (number_text y) ≡ Some y) (sym h.1) (whole_reads h.0 h.2));
}

array_reads : (n : ℕ) (ds : Items) → ItemsRead n ds → Reads (suc n) (array ds)
array_reads n ds h = record { texts = h.texts; numbers = h.numbers; depth = omega (arith, h.depth); same = ap (option_map array) h.same }

object_reads : (n : ℕ) (ms : Members) → MembersRead n ms → puts ms no_members ≡ ms → Reads (suc n) (object ms)
object_reads n ms h in_order = record {
  texts = h.texts;
  numbers = h.numbers;
  depth = omega (arith, h.depth);
  same = ap (option_map object) (h.same no_members ∙ ap (λ found. Some found) in_order);
}

more_items : (n : ℕ) (d : Data) (ds : Items) → Reads n d → ItemsRead n ds → ItemsRead n (item d ds)
more_items n d ds h more = record {
  texts = (h.texts, more.texts);
  numbers = (h.numbers, more.numbers);
  depth = max_at_most (tree.depth (outline d)) (tree.items_depth (items_outline ds)) n h.depth more.depth;
  same = ap (option_and_then (λ x. option_map (item x) (of_items (items_outline ds)))) h.same ∙ ap (option_map (item d)) more.same;
}

more_members : (n : ℕ) (k : List ℕ) (d : Data) (ms : Members) → IsUtf8 k → Reads n d → MembersRead n ms → MembersRead n (member k d ms)
more_members n k d ms name h more = record {
  texts = (name, h.texts, more.texts);
  numbers = (h.numbers, more.numbers);
  depth = max_at_most (tree.depth (outline d)) (tree.members_depth (members_outline ms)) n h.depth more.depth;
  same = λ found. ap (option_and_then (λ x. of_members (members_outline ms) (put k x found))) h.same ∙ more.same (put k d found);
}

mutual
  reads : (n : ℕ) (d : Data) → IsPlain n d → Reads n d
  reads n null h = record { texts = tt; numbers = tt; depth = omega arith; same = refl }
  reads n (boolean b) h = record { texts = tt; numbers = tt; depth = omega arith; same = refl }
  reads n (number x) h = number_reads n x h
  reads n (string s) h = record { texts = IsUtf8-from_is_utf8 s h; numbers = tt; depth = omega arith; same = refl }
  reads zero (array ds) h = absurd h
  reads (suc n) (array ds) h = array_reads n ds (items_read n ds h)
  reads zero (object ms) h = absurd h
  reads (suc n) (object ms) h = object_reads n ms (members_read n ms h.0) h.1

  items_read : (n : ℕ) (ds : Items) → ArePlainItems n ds → ItemsRead n ds
  items_read n no_items h = record { texts = tt; numbers = tt; depth = omega arith; same = refl }
  items_read n (item d ds) h = more_items n d ds (reads n d h.0) (items_read n ds h.1)

  members_read : (n : ℕ) (ms : Members) → ArePlainMembers n ms → MembersRead n ms
  members_read n no_members h = record { texts = tt; numbers = tt; depth = omega arith; same = λ found. refl }
  members_read n (member k d ms) h = more_members n k d ms (IsUtf8-from_is_utf8 k h.0) (reads n d h.1) (members_read n ms h.2)

pub plain_within : (n : ℕ) (d : Data) → n ≤ 127 → IsPlain n d → json_of (compact_text d) ≡ Some d
plain_within n d shallow h =
    let r = reads n d h in
    json_of_compact d r.texts r.numbers (omega (arith, shallow, r.depth)) r.same
