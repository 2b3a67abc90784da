-- The parts of a difference, an item at a time.
use Rattle.std.proofs.Common.{◌≡◌, ℕ, suc, ◌+◌, ◌-◌, ◌<◌, List, [], ◌∷◌, ◌++◌, length, drop, map, get_or, Option, Some, None, option_map, refl, sym, ap, ◌∙◌, arith, add-one, drop-cons, append_assoc}
use Rattle.std.proofs.lemmas.List.{map-append}
use Rattle.kz_types.specs.declared.tree.Op.{Op}
use Rattle.kz_types.specs.declared.tree.Rendered.{Rendered}
use Rattle.kz_types.specs.Order.{bytes_cmp}
use Rattle.kz_types.specs.Ordered.{find}
use Rattle.kz_types.specs.Difference.{drops, makes, drop_unless, make_or_alter}
use Rattle.kz_spec_data.specs.Tree.{path_of_rendered}
use Rattle.kz_spec_data.specs.Difference.{op_of, same_body, diff}
use Rattle.kz_writer.specs.Parts.{delete_of, put_of, deletes, puts}

deletes-cons : (r : Rendered) (have want : List Rendered) → deletes (r ∷ have) want ≡ deletes have want ++ delete_of r want
deletes-cons r have want = map-append op_of (drops bytes_cmp path_of_rendered have want) (drop_unless r.path (find bytes_cmp path_of_rendered r.path want))

puts-cons : (have : List Rendered) (r : Rendered) (want : List Rendered) → puts have (r ∷ want) ≡ put_of have r ++ puts have want
puts-cons have r want = map-append op_of (make_or_alter same_body r (find bytes_cmp path_of_rendered r.path have)) (makes bytes_cmp path_of_rendered same_body have want)

cut : {A : Type 0} (xs : List A) (i : ℕ) (x : A) → i < length xs → x ≡ get_or xs i x → drop i xs ≡ x ∷ drop (i + 1) xs
cut xs i x h e = rw (add-one, drop-cons xs i x h) (ap (λ y. y ∷ drop (suc i) xs) (sym e))

-- one znode more from the end, where `f` gives the path and body of each
pub next_delete : {A : Type 0} (f : A → Rendered) (have : List A) (want : List Rendered) (done : ℕ) (x : A) (first before now : List Op) → done < length have → x ≡ get_or have (length have - 1 - done) x
    → before ≡ first ++ deletes (map f (drop (length have - done) have)) want → now ≡ before ++ delete_of (f x) want → now ≡ first ++ deletes (map f (drop (length have - (done + 1)) have)) want
next_delete f have want done x first before now h e old new =
    let i = length have - 1 - done in
    let place : length have - (done + 1) ≡ i = omega arith in
    let next : i + 1 ≡ length have - done = omega arith in
    let within : i < length have = omega arith in
    let parts : deletes (map f (drop (length have - (done + 1)) have)) want ≡ deletes (map f (drop (length have - done) have)) want ++ delete_of (f x) want =
    ap (λ n. deletes (map f (drop n have)) want) place ∙ ap (λ xs. deletes (map f xs) want) (cut have i x within e) ∙ deletes-cons (f x) (map f (drop (i + 1) have)) want
    ∙ ap (λ n. deletes (map f (drop n have)) want ++ delete_of (f x) want) next in
    new ∙ ap (λ ops. ops ++ delete_of (f x) want) old ∙ append_assoc first (deletes (map f (drop (length have - done) have)) want) (delete_of (f x) want) ∙ ap (λ ops. first ++ ops) (sym parts)

-- one znode more from the front
pub next_put : (have want : List Rendered) (i : ℕ) (x : Rendered) (first before now : List Op) → i < length want → x ≡ get_or want i x
    → before ++ puts have (drop i want) ≡ first → now ≡ before ++ put_of have x → now ++ puts have (drop (i + 1) want) ≡ first
next_put have want i x first before now h e old new =
    ap (λ ops. ops ++ puts have (drop (i + 1) want)) new ∙ append_assoc before (put_of have x) (puts have (drop (i + 1) want))
    ∙ ap (λ ops. before ++ ops) (sym (puts-cons have x (drop (i + 1) want)) ∙ ap (λ rs. puts have rs) (sym (cut want i x h e))) ∙ old

-- both parts, one after the other
pub both_parts : (have want : List Rendered) (none first all : List Op) → none ≡ [] → first ≡ none ++ deletes have want → all ≡ first ++ puts have want → all ≡ diff have want
unfolding diff
both_parts have want none first all start deleted put =
    put ∙ ap (λ ops. ops ++ puts have want) (deleted ∙ ap (λ ops. ops ++ deletes have want) start)
    ∙ sym (map-append op_of (drops bytes_cmp path_of_rendered have want) (makes bytes_cmp path_of_rendered same_body have want))

-- one change after another of what is there
pub option_map-twice : {A B C : Type 0} (f : A → B) (g : B → C) (x : Option A) → option_map (λ a. g (f a)) x ≡ option_map g (option_map f x)
option_map-twice f g None = refl
option_map-twice f g (Some a) = refl
