-- What is found at the batch ends, path by path.
use Rattle.std.proofs.Common.{◌≡◌, ℕ, suc, ◌+◌, ◌-◌, ◌<◌, Bool, true, false, not, ◌&&◌, ◌||◌, cond, ℤ, ◌≤ℤ◌, int_le, int_lt, List, [], ◌∷◌, ◌++◌, length, map, take, drop, set, get_or, add-one, drop-cons, Option, Some, None, is_none, option_map, filter, refl, sym, ap, ◌∙◌, subst, arith}
use Rattle.std.proofs.lemmas.Bool.{false≢true}
use Rattle.std.proofs.lemmas.Grind.{common_steps}
use Rattle.std.proofs.lemmas.Int.{ints}
use Rattle.std.proofs.lemmas.List.Edits.{map_over_more}
use Rattle.std.specs.List.{find, list_any, filter_map, cons_option}
use Rattle.kz_types.specs.declared.tree.Rendered.{Rendered}
use Rattle.kz_types.specs.declared.machine.AheadPath.{AheadPath}
use Rattle.kz_types.specs.declared.machine.Verdict.{Verdict}
use Rattle.kz_types.specs.declared.machine.Verdict.TheVariants.{Ahead, Disagrees}
use Rattle.kz_types.specs.Order.{bytes_cmp}
use Rattle.kz_types.specs.Ordered.{all_put}
use Rattle.kz_spec_data.specs.Tree.{Tree, area, path_of_rendered}
use Rattle.kz_spec_data.specs.Log.{Log, batch_ends, image_at}
use Rattle.kz_spec_data.specs.Rendering.{render}
use Rattle.kz_spec_machine.specs.Verdicts.{agrees_at, disagrees, ahead_path, paths_at, unless_disagrees, closed_or_ahead, verdict_at}
use Rattle.kz_verdict.specs.declared.comparison.Found.{Found}
use Rattle.kz_verdict.specs.Agreement.{agrees_in, first_among, found_among, marked_by, marked_here, found_at, is_disagreeing, ahead_of, found_verdict, found_closed_or_ahead, unless_one_disagrees}

-- ---- one batch end more

reached : (x y : ℤ) → y ≤ℤ x → int_le y x ≡ true
reached x y h = grind (arith, ints)

at_itself : (x : ℤ) → int_le x x ≡ true
at_itself x = grind (arith, ints)

abbrev found : List ℕ → Bool → Option ℤ → Found
found path here first = record { path = path; here = here; first = first }

mark_first : (b : Bool) (path : List ℕ) (here : Bool) (end : ℤ) (later : Option ℤ) → cond b (found path here (Some end)) (found path here later) ≡ found path here (cond b (Some end) later)
mark_first true path here end later = refl
mark_first false path here end later = refl

all_marked : (m : Found → Found) (f g : List ℕ → Found) (ps : List (List ℕ)) → ((p : List ℕ) → m (f p) ≡ g p) → map m (map f ps) ≡ map g ps
all_marked m f g [] same = refl
all_marked m f g (p ∷ ps) same = ap (λ x. x ∷ map m (map f ps)) (same p) ∙ ap (λ xs. g p ∷ xs) (all_marked m f g ps same)

one_here : (there : List Rendered) (l : Log) (offset : ℤ) (ends : List ℤ) (p : List ℕ) → int_le offset offset ≡ true → marked_here offset (found_among there l offset ends p) ≡ found_among there l offset (offset ∷ ends) p
one_here there l offset ends p h =
    rw h (mark_first (agrees_in there (render (image_at l offset)) p) p (agrees_in there (render (image_at l offset)) p) offset (first_among there l offset ends p))

-- at the offset itself it is known where the two agree
pub end_here : (there : List Rendered) (l : Log) (offset end : ℤ) (ends : List ℤ) (ps : List (List ℕ)) (fs : List Found) → end ≡ offset → fs ≡ map (found_among there l offset ends) ps
    → map (marked_here end) fs ≡ map (found_among there l offset (end ∷ ends)) ps
end_here there l offset end ends ps fs e is =
    ap (map (marked_here end)) is
    ∙ subst (λ x. map (marked_here x) (map (found_among there l offset ends) ps) ≡ map (found_among there l offset (x ∷ ends)) ps) (sym e)
    (all_marked (marked_here offset) (found_among there l offset ends) (found_among there l offset (offset ∷ ends)) ps (λ p. one_here there l offset ends p (at_itself offset)))

one_later : (there : List Rendered) (l : Log) (offset end : ℤ) (ends : List ℤ) (p : List ℕ) → int_le offset end ≡ true
    → marked_by end there (render (image_at l end)) (found_among there l offset ends p) ≡ found_among there l offset (end ∷ ends) p
one_later there l offset end ends p h =
    rw h (mark_first (agrees_in there (render (image_at l end)) p) p (agrees_in there (render (image_at l offset)) p) end (first_among there l offset ends p))

pub end_later : (there rendering : List Rendered) (l : Log) (offset end : ℤ) (ends : List ℤ) (ps : List (List ℕ)) (fs : List Found) → offset ≤ℤ end → rendering ≡ render (image_at l end) → fs ≡ map (found_among there l offset ends) ps
    → map (marked_by end there rendering) fs ≡ map (found_among there l offset (end ∷ ends)) ps
end_later there rendering l offset end ends ps fs h r is =
    ap (λ x. map (marked_by end there x) fs) r ∙ ap (map (marked_by end there (render (image_at l end)))) is
    ∙ all_marked (marked_by end there (render (image_at l end))) (found_among there l offset ends) (found_among there l offset (end ∷ ends)) ps (λ p. one_later there l offset end ends p (reached end offset h))

-- ---- a mark at each place

length-set : (fs : List Found) (i : ℕ) (f : Found) → length (set fs i f) ≡ length fs
length-set fs i f = grind (arith, common_steps)

pub marked_more : (m : Found → Found) (xs ys : List Found) (i : ℕ) (x y : Found) → i < length xs → (ys ≡ map m (take i xs) ++ drop i xs) × (length ys ≡ length xs) → x ≡ get_or ys i x → y ≡ m x
    → (set ys i y ≡ map m (take (i + 1) xs) ++ drop (i + 1) xs) × (length (set ys i y) ≡ length xs)
marked_more m xs ys i x y h before is e = (ap (set ys i) e ∙ map_over_more m xs ys i x h before.0 is, length-set ys i y ∙ before.1)

-- ---- what is found at all paths

pub found_along : (t : Tree) (l : Log) (o offset : ℤ) (there here : List Rendered) (before after : List Found) → o ≡ offset → there ≡ area t → here ≡ area t
    → before ≡ map (found_among there l o []) (map path_of_rendered (all_put bytes_cmp path_of_rendered (render (image_at l o)) there))
    → ((paths : List (List ℕ)) → before ≡ map (found_among here l o []) paths → after ≡ map (found_among here l o (batch_ends l)) paths)
    → after ≡ map (found_at t l offset) (paths_at t l offset)
found_along t l o offset there here before after oe te he start all =
    let begun : before ≡ map (found_among here l o []) (paths_at t l offset) =
    start ∙ ap (λ h. map (found_among h l o []) (map path_of_rendered (all_put bytes_cmp path_of_rendered (render (image_at l o)) h))) te
    ∙ ap (λ h. map (found_among h l o []) (paths_at t l o)) (sym he)
    ∙ ap (λ x. map (found_among here l o []) (paths_at t l x)) oe in
    all (paths_at t l offset) begun ∙ ap (λ h. map (found_among h l o (batch_ends l)) (paths_at t l offset)) he
    ∙ ap (λ x. map (found_among (area t) l x (batch_ends l)) (paths_at t l offset)) oe

-- ---- from what is found to the verdict

none_here : (a b : Bool) (e : ℤ) (later : Option ℤ) → not b ≡ is_none later → not (a || b) ≡ is_none (cond a (Some e) later)
none_here true b e later h = refl
none_here false b e later h = h

any_here : (q : Bool) (p : ℤ → Bool) (e : ℤ) (rest : List ℤ) (later : Option ℤ) → not (list_any p rest) ≡ is_none later → not (list_any p (cond q (e ∷ rest) rest)) ≡ is_none (cond (q && p e) (Some e) later)
any_here true p e rest later h = none_here (p e) (list_any p rest) e later h
any_here false p e rest later h = h

-- an end from the offset on agrees where a first one does
any_is_first : (t : Tree) (l : Log) (offset : ℤ) (path : List ℕ) (ends : List ℤ)
    → not (list_any (agrees_at t l path) (filter (λ e. int_le offset e) ends)) ≡ is_none (first_among (area t) l offset ends path)
any_is_first t l offset path [] = refl
any_is_first t l offset path (e ∷ ends) = any_here (int_le offset e) (agrees_at t l path) e (filter (λ x. int_le offset x) ends) (first_among (area t) l offset ends path) (any_is_first t l offset path ends)

disagrees_is : (t : Tree) (l : Log) (offset : ℤ) (is_closed : Bool) (path : List ℕ) → disagrees t l offset is_closed path ≡ is_disagreeing is_closed (found_at t l offset path)
disagrees_is t l offset is_closed path = ap (λ b. b || (is_closed && not (agrees_at t l path offset))) (any_is_first t l offset path (batch_ends l))

one_more : (b c : Bool) (path : List ℕ) (f : Found) (x : Option (List ℕ)) (y : Option Found) (rest : Verdict) → b ≡ c → f.path ≡ path → unless_disagrees x rest ≡ unless_one_disagrees y rest
    → unless_disagrees (cond b (Some path) x) rest ≡ unless_one_disagrees (cond c (Some f) y) rest
one_more true true path f x y rest same is h = ap Disagrees (sym is)
one_more false false path f x y rest same is h = h
one_more true false path f x y rest same is h = cc
one_more false true path f x y rest same is h = cc

first_disagreeing : (t : Tree) (l : Log) (offset : ℤ) (is_closed : Bool) (paths : List (List ℕ)) (rest : Verdict)
    → unless_disagrees (find (disagrees t l offset is_closed) paths) rest ≡ unless_one_disagrees (find (is_disagreeing is_closed) (map (found_at t l offset) paths)) rest
first_disagreeing t l offset is_closed [] rest = refl
first_disagreeing t l offset is_closed (p ∷ ps) rest =
    one_more (disagrees t l offset is_closed p) (is_disagreeing is_closed (found_at t l offset p)) p (found_at t l offset p) (find (disagrees t l offset is_closed) ps)
    (find (is_disagreeing is_closed) (map (found_at t l offset) ps)) rest (disagrees_is t l offset is_closed p) refl (first_disagreeing t l offset is_closed ps rest)

apart : (x y : ℤ) → (x ≡ y → ⊥) → int_lt x y ≡ int_le x y
apart x y h = grind (arith, ints)

and_false : (a : Bool) → a && false ≡ false
and_false true = refl
and_false false = refl

later_by : (x y : ℤ) (p : ℤ → Bool) (b : Bool) → p x ≡ false → p y ≡ b → (int_lt x y && b) ≡ (int_le x y && b)
later_by x y p true none here = ap (λ a. a && true) (apart x y (λ e. false≢true (sym none ∙ ap p e ∙ here)))
later_by x y p false none here = and_false (int_lt x y) ∙ sym (and_false (int_le x y))

-- where the offset itself doesn't agree, the first end from it on is the first after it
first_is_later : (t : Tree) (l : Log) (offset : ℤ) (path : List ℕ) (ends : List ℤ) → agrees_at t l path offset ≡ false
    → find (λ e. int_lt offset e && agrees_at t l path e) ends ≡ first_among (area t) l offset ends path
first_is_later t l offset path [] none = refl
first_is_later t l offset path (e ∷ ends) none =
    ap (λ b. cond b (Some e) (find (λ x. int_lt offset x && agrees_at t l path x) ends)) (later_by offset e (agrees_at t l path) (agrees_at t l path e) none refl)
    ∙ ap (λ r. cond (int_le offset e && agrees_at t l path e) (Some e) r) (first_is_later t l offset path ends none)

abbrev ahead_at : List ℕ → Option ℤ → Option AheadPath
ahead_at path first = option_map (λ e. record { path = path; offset = e }) first

ahead_by : (b : Bool) (path : List ℕ) (x y : Option ℤ) → (b ≡ false → x ≡ y) → cond b None (ahead_at path x) ≡ cond b None (ahead_at path y)
ahead_by true path x y h = refl
ahead_by false path x y h = ap (ahead_at path) (h refl)

ahead_is : (t : Tree) (l : Log) (offset : ℤ) (path : List ℕ) → ahead_path t l offset path ≡ ahead_of (found_at t l offset path)
ahead_is t l offset path = ahead_by (agrees_at t l path offset) path _ _ (first_is_later t l offset path (batch_ends l))

all_ahead_is : (t : Tree) (l : Log) (offset : ℤ) (paths : List (List ℕ)) → filter_map (ahead_path t l offset) paths ≡ filter_map ahead_of (map (found_at t l offset) paths)
all_ahead_is t l offset [] = refl
all_ahead_is t l offset (p ∷ ps) =
    ap (λ a. cons_option a (filter_map (ahead_path t l offset) ps)) (ahead_is t l offset p) ∙ ap (cons_option (ahead_of (found_at t l offset p))) (all_ahead_is t l offset ps)

closed_is : (t : Tree) (l : Log) (offset : ℤ) (is_closed : Bool) → closed_or_ahead t l offset is_closed ≡ found_closed_or_ahead offset is_closed (map (found_at t l offset) (paths_at t l offset))
closed_is t l offset true = refl
closed_is t l offset false = ap (Ahead offset) (all_ahead_is t l offset (paths_at t l offset))

pub verdict_found : (t : Tree) (l : Log) (offset : ℤ) (is_closed : Bool) → verdict_at t l offset is_closed ≡ found_verdict offset is_closed (map (found_at t l offset) (paths_at t l offset))
verdict_found t l offset is_closed =
    first_disagreeing t l offset is_closed (paths_at t l offset) (closed_or_ahead t l offset is_closed)
    ∙ ap (unless_one_disagrees (find (is_disagreeing is_closed) (map (found_at t l offset) (paths_at t l offset)))) (closed_is t l offset is_closed)

-- ---- batch ends from the last on

pub cut_at : {A : Type 0} (xs : List A) (i : ℕ) (x : A) → i < length xs → x ≡ get_or xs i x → drop i xs ≡ x ∷ drop (i + 1) xs
cut_at xs i x h is = rw (add-one, drop-cons xs i x h) (ap (λ y. y ∷ drop (suc i) xs) (sym is))

pub ends_more : (es : List ℤ) (done : ℕ) (end : ℤ) → done < length es → end ≡ get_or es (length es - 1 - done) end → end ∷ drop (length es - done) es ≡ drop (length es - (done + 1)) es
ends_more es done end h is =
    let i = length es - 1 - done in
    let place : length es - (done + 1) ≡ i = omega arith in
    let next : length es - done ≡ i + 1 = omega arith in
    let here : i < length es = omega arith in
    ap (λ n. end ∷ drop n es) next ∙ sym (ap (λ n. drop n es) place ∙ cut_at es i end here is)
