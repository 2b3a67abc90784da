-- Lines of a list that are put one after another.
use Rattle.std.proofs.Common.{◌≡◌, ℕ, List, [], ◌∷◌, ◌++◌, Option, refl, sym, ap, ◌∙◌, subst, append_assoc}
use Rattle.kz_output.specs.Outputs.{Puts, WritesFront}
use Rattle.kz_output.proofs.Chains.{nothing_put, one_more, from_nothing, front_then, front_of_more, front_of_flush}

-- Of a text, a front was put, and this rest is still to come.
pub record IsPutUpTo (taken : Option (List ℕ)) (held : List ℕ) (taken_now : Option (List ℕ)) (held_now : List ℕ) (whole rest : List ℕ) : Type 0 where
  pub front : List ℕ
  pub puts : Puts taken held taken_now held_now front
  pub whole_is : whole ≡ front ++ rest

pub at_start : (taken : Option (List ℕ)) (held whole : List ℕ) → IsPutUpTo taken held taken held whole whole
at_start taken held whole = record { front = []; puts = nothing_put taken held; whole_is = refl }

pub with_line : (t u v : Option (List ℕ)) (h i j line rest whole : List ℕ) → IsPutUpTo t h u i whole (line ++ rest) → Puts u i v j line → IsPutUpTo t h v j whole rest
with_line t u v h i j line rest whole so more = record {
  front = so.front ++ line;
  puts = one_more t u v h i j so.front line so.puts more;
  whole_is = so.whole_is ∙ sym (append_assoc so.front line rest);
}

pub at_fault : (t u v : Option (List ℕ)) (h i line rest whole : List ℕ) → IsPutUpTo t h u i whole (line ++ rest) → WritesFront u v (i ++ line) → WritesFront t v (h ++ whole)
at_fault t u v h i line rest whole so front =
    subst (λ x. WritesFront t v (h ++ x)) (append_assoc so.front line rest ∙ sym so.whole_is)
    (subst (λ x. WritesFront t v x) (append_assoc h (so.front ++ line) rest) (front_of_more t v (h ++ (so.front ++ line)) rest (front_then t u v h i so.front line so.puts front)))

-- ---- a text in two parts, of which the first is put into an empty buffer

module _ (h head rest : List ℕ) (none : h ≡ []) where
  pub head_fault : (t u : Option (List ℕ)) → WritesFront t u (h ++ head) → WritesFront t u (head ++ rest)
  head_fault t u w = front_of_more t u head rest (from_nothing t u h head none w)

  pub rest_fault : (t u v : Option (List ℕ)) (i : List ℕ) → Puts t h u i head → WritesFront u v (i ++ rest) → WritesFront t v (head ++ rest)
  rest_fault t u v i first w = from_nothing t v h (head ++ rest) none (front_then t u v h i head rest first w)

  pub flush_fault : (t u v x : Option (List ℕ)) (i j : List ℕ) → Puts t h u i head → Puts u i v j rest → WritesFront v x j → WritesFront t x (head ++ rest)
  flush_fault t u v x i j first next w = from_nothing t x h (head ++ rest) none (front_of_flush t v x h j (head ++ rest) (one_more t u v h i j head rest first next) w)

-- ---- a text in one part

pub text_flush_fault : (t u x : Option (List ℕ)) (h i text : List ℕ) → h ≡ [] → Puts t h u i text → WritesFront u x i → WritesFront t x text
text_flush_fault t u x h i text none first w = from_nothing t x h text none (front_of_flush t u x h i text first w)
