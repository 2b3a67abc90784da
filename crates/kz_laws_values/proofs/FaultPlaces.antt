-- The place of a path's fault is one.
use Rattle.std.proofs.Common.{◌≡◌, ℕ, ◌+◌, ◌<◌, ◌≤◌, true, ⊎_elim, List, [], ◌++◌, length, take, drop, sym, ap, ◌∙◌, subst, append_assoc, append-nil, take-take, take_all, take-append-drop, arith}
use Rattle.std.proofs.str.Laws.{order}
use Rattle.kz_types.specs.PathRule.{has_path_form, BeginsPath}
use Rattle.kz_types.specs.Faults.{IsFaultPlace}

-- fewer of the bytes with which some path begins
fewer_go : (front more : List ℕ) (n : ℕ) → has_path_form (front ++ more) ≡ true → BeginsPath (take n front)
fewer_go front more n h = (drop n front ++ more, ap has_path_form (sym (append_assoc (take n front) (drop n front) more) ∙ ap (λ l. l ++ more) (take-append-drop n front)) ∙ h)

pub goes_before : (bytes : List ℕ) (at n : ℕ) → IsFaultPlace BeginsPath bytes at → n ≤ at → BeginsPath (take n bytes)
goes_before bytes at n p le = subst BeginsPath (take-take n at bytes le) (fewer_go (take at bytes) p.some.0 n p.some.1)

pub none_after : (bytes more : List ℕ) (at n : ℕ) → IsFaultPlace BeginsPath bytes at → at < n → at < length bytes → has_path_form (take n bytes ++ more) ≡ true → ⊥
none_after bytes more at n p lt in_bytes h = p.none in_bytes (subst BeginsPath (take-take (at + 1) n bytes (omega (arith, lt))) (fewer_go (take n bytes) more (at + 1) h))

pub one_place : (bytes : List ℕ) (at other : ℕ) → IsFaultPlace BeginsPath bytes at → IsFaultPlace BeginsPath bytes other → at ≡ other
one_place bytes at other p q =
    ⊎_elim (λ lt. absurd (none_after bytes q.some.0 at other p lt (let w = q.within in omega (arith, lt, w)) q.some.1))
    (λ le. ⊎_elim (λ lt. absurd (none_after bytes p.some.0 other at q lt (let w = p.within in omega (arith, lt, w)) p.some.1)) (λ ge. omega (arith, le, ge)) (order other at))
    (order at other)

pub end_of_path : (bytes : List ℕ) → has_path_form bytes ≡ true → IsFaultPlace BeginsPath bytes (length bytes)
end_of_path bytes h = record {
  within = omega arith;
  some = ([], ap has_path_form (append-nil (take (length bytes) bytes) ∙ take_all (length bytes) bytes (omega arith)) ∙ h);
  none = λ lt g. omega (arith, lt);
}
