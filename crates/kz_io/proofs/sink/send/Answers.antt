use Rattle.std.proofs.Common.{◌≡◌, ◌<◌, ◌++◌, ◌==◌, ◌&&◌, ℕ, List, length, true, nat_lt, sym, take, drop, arith, inl, ◌∙◌, append_assoc, take-append-drop}
use Rattle.std.proofs.lemmas.Bool.Decides.{nat_tests}
use Rattle.std.proofs.lemmas.Grind.{common_steps}
use Rattle.std.proofs.KnownBytes.{Appends-trans}
use Rattle.kz_io.proofs.sink.send.Goals as goal

-- a write that takes something hasn't failed
taking : (n : ℕ) (r : List ℕ) → 0 < n → ((n == 0) && nat_lt 0 (length r)) ≡ true → ⊥
taking n r some is = grind (arith, nat_tests)

pub loop-rest-preserved : goal.loop-rest-preserved
loop-rest-preserved g c =
    let inv = c.loop-rest.invariant in
    let n = c.in_ok-count.count in
    let r = c.loop-rest.rest.now in
    let some : 0 < n = omega arith in (
      inv.0 ++ take n r,
      grind (arith, common_steps, take-append-drop n r, append_assoc inv.0 (take n r) (drop n r)),
      Appends-trans _ _ _ inv.0 (take n r) inv.2 c.in_ok-count.ensures.bytes,
      c.in_ok-count.ensures.cause.calm (inl some) ∙ inv.3,
      c.in_ok-count.ensures.told ∙ inv.4,
      (λ is. absurd (taking n r some (sym c.in_ok-count.ensures.failed ∙ is))),
    )

pub returns-in_err-count-clause-told : goal.returns-in_err-count-clause-told
returns-in_err-count-clause-told g c = c.write.ensures.told ∙ c.loop-rest.invariant.4

pub returns-then-count-eq0-clause-told : goal.returns-then-count-eq0-clause-told
returns-then-count-eq0-clause-told g c = c.write.ensures.told ∙ c.loop-rest.invariant.4

pub returns-clause-told : goal.returns-clause-told
returns-clause-told g c = c.loop-rest.invariant.4

pub returns-clause-calm : goal.returns-clause-calm
returns-clause-calm g c = c.loop-rest.invariant.5
