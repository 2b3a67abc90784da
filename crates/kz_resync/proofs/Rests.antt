-- The items that remain of those that remain.
use Rattle.std.proofs.Common.{◌≡◌, ℕ, zero, suc, ◌+◌, ◌-◌, min, List, [], ◌∷◌, length, drop, take, sym, ap, ◌∙◌, arith}
use Rattle.std.proofs.lemmas.List.{drop_min, length-take}
use Rattle.std.proofs.Math.Seq.{drop-nil}
use Rattle.kz_types.specs.declared.limits.TheConstants.{MAX_CHUNK}
use Rattle.kz_types.specs.declared.tree.Op.{Op}
use Rattle.kz_spec_data.specs.Difference.{chunk_length, chunk, after_chunk}

none_done : (len c : ℕ) → 0 + min (len - 0) c ≡ min c len
none_done len c = omega arith

one_done : (len d c : ℕ) → suc d + min (suc len - suc d) c ≡ suc (d + min (len - d) c)
one_done len d c = omega arith

pub dropped_twice : {T : Type 0} → (d c : ℕ) (xs : List T) → drop (d + min (length xs - d) c) xs ≡ drop c (drop d xs)
dropped_twice zero c xs = ap (λ n. drop n xs) (none_done (length xs) c) ∙ drop_min c xs
dropped_twice (suc d) c [] = drop-nil (suc d + min (0 - suc d) c) ∙ sym (drop-nil c)
dropped_twice (suc d) c (x ∷ xs) = ap (λ n. drop n (x ∷ xs)) (one_done (length xs) d c) ∙ dropped_twice d c xs

-- what remains after the operations of a write
pub dropped_chunk : (ops : List Op) → drop (length (chunk ops)) ops ≡ after_chunk ops
dropped_chunk ops = ap (λ n. drop n ops) (length-take (chunk_length MAX_CHUNK ops) ops) ∙ drop_min (chunk_length MAX_CHUNK ops) ops
