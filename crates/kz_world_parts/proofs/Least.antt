-- The bound on the steps of a turn grows with each of its parts.
use Rattle.std.proofs.Common.{◌≤◌, ◌+◌, ◌*◌, ◌/◌, ◌<◌, ℕ, arith}
use Rattle.std.proofs.Math.Nat.{div-mul-le_self}
use Rattle.std.proofs.lemmas.Nat.{le-div}
use Rattle.kz_types.specs.declared.limits.TheConstants.{MAX_CHUNK, MAX_CHUNK_BYTES}
use Rattle.kz_spec_machine.specs.Machine.{Amount, no_amount, most_steps}

le_trans : (a b c : ℕ) → a ≤ b → b ≤ c → a ≤ c
le_trans a b c h k = omega (arith, h, k)

-- a quotient grows with what is divided
quotient_grows : (m n k : ℕ) → 0 < k → m ≤ n → m / k ≤ n / k
quotient_grows m n k some h = le-div (m / k) n k some (le_trans (m / k * k) m n (div-mul-le_self m k) h)

-- no record and no znode but those that are there make the fewest steps
pub least_of_all : (znodes : Amount) (records : ℕ) (rendered remaining : Amount) → most_steps znodes 0 no_amount remaining ≤ most_steps znodes records rendered remaining
least_of_all znodes records rendered remaining =
    let counts : (znodes.count + 0 + 2 * remaining.count) / MAX_CHUNK ≤ (znodes.count + rendered.count + 2 * remaining.count) / MAX_CHUNK = quotient_grows (znodes.count + 0 + 2 * remaining.count) (znodes.count + rendered.count + 2 * remaining.count) MAX_CHUNK (omega arith) (omega arith) in
    let bytes : (2 * (znodes.bytes + 0 + 2 * remaining.bytes)) / MAX_CHUNK_BYTES ≤ (2 * (znodes.bytes + rendered.bytes + 2 * remaining.bytes)) / MAX_CHUNK_BYTES = quotient_grows (2 * (znodes.bytes + 0 + 2 * remaining.bytes)) (2 * (znodes.bytes + rendered.bytes + 2 * remaining.bytes)) MAX_CHUNK_BYTES (omega arith) (omega arith) in
    omega (arith, counts, bytes)
