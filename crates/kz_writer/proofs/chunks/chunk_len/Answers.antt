use Rattle.std.proofs.Common.{◌≡◌, ◌+◌, min, length, subst, ◌∙◌, arith}
use Rattle.kz_types.specs.declared.limits.TheConstants.{MAX_CHUNK, MAX_CHUNK_BYTES}
use Rattle.kz_writer.proofs.ChunkLengths.{first_bytes, stops, goes_on}
use Rattle.kz_writer.proofs.chunks.chunk_len.Goals as goal

pub returns-in-None-clause-count : goal.returns-in-None-clause-count
returns-in-None-clause-count c =
    c.max.ensures ∙ stops c.args.ops.now c.loop-count.count c.loop-count.bytes MAX_CHUNK c.index-ops-count.result (omega arith) (omega arith) c.index-ops-count.is c.loop-count.invariant c.in-None.ensures

pub returns-clause-count : goal.returns-clause-count
returns-clause-count c =
    let at : c.loop-count.count ≡ min (length c.args.ops.now) MAX_CHUNK = omega arith in
    c.min-most.ensures ∙ goes_on c.args.ops.now c.loop-count.bytes MAX_CHUNK (subst (λ n. first_bytes n c.args.ops.now + c.loop-count.bytes ≡ MAX_CHUNK_BYTES) at c.loop-count.invariant)
