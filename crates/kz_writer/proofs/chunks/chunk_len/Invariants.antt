use Rattle.std.proofs.Common.{◌≡◌, ◌+◌}
use Rattle.kz_types.specs.declared.limits.TheConstants.{MAX_CHUNK_BYTES}
use Rattle.kz_writer.proofs.ChunkLengths.{first_bytes}
use Rattle.kz_writer.proofs.chunks.chunk_len.Given as goal

abbrev pub invariant-loop-count : goal.invariant-loop-count
invariant-loop-count l = first_bytes l.count l.ops + l.bytes ≡ MAX_CHUNK_BYTES
