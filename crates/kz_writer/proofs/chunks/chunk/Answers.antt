use Rattle.std.proofs.Common.{take, ap, ◌∙◌}
use Rattle.kz_types.specs.declared.limits.TheConstants.{MAX_CHUNK}
use Rattle.kz_spec_data.specs.Difference.{chunk_length}
use Rattle.kz_writer.proofs.ChunkLengths.{take_length}
use Rattle.kz_writer.proofs.chunks.chunk.Goals as goal

pub returns : goal.returns
returns c = ap (λ n. take n c.args.ops.now) c.chunk_len.ensures.count ∙ take_length (chunk_length MAX_CHUNK c.args.ops.now) c.args.ops.now
