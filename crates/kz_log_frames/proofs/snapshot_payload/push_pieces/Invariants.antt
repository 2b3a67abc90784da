use Rattle.std.proofs.Common.{take}
use Rattle.std.specs.List.{All, flat_map}
use Rattle.kz_spec_data.specs.LogFile.{piece_written}
use Rattle.kz_laws_znodes.specs.ReadBack.{IsBatchReadBack}
use Rattle.kz_log_frames.specs.Payloads.{Grows}
use Rattle.kz_log_frames.proofs.snapshot_payload.push_pieces.Given as goal

abbrev pub invariant-loop-row : goal.invariant-loop-row
invariant-loop-row l = record {
  grows : Grows l.fn.payload.items l.payload.items (flat_map piece_written (take l.row-index l.rows));
  records : All IsBatchReadBack (take l.row-index l.rows);
}
