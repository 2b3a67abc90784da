use Rattle.kz_paths.proofs.path_buffer.PathBuffer.+push_decimal.Given as goal

abbrev pub decreases-push_decimal : goal.decreases-push_decimal
decreases-push_decimal l = l.number
