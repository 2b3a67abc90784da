-- What a batch says that is written for values.
use Rattle.std.specs.Prelude.{ℕ, ℤ, pos, negsuc, ◌+ℤ◌, false, List, length}
use Rattle.kz_spec_data.specs.Batches.{BatchContents}

-- A batch of these values. Without a value its last offset is the one before the first.
abbrev pub contents_of : ℤ → ℤ → ℤ → List (List ℕ) → BatchContents
contents_of first epoch time values = record { first = first; epoch = epoch; time = time; last = first +ℤ (pos (length values) +ℤ negsuc 0); control = false; values = values }
