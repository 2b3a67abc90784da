-- Disks whose machine stops.
use Rattle.std.specs.Prelude.{ℕ, Bool}
use Rattle.kz_disk.specs.declared.stop.StopDisk.{StopDisk}

-- the disk that calls are passed to
abbrev pub inner_disk : {D : Type 0} → StopDisk D → D
inner_disk s = s.disk

-- how many calls are still passed on
abbrev pub calls_left : {D : Type 0} → StopDisk D → ℕ
calls_left s = s.left

-- how many were not passed on
abbrev pub refusals : {D : Type 0} → StopDisk D → ℕ
refusals s = s.refusals

-- whether there was one
abbrev pub is_stopped : {D : Type 0} → StopDisk D → Bool
is_stopped s = s.stopped
