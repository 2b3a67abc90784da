-- The tagged parts of a partition change, as the code holds them.
use Rattle.std.specs.Prelude.{ℤ, List, Option}
use Rattle.kz_codec_read.specs.declared.tags.ChangeParts.{ChangeParts}

abbrev pub parts_of : ChangeParts → Option (List ℤ) × (ℤ × (Option (List ℤ) × (Option (List ℤ) × (Option (List ℤ) × ℤ))))
parts_of p = (p.isr, (p.leader, (p.replicas, (p.removing, (p.adding, p.recovery)))))
