-- Requests over a connection.
use Rattle.std.proofs.Common.{◌≡◌, ℤ, List, refl}
use Rattle.kz_types.specs.declared.record.MetaRecord.{MetaRecord}
use Rattle.kz_spec_data.specs.Log.{Log, append}

-- appends of equal values
pub same_append : {l m : Log} {epoch other now then : ℤ} → l ≡ m → epoch ≡ other → now ≡ then → (items : List MetaRecord) → append l epoch now items ≡ append m other then items
same_append h e n items = rw (h, e, n) refl
