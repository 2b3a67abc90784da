-- What a call that reads answers, and where the bytes stop being a transaction.
use Rattle.std.specs.Prelude.{◌≡◌, ℕ, ◌+◌, ⊤, [], ◌∷◌, Option, Some, None, Result, Ok, Err}
use Rattle.std.specs.Int.{w8}
use Rattle.kz_spec_data.specs.Fields.{Reading, ◌>>=◌}
use Rattle.kz_spec_data.specs.Transactions.{Flaw, IsAt, within, fields_at}
use Rattle.kz_spec_data.specs.declared.files.Txn.{Txn}
use Rattle.kz_txn.specs.declared.fault.TxnFault.{TxnFault}
use Rattle.kz_txn.specs.declared.fault.TxnFault.TheVariants.{Malformed, NoMemory}

-- A fault of a call, where this stands next: it tells the first bad byte of what stands there, or that memory ran out.
abbrev pub Fails : {Y : Type 0} → TxnFault → Result Y Flaw → Type 0
Fails (Malformed at) next = (flaw : Flaw) × (next ≡ Err flaw) × IsAt flaw at
Fails NoMemory next = ⊤

-- A call answers what stands next, seen by `view`, or the first fault.
abbrev pub Gives : {X Y : Type 0} → (X → Y) → Result X TxnFault → Result Y Flaw → Type 0
Gives view (Ok x) next = next ≡ Ok (view x)
Gives view (Err fault) next = Fails fault next

-- A call takes the next byte, or none is left.
abbrev pub TakesByte : Option ℕ → Reading → Reading → Type 0
TakesByte None old new = old.left ≡ []
TakesByte (Some byte) old new = (old.left ≡ byte ∷ new.left) × (new.at ≡ old.at + 1)

-- The transaction that stands next, whatever follows.
abbrev pub txn_at : Reading → Result (Txn × Reading) Flaw
txn_at r = (within w8 1 5).read r >>= fields_at
