-- What begins no transaction.
use Rattle.std.proofs.Common.{◌≡◌, ℤ, pos, ◌+ℤ◌, Bool, true, false, List, [], ◌∷◌, All, refl, sym, append-nil}
use Rattle.std.proofs.lemmas.List.Elements.{All-nil, All-cons}
use Rattle.kz_types.specs.declared.codes.TheConstants.{PRE_MIGRATION}
use Rattle.kz_types.specs.declared.record.MetaRecord.{MetaRecord}
use Rattle.kz_types.specs.declared.record.MetaRecord.TheVariants as meta
use Rattle.kz_spec_data.specs.Settlement.{is_marker}
use Rattle.kz_spec_data.specs.Log.{Log, end_of, new_batch, with_batch, is_migrated_log, is_open_log}
use Rattle.kz_spec_machine.specs.Driver.{Shared}
use Rattle.kz_spec_machine.specs.Machine.{next_epoch}
use Rattle.kz_spec_machine.specs.Promises.{HoldsNoMarker, BeginsNone}
use Rattle.kz_laws_machine.proofs.Opened.{elected_records}
use Rattle.kz_laws_events.proofs.Grown.{migrated_settled}
use Rattle.kz_laws_events.proofs.Elected.{MayElect, gets_state, elected_of}

unmarked_batch : (first epoch now : ℤ) (items : List MetaRecord) → All (λ (r : MetaRecord). is_marker r ≡ false) items → All HoldsNoMarker (record { first = first; epoch = epoch; time = now; items = items } ∷ [])
unmarked_batch first epoch now items unmarked = All-cons HoldsNoMarker (record { first = first; epoch = epoch; time = now; items = items }) [] unmarked (All-nil HoldsNoMarker)

-- a batch more without a marker begins no transaction
pub batch_begins : (l : Log) (epoch now : ℤ) (items : List MetaRecord) → All (λ (r : MetaRecord). is_marker r ≡ false) items → BeginsNone l (with_batch l epoch now items)
batch_begins l epoch now items unmarked = record {
  new = new_batch l epoch now items ∷ [];
  base = refl;
  base_image = refl;
  appended = refl;
  unmarked = unmarked_batch (end_of l +ℤ pos 1) epoch now items unmarked;
}

pub same_begins : (l : Log) → BeginsNone l l
same_begins l = record { new = []; base = refl; base_image = refl; appended = sym (append-nil l.batches); unmarked = All-nil HoldsNoMarker }

-- ---- elections

-- an election writes no marker where no transaction is open
unmarked_election : (opened first : Bool) → opened ≡ false → All (λ (r : MetaRecord). is_marker r ≡ false) (elected_records opened first)
unmarked_election true first settled = absurd (cc)
unmarked_election false true settled =
    All-cons (λ (r : MetaRecord). is_marker r ≡ false) meta.NoOp (meta.ZkMigrationState PRE_MIGRATION ∷ []) refl
    (All-cons (λ (r : MetaRecord). is_marker r ≡ false) (meta.ZkMigrationState PRE_MIGRATION) [] refl (All-nil (λ (r : MetaRecord). is_marker r ≡ false)))
unmarked_election false false settled = All-cons (λ (r : MetaRecord). is_marker r ≡ false) meta.NoOp [] refl (All-nil (λ (r : MetaRecord). is_marker r ≡ false))

pub election_begins : (s : Shared) (now : ℤ) → MayElect s → is_migrated_log s.log ≡ true → BeginsNone s.log (elected_of s.log now)
election_begins s now m migrated =
    batch_begins s.log (next_epoch s.log) now (elected_records (is_open_log s.log) (gets_state s.log))
    (unmarked_election (is_open_log s.log) (gets_state s.log) (migrated_settled s.tree s.log m.kept.log (m.kept.agreement migrated)))
