-- The first refusal is told, and the fault is one of the check before a rollback.
use Rattle.std.proofs.Common.{◌≡◌, None, Option, Result, Ok, Err, IfErr, sym, ap, ◌∙◌, subst}
use Rattle.kz_types.specs.declared.machine.Answer.{Answer}
use Rattle.kz_spec_data.specs.Requests.{Disk, Done, ReadsDisk}
use Rattle.kz_exit.specs.declared.faults.ExitFault.{ExitFault}
use Rattle.kz_exit.specs.declared.faults.ExitFault.TheVariants.{Finalised, Unclosed, Behind, Log, Tree, NoMemory}
use Rattle.kz_exit.specs.Faults.{IsRestFault}
use Rattle.kz_exit.specs.Requests.{IsReadFault, IsViewFault, IsCheckFault, ReadDisk, CheckDisk}
use Rattle.kz_spec_machine.specs.Machine.{first_of}

pub first_told : (said later : Option Answer) (f : ExitFault) → IsRestFault said f → IsRestFault (first_of said later) f
first_told said later Finalised h = absurd h
first_told said later (Unclosed path) h = ap (λ o. first_of o later) h
first_told said later (Behind recorded end) h = ap (λ o. first_of o later) h
first_told said later (Log f) h = absurd h
first_told said later (Tree f) h = absurd h
first_told said later NoMemory h = tt

pub later_told : (said later : Option Answer) (f : ExitFault) → said ≡ None → IsRestFault later f → IsRestFault (first_of said later) f
later_told said later f none h = subst (λ o. IsRestFault (first_of o later) f) (sym none) h

pub none_told : (said later : Option Answer) → said ≡ None → later ≡ None → first_of said later ≡ None
none_told said later none h = ap (λ o. first_of o later) none ∙ h

-- what refuses the end of a migration refuses a rollback
pub rest_viewed : (said : Option Answer) (f : ExitFault) → IsRestFault said f → IsViewFault said f
rest_viewed said Finalised h = absurd h
rest_viewed said (Unclosed path) h = h
rest_viewed said (Behind recorded end) h = h
rest_viewed said (Log f) h = absurd h
rest_viewed said (Tree f) h = absurd h
rest_viewed said NoMemory h = tt

-- ---- the log was read

viewed : (said : Option Answer) (f : ExitFault) → IsViewFault said f → IsCheckFault said f
viewed said Finalised h = h
viewed said (Unclosed path) h = h
viewed said (Behind recorded end) h = h
viewed said (Log f) h = absurd h
viewed said (Tree f) h = absurd h
viewed said NoMemory h = tt

pub viewed_checked : (said : Option Answer) (r : Result (Unit {0}) ExitFault) → IfErr r (IsViewFault said) → IfErr r (IsCheckFault said)
viewed_checked said (Ok told) h = tt
viewed_checked said (Err f) h = viewed said f h

viewed_err : (said : Option Answer) (f : ExitFault) (old new : Disk) → IsViewFault said f → ReadsDisk Done old new → CheckDisk (Err f) old new
viewed_err said Finalised old new h disk = disk
viewed_err said (Unclosed path) old new h disk = disk
viewed_err said (Behind recorded end) old new h disk = disk
viewed_err said (Log f) old new h disk = absurd h
viewed_err said (Tree f) old new h disk = absurd h
viewed_err said NoMemory old new h disk = disk.1

pub viewed_disk : (said : Option Answer) (r : Result (Unit {0}) ExitFault) (old new : Disk) → IfErr r (IsViewFault said) → ReadsDisk Done old new → CheckDisk r old new
viewed_disk said (Ok told) old new h disk = disk
viewed_disk said (Err f) old new h disk = viewed_err said f old new h disk

-- ---- the log wasn't read

pub read_checked : (said : Option Answer) (f : ExitFault) → IsReadFault f → IsCheckFault said f
read_checked said Finalised h = absurd h
read_checked said (Unclosed path) h = absurd h
read_checked said (Behind recorded end) h = absurd h
read_checked said (Log f) h = h
read_checked said (Tree f) h = absurd h
read_checked said NoMemory h = tt

pub read_disk : (f : ExitFault) (old new : Disk) → IsReadFault f → ReadDisk (Err f) old new → CheckDisk (Err f) old new
read_disk Finalised old new h disk = absurd h
read_disk (Unclosed path) old new h disk = absurd h
read_disk (Behind recorded end) old new h disk = absurd h
read_disk (Log f) old new h disk = disk
read_disk (Tree f) old new h disk = absurd h
read_disk NoMemory old new h disk = disk
