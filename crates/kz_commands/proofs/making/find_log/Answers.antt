use Rattle.std.proofs.Common.{ℕ, List, [], ◌∷◌, ◌++◌, Option, IfOk, IfErr, refl, subst}
use Rattle.kz_spec_data.specs.Frames.{log_letter, plain_header, closed_gate, new_file}
use Rattle.kz_spec_machine.specs.Init.{log_refusal, has_log}
use Rattle.kz_commands.specs.declared.making.Found.{Found}
use Rattle.kz_commands.specs.Making.{IsShortFound, IsLogFound, IsRefusedFor, OfFile}
use Rattle.kz_commands.proofs.Made.{short_found, short_log_none, short_no_log, EmptyLog, summed_log, plain_log, same_told}
use Rattle.kz_commands.proofs.making.find_log.Goals as goal

pub returns-in-Ok-Some-clause-found : goal.returns-in-Ok-Some-clause-found
returns-in-Ok-Some-clause-found g c = λ file new told told_now.
    short_found log_letter log_refusal has_log EmptyLog (plain_header log_letter ++ closed_gate ∷ []) (new_file log_letter) file new c.in-Ok-Some.found (short_log_none file) (short_no_log file) summed_log plain_log refl refl (same_told _ _ file new c.in-Ok-Some.ensures.same told told_now)
    (subst (λ (o : Option Found). IsShortFound (plain_header log_letter ++ closed_gate ∷ []) (new_file log_letter) file o) c.in-Ok-Some.field-0-is (c.in-Ok-Some.ensures.found file told))

pub returns-in-Ok-None-clause-refused : goal.returns-in-Ok-None-clause-refused
returns-in-Ok-None-clause-refused g c =
    subst (λ (before : Option (List ℕ)). IfErr c.look_through_log.result (λ e. OfFile before (g.E.Disk.told e.0) (IsRefusedFor log_letter log_refusal) e.1)) c.in-Ok-None.ensures.same c.look_through_log.ensures.refused

pub returns-in-Ok-None-clause-found : goal.returns-in-Ok-None-clause-found
returns-in-Ok-None-clause-found g c =
    subst (λ (before : Option (List ℕ)). IfOk c.look_through_log.result (λ f. OfFile before (g.E.Disk.told f.0) IsLogFound f.1)) c.in-Ok-None.ensures.same c.look_through_log.ensures.found
