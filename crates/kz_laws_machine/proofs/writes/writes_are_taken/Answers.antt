use Rattle.kz_laws_machine.proofs.Writing.{held_remain, writes_taken, replies_taken}
use Rattle.kz_laws_machine.proofs.writes.writes_are_taken.Goals as goal

pub returns-clause-held : goal.returns-clause-held
returns-clause-held c = held_remain

pub returns-clause-code : goal.returns-clause-code
returns-clause-code c = writes_taken

pub returns-clause-reply : goal.returns-clause-reply
returns-clause-reply c = replies_taken
