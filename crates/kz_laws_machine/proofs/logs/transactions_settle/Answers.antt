use Rattle.kz_laws_machine.proofs.Begun.{none_begun}
use Rattle.kz_laws_machine.proofs.CommitOf.{commit_is}
use Rattle.kz_laws_machine.proofs.Opened.{begin_opens, fill_keeps_open, commit_closes}
use Rattle.kz_laws_machine.proofs.Filled.{begin_stands, fill_stands}
use Rattle.kz_laws_machine.proofs.Batches.{fill_unmigrated}
use Rattle.kz_laws_machine.proofs.logs.transactions_settle.Goals as goal

pub returns-clause-none : goal.returns-clause-none
returns-clause-none c = none_begun

pub returns-clause-begin : goal.returns-clause-begin
returns-clause-begin c = λ l epoch now shape more settled. (begin_opens l epoch now shape more settled, begin_stands l epoch now shape)

pub returns-clause-fill : goal.returns-clause-fill
returns-clause-fill c = λ l epoch now from items records shape more all is so_far. (fill_keeps_open l epoch now items from shape more all is, fill_stands l from epoch now items records shape is so_far)

pub returns-clause-unmigrated : goal.returns-clause-unmigrated
returns-clause-unmigrated c = fill_unmigrated

pub returns-clause-closes : goal.returns-clause-closes
returns-clause-closes c = commit_closes

pub returns-clause-commit : goal.returns-clause-commit
returns-clause-commit c = commit_is
