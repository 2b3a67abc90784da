use Rattle.std.proofs.Common.{◌≡◌, ◌∙◌, sym, subst, IfOk, IfErr}
use Rattle.std.proofs.lemmas.Result.{IfErr-weaker}
use Rattle.kz_log_store.specs.Stores.{store_disk, store_state, IsOpened, IsUnopened, HasOpenCause, LeftByOpening}
use Rattle.kz_log_store.proofs.Opening.{unopened, open_cause, settles, read_left}
use Rattle.kz_log_store.proofs.store.LogStore.attach.Goals as goal

pub read_log-requires-clause-up : goal.read_log-requires-clause-up
read_log-requires-clause-up g c = c.in-Ok.ensures.opened.up

pub read_log-requires-clause-letter : goal.read_log-requires-clause-letter
read_log-requires-clause-letter g c = c.in-Ok.ensures.opened.letter_is

pub read_log-requires-clause-all : goal.read_log-requires-clause-all
read_log-requires-clause-all g c = λ file told. c.in-Ok.ensures.opened.all file (sym c.in-Ok.ensures.opened.same ∙ told)

pub returns-in-Ok-clause-opened : goal.returns-in-Ok-clause-opened
returns-in-Ok-clause-opened g c = subst (λ t. IfOk c.read_log.result (λ s. IsOpened s t (g.D.Disk.told (store_disk s)))) c.in-Ok.ensures.opened.same c.read_log.ensures.opened

pub returns-in-Ok-clause-calm : goal.returns-in-Ok-clause-calm
returns-in-Ok-clause-calm g c = subst (λ n. IfOk c.read_log.result (λ s. (store_state g.D.Disk.faults s).faults ≡ n)) c.in-Ok.ensures.calm c.read_log.ensures.calm

pub returns-in-Ok-clause-refused : goal.returns-in-Ok-clause-refused
returns-in-Ok-clause-refused g c = subst (λ t. IfErr c.read_log.result (λ e. IsUnopened e.1 t (g.D.Disk.told e.0))) c.in-Ok.ensures.opened.same c.read_log.ensures.refused

pub returns-in-Ok-clause-cause : goal.returns-in-Ok-clause-cause
returns-in-Ok-clause-cause g c = subst (λ n. IfErr c.read_log.result (λ e. HasOpenCause e.1 n (g.D.Disk.faults e.0) (g.D.Disk.last_failed e.0))) c.in-Ok.ensures.calm c.read_log.ensures.cause

pub returns-in-Ok-clause-stop : goal.returns-in-Ok-clause-stop
returns-in-Ok-clause-stop g c =
    IfErr-weaker c.read_log.result _ (λ e. LeftByOpening (g.D.Disk.told c.args.disk) (g.D.Disk.may_leave c.args.disk) (g.D.Disk.syncs c.args.disk) (g.D.Disk.syncs e.0) (g.D.Disk.may_leave e.0))
    (λ e h. read_left (g.D.Disk.told c.args.disk) (g.D.Disk.may_leave c.args.disk) (g.D.Disk.may_leave e.0) (g.D.Disk.syncs c.args.disk) (g.D.Disk.syncs e.0) (λ file told. h file (c.in-Ok.ensures.opened.same ∙ told)))
    c.read_log.ensures.left

pub returns-in-Err-clause-refused : goal.returns-in-Err-clause-refused
returns-in-Err-clause-refused g c =
    subst (λ e. IsUnopened e.1 (g.D.Disk.told c.args.disk) (g.D.Disk.told e.0)) (sym c.not_opened.ensures) (unopened c.in-Err.refused.1 (g.D.Disk.told c.args.disk) (g.D.Disk.told c.in-Err.refused.0) c.in-Err.ensures.refused)

pub returns-in-Err-clause-cause : goal.returns-in-Err-clause-cause
returns-in-Err-clause-cause g c =
    subst (λ e. HasOpenCause e.1 (g.D.Disk.faults c.args.disk) (g.D.Disk.faults e.0) (g.D.Disk.last_failed e.0)) (sym c.not_opened.ensures)
    (open_cause c.in-Err.refused.1 (g.D.Disk.faults c.args.disk) (g.D.Disk.faults c.in-Err.refused.0) (g.D.Disk.last_failed c.in-Err.refused.0) c.in-Err.ensures.cause)

pub returns-in-Err-clause-stop : goal.returns-in-Err-clause-stop
returns-in-Err-clause-stop g c =
    subst (λ e. LeftByOpening (g.D.Disk.told c.args.disk) (g.D.Disk.may_leave c.args.disk) (g.D.Disk.syncs c.args.disk) (g.D.Disk.syncs e.0) (g.D.Disk.may_leave e.0)) (sym c.not_opened.ensures)
    (settles (g.D.Disk.told c.args.disk) (g.D.Disk.may_leave c.args.disk) (g.D.Disk.may_leave c.in-Err.refused.0) (g.D.Disk.syncs c.args.disk) (g.D.Disk.syncs c.in-Err.refused.0) c.in-Err.ensures.stop)
