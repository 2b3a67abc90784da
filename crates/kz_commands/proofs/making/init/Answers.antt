use Rattle.std.proofs.Common.{◌∙◌}
use Rattle.kz_spec_data.specs.Frames.{tree_letter, log_letter}
use Rattle.kz_spec_machine.specs.Init.{tree_refusal, has_tree, log_refusal, has_log}
use Rattle.kz_commands.proofs.Made.{EmptyTree, EmptyLog, log_inits, taken_inits, done_inits, taken_either, made_told}
use Rattle.kz_commands.proofs.Left.{made_leaves}
use Rattle.kz_commands.proofs.Grown.{made_grown}
use Rattle.kz_commands.proofs.making.init.Goals as goal

pub returns-in-Err-clause-told : goal.returns-in-Err-clause-told
returns-in-Err-clause-told g c = λ is. absurd (c.in-Err.ensures.other.3 is)

pub returns-in-Err-find_log-clause-made : goal.returns-in-Err-find_log-clause-made
returns-in-Err-find_log-clause-made g c = record {
  ran = c.in-Err-find_log.ensures.other.1;
  files = λ t l new_t new_l is_t is_l is_new_t is_new_l. log_inits t l new_t new_l c.in-Ok.found.1 c.in-Err-find_log.status (c.in-Ok.ensures.found t new_t is_t is_new_t) c.in-Err-find_log.ensures.other.1 (c.in-Err-find_log.ensures.refused l new_l is_l is_new_l);
  tree_disk = record { cause = λ is. absurd (c.in-Err-find_log.ensures.other.0 is); calm = λ _ _. c.in-Ok.ensures.calm };
  log_disk = c.in-Err-find_log.ensures.cause;
}

pub returns-then-taken-clause-made : goal.returns-then-taken-clause-made
returns-then-taken-clause-made g c = record {
  ran = λ e. cc;
  files = λ t l new_t new_l is_t is_l is_new_t is_new_l. taken_inits t l new_t new_l c.in-Ok.found.1 c.in-Ok-find_log.found.1 (c.in-Ok.ensures.found t new_t is_t is_new_t) (c.in-Ok-find_log.ensures.found l new_l is_l is_new_l)
      (taken_either c.is_taken.result c.is_taken-2.result _ _ _ c.is_taken.ensures c.is_taken-2.ensures c.if-taken.true);
  tree_disk = record { cause = λ e. cc; calm = λ _ _. c.in-Ok.ensures.calm };
  log_disk = record { cause = λ e. cc; calm = λ _ _. c.in-Ok-find_log.ensures.calm };
}

pub returns-in-Ok-make-2-clause-made : goal.returns-in-Ok-make-2-clause-made
returns-in-Ok-make-2-clause-made g c = record {
  ran = λ e. cc;
  files = λ t l new_t new_l is_t is_l is_new_t is_new_l. done_inits t l new_t new_l _ _ _ _ c.in-Ok.found.1 c.in-Ok-find_log.found.1 (λ x told. c.in-Ok.ensures.found t x is_t told) (λ x told. c.in-Ok-find_log.ensures.found l x is_l told)
      (taken_either c.is_taken.result c.is_taken-2.result _ _ _ c.is_taken.ensures c.is_taken-2.ensures c.if-taken.false)
      c.in-Ok-make.ensures.made c.in-Ok-make-2.ensures.made is_new_t is_new_l;
  tree_disk = record { cause = λ e. cc; calm = λ _ _. c.in-Ok-make.ensures.calm ∙ c.in-Ok.ensures.calm };
  log_disk = record { cause = λ e. cc; calm = λ _ _. c.in-Ok-make-2.ensures.calm ∙ c.in-Ok-find_log.ensures.calm };
}

pub returns-in-Ok-make-2-clause-told : goal.returns-in-Ok-make-2-clause-told
returns-in-Ok-make-2-clause-told g c = λ _. made_told tree_letter c.in-Ok.found.1 _ _ _ c.in-Ok.ensures.told.0 c.in-Ok-make.ensures.made

pub returns-in-Err-clause-grown : goal.returns-in-Err-clause-grown
returns-in-Err-clause-grown g c = λ is. absurd (c.in-Err.ensures.other.3 is)

pub returns-in-Err-find_log-clause-told : goal.returns-in-Err-find_log-clause-told
returns-in-Err-find_log-clause-told g c = λ is. absurd (c.in-Err-find_log.ensures.other.3 is)

pub returns-in-Err-find_log-clause-grown : goal.returns-in-Err-find_log-clause-grown
returns-in-Err-find_log-clause-grown g c = λ is. absurd (c.in-Err-find_log.ensures.other.3 is)

pub returns-in-Ok-make-2-clause-grown : goal.returns-in-Ok-make-2-clause-grown
returns-in-Ok-make-2-clause-grown g c = λ _.
    made_grown tree_letter tree_refusal has_tree EmptyTree (g.D.Disk.told c.args.tree) (g.D.Disk.told c.in-Ok.found.0) (g.D.Disk.told c.in-Ok-make.tree) c.in-Ok.found.1 c.in-Ok.ensures.told.0 c.in-Ok.ensures.told.1 c.in-Ok.ensures.found c.in-Ok-make.ensures.made

pub returns-in-Err-find_log-clause-settled : goal.returns-in-Err-find_log-clause-settled
returns-in-Err-find_log-clause-settled g c = λ is. absurd (c.in-Err-find_log.ensures.other.3 is)

pub returns-in-Err-make-clause-tree_left : goal.returns-in-Err-make-clause-tree_left
returns-in-Err-make-clause-tree_left g c =
    made_leaves tree_letter tree_refusal has_tree EmptyTree (g.D.Disk.told c.args.tree) (g.D.Disk.told c.in-Ok.found.0) (g.D.Disk.may_leave c.args.tree) (g.D.Disk.may_leave c.in-Ok.found.0) (g.D.Disk.may_leave c.in-Err-make.tree) c.in-Ok.found.1
    c.in-Ok.ensures.settled c.in-Ok.ensures.left c.in-Ok.ensures.found c.in-Err-make.ensures.left

pub returns-in-Ok-make-2-clause-tree_left : goal.returns-in-Ok-make-2-clause-tree_left
returns-in-Ok-make-2-clause-tree_left g c =
    made_leaves tree_letter tree_refusal has_tree EmptyTree (g.D.Disk.told c.args.tree) (g.D.Disk.told c.in-Ok.found.0) (g.D.Disk.may_leave c.args.tree) (g.D.Disk.may_leave c.in-Ok.found.0) (g.D.Disk.may_leave c.in-Ok-make.tree) c.in-Ok.found.1
    c.in-Ok.ensures.settled c.in-Ok.ensures.left c.in-Ok.ensures.found c.in-Ok-make.ensures.left

pub returns-in-Ok-make-2-clause-log_left : goal.returns-in-Ok-make-2-clause-log_left
returns-in-Ok-make-2-clause-log_left g c =
    made_leaves log_letter log_refusal has_log EmptyLog (g.E.Disk.told c.args.log) (g.E.Disk.told c.in-Ok-find_log.found.0) (g.E.Disk.may_leave c.args.log) (g.E.Disk.may_leave c.in-Ok-find_log.found.0) (g.E.Disk.may_leave c.in-Ok-make-2.log) c.in-Ok-find_log.found.1
    c.in-Ok-find_log.ensures.settled c.in-Ok-find_log.ensures.left c.in-Ok-find_log.ensures.found c.in-Ok-make-2.ensures.left

pub returns-in-Err-make-2-clause-tree_left : goal.returns-in-Err-make-2-clause-tree_left
returns-in-Err-make-2-clause-tree_left g c =
    made_leaves tree_letter tree_refusal has_tree EmptyTree (g.D.Disk.told c.args.tree) (g.D.Disk.told c.in-Ok.found.0) (g.D.Disk.may_leave c.args.tree) (g.D.Disk.may_leave c.in-Ok.found.0) (g.D.Disk.may_leave c.in-Ok-make.tree) c.in-Ok.found.1
    c.in-Ok.ensures.settled c.in-Ok.ensures.left c.in-Ok.ensures.found c.in-Ok-make.ensures.left

pub returns-in-Err-make-2-clause-log_left : goal.returns-in-Err-make-2-clause-log_left
returns-in-Err-make-2-clause-log_left g c =
    made_leaves log_letter log_refusal has_log EmptyLog (g.E.Disk.told c.args.log) (g.E.Disk.told c.in-Ok-find_log.found.0) (g.E.Disk.may_leave c.args.log) (g.E.Disk.may_leave c.in-Ok-find_log.found.0) (g.E.Disk.may_leave c.in-Err-make-2.log) c.in-Ok-find_log.found.1
    c.in-Ok-find_log.ensures.settled c.in-Ok-find_log.ensures.left c.in-Ok-find_log.ensures.found c.in-Err-make-2.ensures.left
