-- What a rollback makes of a tree and a log.
use Rattle.std.specs.Prelude.{◌≡◌, ◌⊎◌, Some, None, Ok}
use Rattle.kz_types.specs.declared.machine.Answer.{Answer}
use Rattle.kz_types.specs.declared.machine.Answer.TheVariants as answer
use Rattle.kz_spec_data.specs.Tree.{Tree as TreeValue}
use Rattle.kz_spec_data.specs.Log.{Log as LogValue, reset}
use Rattle.kz_spec_machine.specs.Machine.{exit_refusal, exit_ops, tree_after_ops}
use Rattle.kz_exit.specs.declared.faults.ExitFault.{ExitFault}
use Rattle.kz_exit.specs.declared.faults.ExitFault.TheVariants.{Finalised, Unclosed, Behind, Log, Tree, NoMemory}
use Rattle.kz_exit.specs.Faults.{IsLogFault, IsTreeFault}

-- The migration is taken back: nothing refuses it, the log is reset, and the tree is given back to ZooKeeper.
pub record IsTakenBack (t : TreeValue) (l : LogValue) (new_tree : TreeValue) (new_log : LogValue) : Type 0 where
  pub taken : exit_refusal t l ≡ None
  pub log : new_log ≡ reset l
  pub tree : tree_after_ops t (exit_ops t) ≡ Ok new_tree

-- The rollback is refused, and changed nothing.
pub record IsRefused (refusal : Answer) (t : TreeValue) (l : LogValue) (new_tree : TreeValue) (new_log : LogValue) : Type 0 where
  pub refused : exit_refusal t l ≡ Some refusal
  pub tree : new_tree ≡ t
  pub log : new_log ≡ l

-- What a rollback that ended with this fault left of the tree and the log.
abbrev pub IsLeft : TreeValue → LogValue → TreeValue → LogValue → ExitFault → Type 0
IsLeft t l new_tree new_log Finalised = IsRefused answer.Finalised t l new_tree new_log
IsLeft t l new_tree new_log (Unclosed path) = IsRefused (answer.Unclosed path) t l new_tree new_log
IsLeft t l new_tree new_log (Behind recorded end) = IsRefused (answer.Behind recorded end) t l new_tree new_log
IsLeft t l new_tree new_log (Log f) = IsLogFault (exit_refusal t l) f × (new_tree ≡ t) × (new_log ≡ l)
IsLeft t l new_tree new_log (Tree f) = (exit_refusal t l ≡ None) × IsTreeFault (tree_after_ops t (exit_ops t)) f × (new_tree ≡ t) × (new_log ≡ reset l)
IsLeft t l new_tree new_log NoMemory = (new_tree ≡ t) × ((new_log ≡ l) ⊎ ((exit_refusal t l ≡ None) × (new_log ≡ reset l)))
