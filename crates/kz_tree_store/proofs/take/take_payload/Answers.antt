use Rattle.kz_tree_store.specs.Held.{stored}
use Rattle.kz_tree_store.proofs.Positive.{begins_from_one, positive_by}
use Rattle.kz_tree_store.proofs.take.take_payload.Goals as goal

pub take_txn-requires : goal.take_txn-requires
take_txn-requires c = begins_from_one c.args.payload.now c.in-Ok.txn c.in-Ok.ensures

pub returns-in-Ok-clause-positive : goal.returns-in-Ok-clause-positive
returns-in-Ok-clause-positive c = positive_by c.take_txn.result (stored c.args.held.now) (stored c.take_txn.new.held) c.args.payload.now c.in-Ok.txn c.requires c.in-Ok.ensures c.take_txn.ensures
