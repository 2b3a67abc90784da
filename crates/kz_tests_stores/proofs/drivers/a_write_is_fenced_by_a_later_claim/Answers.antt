use Rattle.kz_tests_stores.proofs.drivers.a_write_is_fenced_by_a_later_claim.Goals as goal

pub tells-requires-2 : goal.tells-requires-2
tells-requires-2 g c = c.tells.ensures.views c.migrated-stores.result.1.view (c.elect.ensures.views c.migrated-stores.result.1.view c.migrated-stores.ensures)
