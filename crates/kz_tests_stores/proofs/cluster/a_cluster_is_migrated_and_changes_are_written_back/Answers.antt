use Rattle.kz_tests_stores.proofs.cluster.a_cluster_is_migrated_and_changes_are_written_back.Goals as goal

pub tells-requires-3 : goal.tells-requires-3
tells-requires-3 g c = c.append-2.ensures _ c.tells-2.ensures.view
