use Rattle.kz_bytes.proofs.writer.+groups_size.Given as goal

abbrev pub decreases-groups_size : goal.decreases-groups_size
decreases-groups_size l = l.more
