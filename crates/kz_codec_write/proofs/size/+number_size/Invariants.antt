use Rattle.kz_codec_write.proofs.size.+number_size.Given as goal

abbrev pub decreases-number_size : goal.decreases-number_size
decreases-number_size l = l.more
