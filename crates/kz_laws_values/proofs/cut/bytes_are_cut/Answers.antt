use Rattle.kz_laws_values.proofs.CutLines.{coming_byte, coming_end, coming_long, coming_much, coming_end_much, last_item}
use Rattle.kz_laws_values.proofs.cut.bytes_are_cut.Goals as goal

pub returns-clause-byte : goal.returns-clause-byte
returns-clause-byte c = coming_byte

pub returns-clause-feed : goal.returns-clause-feed
returns-clause-feed c = coming_end

pub returns-clause-long_line : goal.returns-clause-long_line
returns-clause-long_line c = coming_long

pub returns-clause-long_input : goal.returns-clause-long_input
returns-clause-long_input c = coming_much

pub returns-clause-feed_after_all : goal.returns-clause-feed_after_all
returns-clause-feed_after_all c = coming_end_much

pub returns-clause-last : goal.returns-clause-last
returns-clause-last c = λ l t some. last_item l some
