-- What a connection to a log ends as, where the log is lent to be changed.
use Rattle.std.specs.Borrow.{Lends, Fml, RattleType, MutBor}
use Rattle.kz_connection.specs.Connections.{Wired}
use Rattle.kz_log.specs.contracts.wire.LogWire.{the_row}

-- once the loan ends, the connection has the log as it was left, and the plan and the count that it had
abbrev pub lends_log : (L : RattleType) → MutBor (Wired L.Denot) → MutBor L.Denot → Fml
lends_log L w r = Lends (the_row L) L w r (λ inner. record w.now { inner = inner })
