-- What a connection ends as, where its store is lent to be changed.
use Rattle.std.specs.Borrow.{Lends, Fml, RattleType, MutBor}
use Rattle.kz_connection.specs.Connections.{Wired}
use Rattle.kz_connection.specs.contracts.Connection.{the_row}

-- once the loan ends, the connection has the store as it was left, and the plan and the count that it had
abbrev pub lends_inner : (T : RattleType) → MutBor (Wired T.Denot) → MutBor T.Denot → Fml
lends_inner T c r = Lends (the_row T) T c r (λ inner. record c.now { inner = inner })
