-- What a connection to a store of a tree ends as, where the store is lent to be changed.
use Rattle.std.specs.Borrow.{Lends, Fml, RattleType, MutBor}
use Rattle.kz_connection.specs.Connections.{Wired}
use Rattle.kz_tree.specs.contracts.wire.Wire.{the_row}

-- once the loan ends, the connection has the store as it was left, and the plan and the count that it had
abbrev pub lends_store : (T : RattleType) → MutBor (Wired T.Denot) → MutBor T.Denot → Fml
lends_store T w r = Lends (the_row T) T w r (λ inner. record w.now { inner = inner })
