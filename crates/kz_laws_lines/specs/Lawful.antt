-- What an operation and an event that a program holds must be, beside what their types say, to be those of a line: the texts,
-- the bytes and the ranges of numbers come from the types.
use Rattle.std.specs.Prelude.{◌≡◌, ◌≤◌, ⊤, true, ℤ, pos, negsuc, ◌≤ℤ◌, length, Option, Some, None, All}
use Rattle.kz_types.specs.Numbers.{are_distinct}
use Rattle.kz_types.specs.declared.machine.Event.{Event}
use Rattle.kz_types.specs.declared.machine.Event.TheVariants.{Quorum, Start, Stop, Elect, Step, Turn, Register, Change, Finalise, Rollback, Snapshot, Check, ZkOpen, ZkExpire, Zk}
use Rattle.kz_types.specs.declared.tree.Op.{Op}
use Rattle.kz_types.specs.declared.tree.Op.TheVariants as op

-- an id or a time, which isn't negative
abbrev pub IsNotNegative : ℤ → Type 0
IsNotNegative n = pos 0 ≤ℤ n

-- an id, if there is one
abbrev pub IsNotNegativeOrNone : Option ℤ → Type 0
IsNotNegativeOrNone None = ⊤
IsNotNegativeOrNone (Some n) = IsNotNegative n

-- a session of ZooKeeper is at least 1
abbrev pub IsPositive : ℤ → Type 0
IsPositive session = pos 1 ≤ℤ session

-- a version is at least -1, which is any
abbrev pub IsVersionOrAny : ℤ → Type 0
IsVersionOrAny version = negsuc 0 ≤ℤ version

-- the session that a znode ends with, if there is one
abbrev pub IsLawfulOwner : Option ℤ → Type 0
IsLawfulOwner None = ⊤
IsLawfulOwner (Some session) = IsPositive session

-- An operation of a line: its owner is a session, and its version is one or any.
abbrev pub IsLawfulOp : Op → Type 0
IsLawfulOp (op.Create path body owner) = IsLawfulOwner owner
IsLawfulOp (op.Set path body version) = IsVersionOrAny version
IsLawfulOp (op.Delete path version) = IsVersionOrAny version
IsLawfulOp (op.Check path version) = IsVersionOrAny version

-- An event of a line: ids and times aren't negative, the declared ids are distinct, a change has a record, sessions are at least
-- 1, and a client's multi has an operation, each of which is lawful.
abbrev pub IsLawfulEvent : Event → Type 0
IsLawfulEvent (Quorum ids) = All IsNotNegative ids × (are_distinct ids ≡ true)
IsLawfulEvent (Start controller) = IsNotNegative controller
IsLawfulEvent (Stop controller) = IsNotNegativeOrNone controller
IsLawfulEvent (Elect controller now) = IsNotNegative controller × IsNotNegative now
IsLawfulEvent (Step controller now plan) = IsNotNegative controller × IsNotNegative now
IsLawfulEvent (Turn controller now) = IsNotNegative controller × IsNotNegative now
IsLawfulEvent (Register controller broker migrating now) = IsNotNegative controller × IsNotNegative broker × IsNotNegative now
IsLawfulEvent (Change controller records now) = IsNotNegative controller × (1 ≤ length records) × IsNotNegative now
IsLawfulEvent (Finalise controller now) = IsNotNegative controller × IsNotNegative now
IsLawfulEvent Rollback = ⊤
IsLawfulEvent Snapshot = ⊤
IsLawfulEvent Check = ⊤
IsLawfulEvent (ZkOpen session) = IsPositive session
IsLawfulEvent (ZkExpire session) = IsPositive session
IsLawfulEvent (Zk ops) = (1 ≤ length ops) × All IsLawfulOp ops
