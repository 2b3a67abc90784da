-- What ZooKeeper clients leave.
use Rattle.std.specs.Prelude.{◌≡◌, ℤ, true, false, Some, None, ⊤}
use Rattle.kz_types.specs.declared.machine.Event.{Event}
use Rattle.kz_types.specs.declared.machine.Event.TheVariants as event
use Rattle.kz_spec_machine.specs.Driver.{Driver}
use Rattle.kz_spec_machine.specs.Machine.{World, driver_of, is_held_tree, next}
use Rattle.kz_spec_machine.specs.Sound.{Sound}
use Rattle.kz_spec_machine.specs.InStep.{InStep}
use Rattle.kz_laws_machine.specs.Effects.{IsUnchanged}

-- a session of a ZooKeeper client that begins or ends, or a client's multi
abbrev pub IsOfClient : Event → Type 0
IsOfClient (event.ZkOpen session) = ⊤
IsOfClient (event.ZkExpire session) = ⊤
IsOfClient (event.Zk ops) = ⊤
IsOfClient e = ⊥

-- While a KRaft controller holds the tree, such an event leaves the log, the drivers, and all that they rest on.
abbrev pub ClientsLeaveHeld : Type 0
ClientsLeaveHeld = (w : World) (e : Event) → IsOfClient e → Sound w → is_held_tree w.shared.tree ≡ true
    → IsUnchanged w.shared.tree (next w e).0.shared.tree × ((next w e).0.shared.log ≡ w.shared.log) × ((next w e).0.drivers ≡ w.drivers)

-- So a tree that is in step with the log stays so.
abbrev pub ClientsKeepStep : Type 0
ClientsKeepStep = (w : World) (e : Event) → IsOfClient e → Sound w → is_held_tree w.shared.tree ≡ true → InStep w.shared → InStep (next w e).0.shared

-- While none holds the tree, no driver has a claim.
abbrev pub UnheldIsUnclaimed : Type 0
UnheldIsUnclaimed = (w : World) (id : ℤ) (d : Driver) → Sound w → is_held_tree w.shared.tree ≡ false → driver_of id w.drivers ≡ Some d → d.claim ≡ None
