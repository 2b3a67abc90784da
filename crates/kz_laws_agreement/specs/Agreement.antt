-- Every step keeps each path of the migrated area in agreement with the log.
use Rattle.std.specs.Prelude.{ℤ, List}
use Rattle.kz_types.specs.declared.tree.Rendered.{Rendered}
use Rattle.kz_types.specs.declared.plan.Plan.{Plan}
use Rattle.kz_spec_machine.specs.Driver.{Shared, Driver, planned_step}
use Rattle.kz_spec_machine.specs.Machine.{pair_of}
use Rattle.kz_spec_machine.specs.Sound.{IsTime, IsSharedSound, IsSoundDriver}
use Rattle.kz_spec_machine.specs.Promises as promises

-- each path agrees with the log, in what is shared
abbrev pub PathsAgree : List Rendered → Shared → Type 0
PathsAgree source s = promises.PathsAgree source (pair_of s)

-- what the migrated area was at the commit, as is known after a step
abbrev pub source_after : List Rendered → Shared → List Rendered
source_after source s = promises.source_after source (pair_of s)

-- Every step keeps this, under every plan.
abbrev pub StepsKeepPaths : Type 0
StepsKeepPaths = (p : Plan) (source : List Rendered) (s : Shared) (running : List ℤ) (now : ℤ) (d : Driver) → IsTime now → IsSharedSound s → IsSoundDriver s d → PathsAgree source s → PathsAgree (source_after source s) (planned_step p s running now d).shared
