-- What is true of every tree.
pub use Rattle.kz_tree_rows.specs.Kept.{AreRows}
use Rattle.std.specs.Prelude.{ℤ, pos, List, ◌≤ℤ◌}
use Rattle.std.specs.Ordering.{int_cmp}
use Rattle.kz_types.specs.declared.tree.Row.{Row}
use Rattle.kz_types.specs.Ordered.{Rises}
use Rattle.kz_tree_rows.specs.Kept.{AreRows}

-- the sessions rise, each stands once
abbrev pub AreSessions : List ℤ → Type 0
AreSessions sessions = Rises int_cmp (λ s. s) sessions

pub record IsKept (zxid : ℤ) (sessions : List ℤ) (rows : List Row) : Type 0 where
  pub zxid_from_zero : pos 0 ≤ℤ zxid
  pub sessions_rise : AreSessions sessions
  pub paths_rise : AreRows rows
