-- What is kept of other znodes.
use Rattle.std.specs.Prelude.{List}
use Rattle.kz_types.specs.declared.tree.Row.{Row}
use Rattle.kz_reader.specs.declared.known.Known.{Known}
use Rattle.kz_reader.specs.Seen.{IsOfIfAny, AreReadAt}

-- what is kept is what these znodes say
pub record IsKnown (rows : List Row) (k : Known) : Type 0 where
  pub last : IsOfIfAny rows k.last
  pub states : AreReadAt rows k.states
