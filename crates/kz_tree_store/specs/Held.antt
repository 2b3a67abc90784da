-- What the frames of a tree's file stand for, as it is held while they are read.
use Rattle.std.specs.Prelude.{◌≡◌, ℤ, pos, int_le, true, List}
use Rattle.std.specs.List.{list_all}
use Rattle.kz_spec_data.specs.TreeFile.{Load, fresh, under_way, over, Stored}
use Rattle.kz_tree_store.specs.declared.held.Loading.{Loading}
use Rattle.kz_tree_store.specs.declared.held.Loading.TheVariants as loading
use Rattle.kz_tree_store.specs.declared.held.Held.{Held}

abbrev pub load_of : Loading → Load
load_of loading.Fresh = fresh
load_of (loading.UnderWay rows) = under_way rows.items
load_of loading.Over = over

abbrev pub stored : Held → Stored
stored h = record { tree = h.tree; load = load_of h.load }

-- each session is at least 1
abbrev pub ArePositive : List ℤ → Type 0
ArePositive sessions = list_all (int_le (pos 1)) sessions ≡ true
