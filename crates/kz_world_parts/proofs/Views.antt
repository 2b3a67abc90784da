-- What the world and its drivers know of the log.
use Rattle.std.proofs.Common.{◌≡◌, ℕ, zero, suc, Bool, true, false, not, cond, ℤ, List, [], ◌∷◌, ◌++◌, filter, set, Option, Some, None, sym, ap, ◌∙◌, subst}
use Rattle.std.specs.Prelude.{slice_get, unwrap_or}
use Rattle.std.specs.Ordering.{int_eq}
use Rattle.kz_types.specs.declared.plan.Plan.{Plan}
use Rattle.kz_types.specs.declared.plan.Plan.TheVariants as plan
use Rattle.kz_spec_data.specs.Log.{Log, View, IsViewOf}
use Rattle.kz_spec_machine.specs.Driver.{Driver, elected_driver}
use Rattle.kz_spec_machine.specs.Machine.{is_running, drivers_without}
use Rattle.kz_spec_data.specs.Requests.{Disk}
use Rattle.kz_driver.specs.Disks.{Disks, disks_of}
use Rattle.kz_world_parts.specs.Worlds.{AreDistinct, AreViews, IsKept, elected_drivers}
use Rattle.kz_world_parts.proofs.Listings.{started_distinct, elected_ids, same_ids, filter_distinct}

-- ---- views of the drivers

each_still : (l m : Log) (ds : List Driver) → ((v : View) → IsViewOf l v → IsViewOf m v) → AreViews l ds → AreViews m ds
each_still l m [] still h = tt
each_still l m (d ∷ ds) still h = (still d.view h.0, each_still l m ds still h.1)

each_more : (l : Log) (ds : List Driver) (d : Driver) → AreViews l ds → IsViewOf l d.view → AreViews l (ds ++ d ∷ [])
each_more l [] d h own = (own, tt)
each_more l (x ∷ ds) d h own = (h.0, each_more l ds d h.1 own)

kept_if : (l : Log) (b : Bool) (d : Driver) (ds : List Driver) → IsViewOf l d.view → AreViews l ds → AreViews l (cond b (d ∷ ds) ds)
kept_if l true d ds own h = (own, h)
kept_if l false d ds own h = h

each_of_some : (l : Log) (p : Driver → Bool) (ds : List Driver) → AreViews l ds → AreViews l (filter p ds)
each_of_some l p [] h = tt
each_of_some l p (d ∷ ds) h = kept_if l (p d) d (filter p ds) h.0 (each_of_some l p ds h.1)

view_by : (l : Log) (b : Bool) (epoch : ℤ) (d : Driver) → IsViewOf l d.view → IsViewOf l (cond b (elected_driver epoch d) d).view
view_by l true epoch d h = h
view_by l false epoch d h = h

each_elected : (l : Log) (id epoch : ℤ) (ds : List Driver) → AreViews l ds → AreViews l (elected_drivers id epoch ds)
each_elected l id epoch [] h = tt
each_elected l id epoch (d ∷ ds) h = (view_by l (int_eq d.id id) epoch d h.0, each_elected l id epoch ds h.1)

each_set : (l : Log) (ds : List Driver) (at : ℕ) (d : Driver) → AreViews l ds → IsViewOf l d.view → AreViews l (set ds at d)
each_set l [] at d h own = tt
each_set l (x ∷ ds) zero d h own = (own, h.1)
each_set l (x ∷ ds) (suc at) d h own = (h.0, each_set l ds at d h.1 own)

pub view_at : (l : Log) (ds : List Driver) (at : ℕ) (d : Driver) → AreViews l ds → slice_get ds at ≡ Some d → IsViewOf l d.view
view_at l [] at d h is = absurd (cc)
view_at l (x ∷ ds) zero d h is = subst (λ (e : Driver). IsViewOf l e.view) (ap (λ (o : Option Driver). unwrap_or o d) is) h.0
view_at l (x ∷ ds) (suc at) d h is = view_at l ds at d h.1 is

-- ---- what is kept

pub kept_still : (tree log : Plan) (l m : Log) (own : View) (ds : List Driver) → ((v : View) → IsViewOf l v → IsViewOf m v) → IsKept tree log l own ds → IsKept tree log m own ds
kept_still tree log l m own ds still h = record { tree_delivers = h.tree_delivers; log_delivers = h.log_delivers; distinct = h.distinct; own = still own h.own; each = each_still l m ds still h.each }

pub kept_started : (tree log : Plan) (l : Log) (own : View) (ds : List Driver) (d : Driver) → IsKept tree log l own ds → IsViewOf l d.view → is_running d.id ds ≡ false → IsKept tree log l own (ds ++ d ∷ [])
kept_started tree log l own ds d h view none = record { tree_delivers = h.tree_delivers; log_delivers = h.log_delivers; distinct = started_distinct ds d h.distinct none; own = h.own; each = each_more l ds d h.each view }

pub kept_stopped : (tree log : Plan) (l : Log) (own : View) (ds : List Driver) (controller : Option ℤ) → IsKept tree log l own ds → IsKept tree log l own (drivers_without controller ds)
kept_stopped tree log l own ds None h = record { tree_delivers = h.tree_delivers; log_delivers = h.log_delivers; distinct = tt; own = h.own; each = tt }
kept_stopped tree log l own ds (Some id) h =
    let stays : Driver → Bool = λ d. not (int_eq d.id id) in
    record { tree_delivers = h.tree_delivers; log_delivers = h.log_delivers; distinct = filter_distinct stays ds h.distinct; own = h.own; each = each_of_some l stays ds h.each }

pub kept_elected : (tree log : Plan) (l : Log) (own : View) (id epoch : ℤ) (ds : List Driver) → IsKept tree log l own ds → IsKept tree log l own (elected_drivers id epoch ds)
kept_elected tree log l own id epoch ds h = record { tree_delivers = h.tree_delivers; log_delivers = h.log_delivers; distinct = subst AreDistinct (sym (elected_ids id epoch ds)) h.distinct; own = h.own; each = each_elected l id epoch ds h.each }

-- a driver made steps
pub kept_turned : (tree log new_tree new_log : Plan) (l m : Log) (own : View) (ds : List Driver) (at : ℕ) (d e : Driver) → new_tree ≡ plan.Deliver → new_log ≡ plan.Deliver → slice_get ds at ≡ Some d → e.id ≡ d.id → ((v : View) → IsViewOf l v → IsViewOf m v)
    → IsViewOf m e.view → IsKept tree log l own ds → IsKept new_tree new_log m own (set ds at e)
kept_turned tree log new_tree new_log l m own ds at d e tree_is log_is is same still view h =
    record { tree_delivers = tree_is; log_delivers = log_is; distinct = subst AreDistinct (sym (same_ids ds at d e is same)) h.distinct; own = still own h.own; each = each_set m ds at e (each_still l m ds still h.each) view }

-- a log that is only read leaves both disks as they were
pub read_keeps : (old new : Disks) → new.log ≡ old.log → new.tree ≡ old.tree → new ≡ old
read_keeps old new log tree = ap (λ (x : Disk). disks_of x new.log) tree ∙ ap (disks_of old.tree) log
