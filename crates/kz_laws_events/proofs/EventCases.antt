-- Worlds after a controller starts, and after sessions and multis of clients.
use Rattle.std.proofs.Common.{◌≡◌, ◌≢◌, ◌⊎◌, inl, inr, ℤ, negsuc, ◌≤ℤ◌, int_le, Bool, true, false, cond, map, List, [], ◌∷◌, ◌++◌, Option, Some, None, is_some, All, refl, sym, ap, ◌∙◌, subst, arith}
use Rattle.std.specs.Prelude.{◌<ℤ◌, Result, Ok, Err}
use Rattle.std.specs.Ordering.{int_eq}
use Rattle.std.proofs.lemmas.Int.{ints}
use Rattle.kz_types.specs.declared.tree.Op.{Op}
use Rattle.kz_types.specs.declared.log.Entry.{Entry}
use Rattle.kz_types.specs.declared.fault.TreeFault.{TreeFault}
use Rattle.kz_types.specs.declared.move_fault.MoveFault.{MoveFault}
use Rattle.kz_types.specs.declared.machine.Event.TheVariants as event
use Rattle.kz_types.specs.declared.machine.Answer.{Answer}
use Rattle.kz_types.specs.declared.machine.Answer.TheVariants as answer
use Rattle.kz_spec_data.specs.Settlement.{open_begin, records_of_open}
use Rattle.kz_spec_data.specs.Tree.{Tree, multi, begin_session, end_session, rendered_row}
use Rattle.kz_spec_data.specs.Log.{Log, new_view, IsAt, IsViewOf, last_of, entries, entries_by}
use Rattle.kz_spec_machine.specs.Driver.{Shared, Driver, new_driver}
use Rattle.kz_spec_machine.specs.Machine.{World, driver_of, start_refusal, started_world, with_tree, moved_world, is_held_tree, client_refusal, client_world, unless_refused, next}
use Rattle.kz_spec_machine.specs.Sound.{IsId, TreeShape, LogShape, Agreement, IsSharedSound, IsSoundDriver, Each, Apart, Sound, IsSession, IsLawfulOp}
use Rattle.kz_laws_machine.specs.Effects.{IsUnchanged}
use Rattle.kz_laws_machine.proofs.Numbers.{less_or_same}
use Rattle.kz_laws_machine.proofs.DriverUnchanged.{others_unchanged}
use Rattle.kz_laws_machine.proofs.LogBatches.{not_at_most, filter_none}
use Rattle.kz_laws_machine.proofs.Ends.{entries_after, image_before}
use Rattle.kz_laws_machine.proofs.Sessions.{begin_leaves, end_leaves}
use Rattle.kz_laws_machine.proofs.Clients.{client_keeps_shape, client_leaves_held}
use Rattle.kz_laws_events.proofs.Worlds.{decided}

-- ---- a new driver

at_least : (b : ℤ) → negsuc 0 ≡ b → negsuc 0 ≤ℤ b
at_least b is = omega (arith, ints, is)

none_by_then : (l : Log) → LogShape l → negsuc 0 ≡ l.base → entries_by (negsuc 0) (entries l.batches) ≡ []
none_by_then l shape first =
    filter_none (negsuc 0) (λ (e : Entry). int_le e.offset (negsuc 0)) (entries l.batches) (λ e later. not_at_most (negsuc 0) e.offset later) (entries_after (negsuc 0) l.base l.batches (at_least l.base first) shape.log.follow)

new_at : (l : Log) → LogShape l → negsuc 0 ≡ l.base → IsAt l new_view
new_at l shape first = record {
  end = ([], map last_of l.batches, ap (λ (b : ℤ). b ∷ map last_of l.batches) (sym first));
  image = sym (image_before l shape (sym first));
  begun = sym (ap open_begin (none_by_then l shape first));
  kept = sym (ap records_of_open (none_by_then l shape first));
}

new_views : (l : Log) → LogShape l → (negsuc 0 <ℤ l.base) ⊎ (negsuc 0 ≡ l.base) → IsViewOf l new_view
new_views l shape (inl less) = inl less
new_views l shape (inr first) = inr (new_at l shape first)

new_fine : (s : Shared) (id : ℤ) → IsSharedSound s → IsId id → IsSoundDriver s (new_driver id)
new_fine s id kept is = record {
  id = is;
  epochs = tt;
  elected = tt;
  claims = tt;
  views = record {
    view = new_views s.log kept.log (less_or_same (negsuc 0) s.log.base kept.log.log.base);
    epoch_range = record { least = omega (arith, ints); most = omega (arith, ints) };
    migrated = λ migrated. absurd (cc);
    unknown = λ migrated none some. absurd (some refl);
  };
  own_record = record { low = λ o own. absurd (cc); rest = λ o r own found same end. absurd (cc) };
  leads = λ leads filling. absurd (cc);
  stage = tt;
}

-- ---- a controller that starts

found_by : (n e d : Driver) (b : Bool) (m more : Option Driver) → (more ≡ Some d → (m ≡ Some d) ⊎ (d ≡ n)) → cond b (Some e) more ≡ Some d → (cond b (Some e) m ≡ Some d) ⊎ (d ≡ n)
found_by n e d true m more later found = inl found
found_by n e d false m more later found = later found

last_found : (b : Bool) (n d : Driver) → cond b (Some n) None ≡ Some d → d ≡ n
last_found true n d found = cc
last_found false n d found = absurd (cc)

found_more : (drivers : List Driver) (n : Driver) (id : ℤ) (d : Driver) → driver_of id (drivers ++ n ∷ []) ≡ Some d → (driver_of id drivers ≡ Some d) ⊎ (d ≡ n)
found_more [] n id d found = inr (last_found (int_eq n.id id) n d found)
found_more (e ∷ drivers) n id d found = found_by n e d (int_eq e.id id) (driver_of id drivers) (driver_of id (drivers ++ n ∷ [])) (found_more drivers n id d) found

pub each_more : (P : Driver → Type 0) (drivers : List Driver) (n : Driver) → Each P drivers → P n → Each P (drivers ++ n ∷ [])
each_more P drivers n each own id d found = by_place (found_more drivers n id d found)
  where
    by_place : (driver_of id drivers ≡ Some d) ⊎ (d ≡ n) → P d
    by_place (inl before) = each id d before
    by_place (inr same) = subst P (sym same) own

apart_more : (drivers : List Driver) (n : Driver) → n.epoch ≡ None → Apart drivers → Apart (drivers ++ n ∷ [])
apart_more drivers n none apart i j d e found-d found-e differ some = by_places (found_more drivers n i d found-d) (found_more drivers n j e found-e)
  where
    by_places : (driver_of i drivers ≡ Some d) ⊎ (d ≡ n) → (driver_of j drivers ≡ Some e) ⊎ (e ≡ n) → d.epoch ≢ e.epoch
    by_places (inr same) y = absurd (some (ap (λ (x : Driver). x.epoch) same ∙ none))
    by_places (inl before) (inl also) = apart i j d e before also differ some
    by_places (inl before) (inr same) = λ equal. some (equal ∙ ap (λ (x : Driver). x.epoch) same ∙ none)

pub start_sound : (w : World) (id : ℤ) → IsId id → Sound w → Sound (next w (event.Start id)).0
unfolding next
start_sound w id is sound = decided Sound w (start_refusal w id) (started_world w id) answer.Done sound (record {
  kept = sound.kept;
  each = each_more (IsSoundDriver w.shared) w.drivers (new_driver id) sound.each (new_fine w.shared id sound.kept is);
  apart = apart_more w.drivers (new_driver id) refl sound.apart;
})

-- ---- changes of the tree that leave all that drivers read of it

agrees_unchanged : (t new : Tree) (l : Log) → IsUnchanged t new → Agreement t l → Agreement new l
agrees_unchanged t new l u old = record {
  holds = ap is_some u.shown ∙ old.holds;
  ended = old.ended;
  fits = old.fits;
  record_there = λ none. old.record_there (sym u.recorded ∙ none);
  recorded = λ r found.
      let a = old.recorded r (sym u.recorded ∙ found) in
      record { least = a.least; first = a.first; end = a.end; past = a.past; same = λ low closed. ap (map rendered_row) u.rows ∙ a.same low (sym u.unclosed ∙ closed) };
}

tree_sound : (w : World) (new : Tree) → TreeShape new → IsUnchanged w.shared.tree new → Sound w → Sound (with_tree w new)
tree_sound w new shape u sound = record {
  kept = record { tree = shape; log = sound.kept.log; before = sound.kept.before; agreement = λ migrated. agrees_unchanged w.shared.tree new w.shared.log u (sound.kept.agreement migrated) };
  each = λ id d found. others_unchanged w.shared new d u (sound.each id d found);
  apart = sound.apart;
}

moved_sound : (w : World) (r : Result Tree MoveFault) → ((new : Tree) → r ≡ Ok new → Sound (with_tree w new)) → Sound w → Sound (moved_world w r).0
moved_sound w (Ok new) made sound = made new refl
moved_sound w (Err f) made sound = sound

pub open_sound : (w : World) (session : ℤ) → IsSession session → Sound w → Sound (next w (event.ZkOpen session)).0
unfolding next
open_sound w session range sound =
    moved_sound w (begin_session w.shared.tree session) (λ new is. let both = begin_leaves w.shared.tree new session is sound.kept.tree in tree_sound w new (both.0 range) both.1 sound) sound

pub expire_sound : (w : World) (session : ℤ) → Sound w → Sound (next w (event.ZkExpire session)).0
unfolding next
expire_sound w session sound =
    moved_sound w (end_session w.shared.tree session) (λ new is. let both = end_leaves w.shared.tree new session is sound.kept.tree in tree_sound w new both.0 both.1 sound) sound

client_by : (w : World) (ops : List Op) (r : Result Tree TreeFault) → multi w.shared.tree ops ≡ r → All IsLawfulOp ops → is_held_tree w.shared.tree ≡ true → Sound w → client_refusal w.shared.tree ops ≡ None → Sound (client_world w r).0
client_by w ops (Ok new) is lawful held sound none =
    tree_sound w new (client_keeps_shape w.shared.tree new ops is none lawful sound.kept.tree) (client_leaves_held w.shared.tree new ops is none held sound.kept.tree) sound
client_by w ops (Err f) is lawful held sound none = sound

pub unless_taken : (P : World → Type 0) (w : World) (refusal : Option Answer) (rest : World × Answer) → P w → (refusal ≡ None → P rest.0) → P (unless_refused w refusal rest).0
unless_taken P w (Some a) rest old made = old
unless_taken P w None rest old made = made refl

pub client_sound : (w : World) (ops : List Op) → All IsLawfulOp ops → is_held_tree w.shared.tree ≡ true → Sound w → Sound (next w (event.Zk ops)).0
unfolding next
client_sound w ops lawful held sound =
    unless_taken Sound w (client_refusal w.shared.tree ops) (client_world w (multi w.shared.tree ops)) sound (client_by w ops (multi w.shared.tree ops) refl lawful held sound)
