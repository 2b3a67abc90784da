-- A load: its header, and znode after znode.
use Rattle.std.proofs.Common.{◌≡◌, ℕ, ℤ, pos, Bool, true, false, cond, not, ◌&&◌, ◌||◌, List, [], ◌∷◌, ◌++◌, Option, Some, None, is_some, is_none, Ordering, Less, Equal, Greater, int_cmp, refl, sym, ap, ◌∙◌, append_assoc, arith}
use Rattle.std.proofs.lemmas.List.{append-nil}
use Rattle.std.specs.Prelude.{◌+ℤ◌, ◌<ℤ◌, ◌≤ℤ◌, int_le}
use Rattle.std.specs.Cmp.{int_cmp_is}
use Rattle.std.specs.List.{list_all}
use Rattle.std.specs.Ordering.{match_ordering}
use Rattle.std.proofs.lemmas.Int.{ints}
use Rattle.kz_types.specs.declared.tree.Row.{Row}
use Rattle.kz_types.specs.declared.kind.Kind.{Kind}
use Rattle.kz_types.specs.declared.kind.Kind.TheVariants.{Entity, Scaffold, Stray}
use Rattle.kz_types.specs.Paths.{is_migrated, is_among, roots, is_scaffold_of_parts, parts, key_of, kind_of}
use Rattle.kz_types.specs.Order.{bytes_cmp}
use Rattle.kz_types.specs.Ordered.{RisesAbove}
use Rattle.kz_types.proofs.Order.{cmp_greater, bytes_order}
use Rattle.kz_types.proofs.Lookup.{Rises-put}
use Rattle.kz_spec_data.specs.Tree.{Tree, path_of_row, put_row}
use Rattle.kz_spec_data.specs.Loads.{LoadRefusal, broken, rise_from, is_header, is_before, is_reserved, is_loadable, row_refusal, are_loadable, is_load}
use Rattle.kz_tree.specs.Kept.{AreSessions}
use Rattle.kz_tree.specs.Loads.{IsChecked, with_row}

and_parts : (a b : Bool) → (a && b) ≡ true → (a ≡ true) × (b ≡ true)
and_parts true b h = (refl, h)
and_parts false b h = absurd (cc)

and_false : (a : Bool) → (a && false) ≡ false
and_false true = refl
and_false false = refl

-- ---- the header

later : (last s : ℤ) → int_le (last +ℤ pos 1) s ≡ true → last <ℤ s
later last s h = grind (arith, ints)

rise_above : (last : ℤ) (ss : List ℤ) → rise_from (last +ℤ pos 1) ss ≡ true → RisesAbove int_cmp (λ s. s) last ss
rise_above last [] h = tt
rise_above last (s ∷ ss) h =
    let parts = and_parts (int_le (last +ℤ pos 1) s) (rise_from (s +ℤ pos 1) ss) h in
    (sym (int_cmp_is last s Less (later last s parts.0)), rise_above s ss parts.1)

sessions_rise : (ss : List ℤ) → rise_from (pos 1) ss ≡ true → AreSessions ss
sessions_rise [] h = tt
sessions_rise (s ∷ ss) h = rise_above s ss (and_parts (int_le (pos 1) s) (rise_from (s +ℤ pos 1) ss) h).1

from_zero : (zxid : ℤ) → int_le (pos 0) zxid ≡ true → pos 0 ≤ℤ zxid
from_zero zxid h = grind (arith, ints)

pub header_checked : (zxid : ℤ) (ss : List ℤ) → is_header zxid ss ≡ true → IsChecked zxid ss []
header_checked zxid ss h =
    let parts = and_parts _ (rise_from (pos 1) ss) h in
    record {
      load = rw h refl;
      kept = record {
        zxid_from_zero = from_zero zxid (and_parts (int_le (pos 0) zxid) _ parts.0).0;
        sessions_rise = sessions_rise ss parts.1;
        paths_rise = tt;
      };
    }

-- ---- the kind of a path

-- a path of the migrated area has a kind of that area
pub not_reserved : (path : List ℕ) → is_migrated path ≡ true → is_reserved (kind_of path) ≡ false
unfolding kind_of
not_reserved path migrated = by_kind (is_some (key_of path)) (is_among roots path || is_scaffold_of_parts (parts path)) (is_migrated path) _ migrated
  where
    by_kind : (a b c : Bool) (other : Kind) → c ≡ true → is_reserved (cond a Entity (cond b Scaffold (cond c Stray other))) ≡ false
    by_kind true b c other e = refl
    by_kind false true c other e = refl
    by_kind false false true other e = refl
    by_kind false false false other e = absurd (cc)

-- ---- a path after all others

less_of : (o : Ordering) → match_ordering o true false false ≡ true → o ≡ Less
less_of Less h = refl
less_of Equal h = absurd (cc)
less_of Greater h = absurd (cc)

-- a znode whose path comes after all others is put at the end
put_last : (r : Row) (rows : List Row) → list_all (is_before r.path) rows ≡ true → put_row r rows ≡ rows ++ r ∷ []
put_last r [] h = refl
put_last r (x ∷ xs) h =
    let parts = and_parts (is_before r.path x) (list_all (is_before r.path) xs) h in
    rw (cmp_greater bytes_order r.path x.path (less_of (bytes_cmp x.path r.path) parts.0)) (ap (λ zs. x ∷ zs) (put_last r xs parts.1))

-- ---- a znode that is taken

keeps : (b : Bool) (rest : Option LoadRefusal) → cond (not b) (Some broken) rest ≡ None → b ≡ true
keeps true rest h = refl
keeps false rest h = absurd (cc)

comes_last : (zxid : ℤ) (ss : List ℤ) (rows : List Row) (r : Row) (b : Bool) → list_all (is_before r.path) rows ≡ b → is_loadable zxid ss rows r ≡ true → b ≡ true
unfolding is_loadable
comes_last zxid ss rows r true e h = refl
comes_last zxid ss rows r false e h = rw e at h

pub after_others : (zxid : ℤ) (ss : List ℤ) (rows : List Row) (r : Row) → row_refusal zxid ss rows r ≡ None → list_all (is_before r.path) rows ≡ true
after_others zxid ss rows r h = comes_last zxid ss rows r (list_all (is_before r.path) rows) refl (keeps (is_loadable zxid ss rows r) _ h)

pub taken_last : (zxid : ℤ) (ss : List ℤ) (rows next : List Row) (r : Row) → row_refusal zxid ss rows r ≡ None → next ≡ put_row r rows → next ≡ rows ++ r ∷ []
taken_last zxid ss rows next r h e = e ∙ put_last r rows (after_others zxid ss rows r h)

loadable_more : (zxid : ℤ) (ss : List ℤ) (before rows : List Row) (r : Row) → are_loadable zxid ss before rows ≡ true → row_refusal zxid ss (before ++ rows) r ≡ None → are_loadable zxid ss before (rows ++ r ∷ []) ≡ true
loadable_more zxid ss before [] r all h = rw (sym (ap (λ rows. row_refusal zxid ss rows r) (append-nil before)) ∙ h) refl
loadable_more zxid ss before (x ∷ xs) r all h =
    let parts = and_parts (is_none (row_refusal zxid ss before x)) (are_loadable zxid ss (before ++ x ∷ []) xs) all in
    rw parts.0 (loadable_more zxid ss (before ++ x ∷ []) xs r parts.1 (ap (λ rows. row_refusal zxid ss rows r) (append_assoc before (x ∷ []) xs) ∙ h))

load_more : (zxid : ℤ) (ss : List ℤ) (rows : List Row) (r : Row) → is_load zxid ss rows ≡ true → row_refusal zxid ss rows r ≡ None → is_load zxid ss (rows ++ r ∷ []) ≡ true
load_more zxid ss rows r load h =
    let parts = and_parts (is_header zxid ss) (are_loadable zxid ss [] rows) load in
    rw parts.0 (loadable_more zxid ss [] rows r parts.1 h)

pub row_checked : (zxid : ℤ) (ss : List ℤ) (rows next : List Row) (r : Row) → IsChecked zxid ss rows → row_refusal zxid ss rows r ≡ None → next ≡ put_row r rows → IsChecked zxid ss next
row_checked zxid ss rows next r old h e = record {
  load = ap (is_load zxid ss) (taken_last zxid ss rows next r h e) ∙ load_more zxid ss rows r old.load h;
  kept = record {
    zxid_from_zero = old.kept.zxid_from_zero;
    sessions_rise = old.kept.sessions_rise;
    paths_rise = rw e (Rises-put bytes_order path_of_row r rows old.kept.paths_rise);
  };
}

abbrev tree_of : ℤ → List ℤ → List Row → Tree
tree_of zxid ss rows = record { zxid = zxid; sessions = ss; rows = rows }

pub with_taken : (zxid : ℤ) (ss : List ℤ) (rows next : List Row) (r : Row) (t : Tree) → tree_of zxid ss rows ≡ t → next ≡ rows ++ r ∷ [] → tree_of zxid ss next ≡ with_row r t
with_taken zxid ss rows next r t is e = ap (tree_of zxid ss) e ∙ ap (with_row r) is
