-- The sessions of a tree that is read are at least 1.
use Rattle.std.proofs.Common.{◌≡◌, ◌⊎◌, inl, inr, ℕ, zero, suc, ◌+◌, ◌-◌, ◌*◌, ◌^◌, ◌≤◌, ℤ, pos, ◌+ℤ◌, ◌≤ℤ◌, Bool, true, false, cond, List, [], ◌∷◌, length, Option, Some, None, Result, Ok, Err, refl, sym, ap, subst, arith}
use Rattle.std.specs.Prelude.{int_le, ◌==◌, ◌&&◌, OnOk}
use Rattle.std.specs.List.{list_all}
use Rattle.std.specs.Ordering.{int_cmp, int_eq, match_ordering, is_eq}
use Rattle.std.specs.declared.cmp.Ordering.TheVariants.{Less, Equal, Greater}
use Rattle.std.specs.Int.{w8, w64}
use Rattle.std.proofs.lemmas.Bool.{leb-true}
use Rattle.std.proofs.lemmas.Int.{ints}
use Rattle.kz_types.specs.Ordered.{put, without}
use Rattle.kz_types.specs.declared.tree.Op.{Op}
use Rattle.kz_types.specs.declared.tree.Row.{Row}
use Rattle.kz_types.specs.declared.fault.TreeFault.{TreeFault}
use Rattle.kz_types.specs.declared.limits.TheConstants.{MAX_LONG}
use Rattle.kz_spec_data.specs.Fields.{Reading, ◌>>=◌, start}
use Rattle.kz_spec_data.specs.Tree.{Tree, multi as made_by, begin_session, end_session, after_ops, is_live, with_zxid, with_sessions, without_owned}
use Rattle.kz_spec_data.specs.declared.files.Txn.{Txn}
use Rattle.kz_spec_data.specs.declared.files.Txn.TheVariants.{Multi, LoadRows, LoadEnd, Begin, End}
use Rattle.kz_spec_data.specs.Transactions.{Flaw, at_byte, goes_on, digits_at, within, int, session, max_session, move, multi, load_rows, load_end, fields_at, txn_alone, txn_of}
use Rattle.kz_spec_data.specs.Loads.{rise_from, is_header, are_loadable, is_load}
use Rattle.kz_spec_data.specs.TreeFile.{Load, fresh, under_way, over, Stored, stored_of, load_with_rows, with_load, stored_by_load, after_txn}
use Rattle.kz_tree_store.specs.Held.{ArePositive}
use Rattle.kz_tree_store.specs.declared.fault.FrameFault.{FrameFault}
use Rattle.kz_tree_store.specs.Taken.{Says, BeginsFromOne}

-- ---- steps

pub both : (a b : Bool) → (a && b) ≡ true → (a ≡ true) × (b ≡ true)
both true b h = (refl, h)
both false b h = absurd (cc)

pub both_true : (a b : Bool) → a ≡ true → b ≡ true → (a && b) ≡ true
both_true true b h k = k
both_true false b h k = absurd (cc)

either : {A : Type 0} (b : Bool) (x y z : A) → cond b x y ≡ z → (x ≡ z) ⊎ (y ≡ z)
either true x y z h = inl h
either false x y z h = inr h

-- the first of two readings gave a value
record Came {A B : Type 0} (m : Result A Flaw) (k : A → Result B Flaw) (y : B) : Type 0 where
  x : A
  first : m ≡ Ok x
  second : k x ≡ Ok y

came : {A B : Type 0} (m : Result A Flaw) (k : A → Result B Flaw) (y : B) → m >>= k ≡ Ok y → Came m k y
came (Ok x) k y h = record { x = x; first = refl; second = h }
came (Err e) k y h = absurd (cc)

-- ---- a session is read

-- the number of a reading, or another one
abbrev number_or : {A : Type 0} → A → Result (A × Reading) Flaw → A
number_or other (Ok p) = p.0
number_or other (Err e) = other

went : {A : Type 0} (t goes : Bool) (x : Result A Flaw) (e : Flaw) (y : A) → goes ≡ t → cond t x (Err e) ≡ Ok y → (goes ≡ true) × (x ≡ Ok y)
went true goes x e y is h = (is, h)
went false goes x e y is h = absurd (cc)

digits_low : (n x least most at : ℕ) (left : List ℕ) (v : ℕ) (r : Reading) → goes_on n x least most ≡ true → digits_at n x least most at left ≡ Ok (v, r) → least ≤ v
unfolding digits_at
digits_low zero x least most at left v r goes h =
    let low = leb-true least (x * 256 ^ 0 + (256 ^ 0 - 1)) (both _ _ goes).0 in
    let same : x ≡ v = ap (number_or x) h in
    omega (arith, low, same)
digits_low (suc n) x least most at [] v r goes h = absurd (cc)
digits_low (suc n) x least most at (b ∷ left) v r goes h =
    let w = went (goes_on n (x * 256 + b) least most) (goes_on n (x * 256 + b) least most) (digits_at n (x * 256 + b) least most (at + 1) left) (at_byte at) (v, r) refl h in
    digits_low n (x * 256 + b) least most (at + 1) left v r w.0 w.1

number_low : (n least most at : ℕ) (left : List ℕ) (v : ℕ) (r : Reading) → digits_at (suc n) 0 least most at left ≡ Ok (v, r) → least ≤ v
unfolding digits_at
number_low n least most at [] v r h = absurd (cc)
number_low n least most at (b ∷ left) v r h =
    let w = went (goes_on n (0 * 256 + b) least most) (goes_on n (0 * 256 + b) least most) (digits_at n (0 * 256 + b) least most (at + 1) left) (at_byte at) (v, r) refl h in
    digits_low n (0 * 256 + b) least most (at + 1) left v r w.0 w.1

session_low : (r : Reading) (s : ℤ) (rest : Reading) → session.read r ≡ Ok (s, rest) → pos 1 ≤ℤ s
session_low r s rest h =
    let c = came ((within w64 1 max_session).read r) (λ x. Ok (pos x.0, x.1)) (s, rest) h in
    let low = number_low 7 1 max_session r.at r.left c.x.0 c.x.1 c.first in
    let same : pos c.x.0 ≡ s = ap (number_or s) c.second in
    subst (λ z. pos 1 ≤ℤ z) same (omega (arith, ints, low))

move_low : (r : Reading) (m : ℤ × ℤ) (rest : Reading) → move.read r ≡ Ok (m, rest) → pos 1 ≤ℤ m.1
move_low r m rest h =
    let c = came ((int w64).read r) (λ x. session.read x.1 >>= λ y. Ok ((x.0, y.0), y.1)) (m, rest) h in
    let d = came (session.read c.x.1) (λ y. Ok ((c.x.0, y.0), y.1)) (m, rest) c.second in
    let low = session_low c.x.1 d.x.0 d.x.1 d.first in
    let same : d.x.0 ≡ m.1 = ap (λ k. (number_or m k).1) d.second in
    subst (λ z. pos 1 ≤ℤ z) same low

-- what was read as a transaction of a kind
made : {X : Type 0} (P : Txn → Type 0) (m : Result (X × Reading) Flaw) (k : X → Txn) (t : Txn) (rest : Reading) → ◌>>=◌ {B = Txn × Reading} m (λ x. Ok (k x.0, x.1)) ≡ Ok (t, rest)
    → ((x : X) (r : Reading) → m ≡ Ok (x, r) → P (k x)) → P t
made P m k t rest h good =
    let c = came m (λ x. Ok (k x.0, x.1)) (t, rest) h in
    let same : k c.x.0 ≡ t = ap (number_or t) c.second in
    subst P same (good c.x.0 c.x.1 c.first)

fields_good : (p : ℕ × Reading) (t : Txn) (rest : Reading) → fields_at p ≡ Ok (t, rest) → BeginsFromOne t
fields_good (kind, r) t rest h =
    elim (either (kind == 1) (multi.read r >>= λ x. Ok (Multi x.0.0 x.0.1, x.1)) _ (Ok (t, rest)) h) [
      | inl one ↦ made BeginsFromOne (multi.read r) (λ x. Multi x.0 x.1) t rest one (λ x q is. tt)
      | inr more ↦ elim (either (kind == 2) (load_rows.read r >>= λ x. Ok (LoadRows x.0.0 x.0.1, x.1)) _ (Ok (t, rest)) more) [
        | inl one ↦ made BeginsFromOne (load_rows.read r) (λ x. LoadRows x.0 x.1) t rest one (λ x q is. tt)
        | inr more ↦ elim (either (kind == 3) (load_end.read r >>= λ x. Ok (LoadEnd x.0.0 x.0.1, x.1)) _ (Ok (t, rest)) more) [
          | inl one ↦ made BeginsFromOne (load_end.read r) (λ x. LoadEnd x.0 x.1) t rest one (λ x q is. tt)
          | inr more ↦ elim (either (kind == 4) (move.read r >>= λ x. Ok (Begin x.0.0 x.0.1, x.1)) (move.read r >>= λ x. Ok (End x.0.0 x.0.1, x.1)) (Ok (t, rest)) more) [
            | inl one ↦ made BeginsFromOne (move.read r) (λ x. Begin x.0 x.1) t rest one (λ x q is. move_low r x q is)
            | inr one ↦ made BeginsFromOne (move.read r) (λ x. End x.0 x.1) t rest one (λ x q is. tt)
          ]
        ]
      ]
    ]

alone_by : (b : Bool) (x t : Txn) (e : Flaw) → cond b (Ok x) (Err e) ≡ Ok t → x ≡ t
alone_by true x t e h = cc
alone_by false x t e h = absurd (cc)

alone : (x : Txn × Reading) (t : Txn) → txn_alone x ≡ Ok t → x.0 ≡ t
alone x t h = alone_by (length x.1.left == 0) x.0 t (at_byte x.1.at) h

-- the session that a transaction begins is at least 1, where the transaction was read
pub begins_from_one : (bytes : List ℕ) (t : Txn) → txn_of bytes ≡ Ok t → BeginsFromOne t
unfolding txn_of
begins_from_one bytes t h =
    let c = came ((within w8 1 5).read (start bytes) >>= fields_at) txn_alone t h in
    let d = came ((within w8 1 5).read (start bytes)) fields_at c.x c.first in
    subst BeginsFromOne (alone c.x t c.second) (fields_good d.x c.x.0 c.x.1 d.second)

-- ---- a tree's sessions

is_at_least : (a b : ℤ) → int_le a b ≡ true → a ≤ℤ b
is_at_least a b h = grind (arith, ints)

pub le_true : (a b : ℤ) → a ≤ℤ b → int_le a b ≡ true
le_true a b h = grind (arith, ints)

at_least : (least s : ℤ) → pos 1 ≤ℤ least → int_le least s ≡ true → int_le (pos 1) s ≡ true
at_least least s low h = let k = is_at_least least s h in le_true (pos 1) s (omega (arith, ints, low, k))

after_it : (s : ℤ) → pos 1 ≤ℤ s → pos 1 ≤ℤ (s +ℤ pos 1)
after_it s h = omega (arith, ints, h)

pub below : (least : ℤ) (sessions : List ℤ) → pos 1 ≤ℤ least → rise_from least sessions ≡ true → ArePositive sessions
below least [] low h = refl
below least (s ∷ ss) low h =
    let p = both (int_le least s) (rise_from (s +ℤ pos 1) ss) h in
    let one : int_le (pos 1) s ≡ true = at_least least s low p.0 in
    both_true (int_le (pos 1) s) (list_all (int_le (pos 1)) ss) one (below (s +ℤ pos 1) ss (after_it s (is_at_least (pos 1) s one)) p.1)

put_positive : (s : ℤ) (ss : List ℤ) → int_le (pos 1) s ≡ true → ArePositive ss → ArePositive (put int_cmp (λ x. x) s ss)
put_positive s [] one all = both_true (int_le (pos 1) s) true one refl
put_positive s (t ∷ ss) one all =
    let p = both (int_le (pos 1) t) (list_all (int_le (pos 1)) ss) all in
    elim (int_cmp s t) as (λ o. ArePositive (match_ordering o (s ∷ t ∷ ss) (s ∷ ss) (t ∷ put int_cmp (λ x. x) s ss))) [
      | Less ↦ both_true (int_le (pos 1) s) _ one all
      | Equal ↦ both_true (int_le (pos 1) s) _ one p.1
      | Greater ↦ both_true (int_le (pos 1) t) _ p.0 (put_positive s ss one p.1)
    ]

without_positive : (s : ℤ) (ss : List ℤ) → ArePositive ss → ArePositive (without int_cmp (λ x. x) s ss)
without_positive s [] all = refl
without_positive s (t ∷ ss) all =
    let p = both (int_le (pos 1) t) (list_all (int_le (pos 1)) ss) all in
    elim (is_eq (int_cmp s t)) as (λ b. ArePositive (cond b ss (t ∷ without int_cmp (λ x. x) s ss))) [
      | true ↦ p.1
      | false ↦ both_true (int_le (pos 1) t) _ p.0 (without_positive s ss p.1)
    ]

-- the second of two results
taken : {E : Type 0} (b : Bool) (e : E) (made new : Tree) → cond b (Err e) (Ok made) ≡ Ok new → made ≡ new
taken true e made new h = absurd (cc)
taken false e made new h = cc

zxid_sessions : (t : Tree) (r : Result (List Row) TreeFault) (new : Tree) → with_zxid t r ≡ Ok new → new.sessions ≡ t.sessions
zxid_sessions t (Err e) new h = absurd (cc)
zxid_sessions t (Ok rows) new h = ap (λ (x : Tree). x.sessions) (sym (taken (int_le MAX_LONG t.zxid) _ (record { zxid = t.zxid +ℤ pos 1; sessions = t.sessions; rows = rows }) new h))

pub multi_positive : (t : Tree) (ops : List Op) (new : Tree) → ArePositive t.sessions → made_by t ops ≡ Ok new → ArePositive new.sessions
unfolding made_by
multi_positive t ops new all h = subst ArePositive (sym (zxid_sessions t (after_ops t.sessions (t.zxid +ℤ pos 1) 0 ops t.rows) new h)) all

moved_sessions : (t : Tree) (sessions : List ℤ) (rows : List Row) (new : Tree) → with_sessions t sessions rows ≡ Ok new → new.sessions ≡ sessions
moved_sessions t sessions rows new h = ap (λ (x : Tree). x.sessions) (sym (taken (int_le MAX_LONG t.zxid) _ (record { zxid = t.zxid +ℤ pos 1; sessions = sessions; rows = rows }) new h))

refused_first : {E : Type 0} (b : Bool) (e : E) (r : Result Tree E) (new : Tree) → cond b (Err e) r ≡ Ok new → r ≡ Ok new
refused_first true e r new h = absurd (cc)
refused_first false e r new h = h

refused_last : {E : Type 0} (b : Bool) (e : E) (r : Result Tree E) (new : Tree) → cond b r (Err e) ≡ Ok new → r ≡ Ok new
refused_last true e r new h = h
refused_last false e r new h = absurd (cc)

pub begin_positive : (t : Tree) (session : ℤ) (new : Tree) → ArePositive t.sessions → pos 1 ≤ℤ session → begin_session t session ≡ Ok new → ArePositive new.sessions
unfolding begin_session
begin_positive t session new all one h =
    let made = refused_first (is_live session t.sessions) _ (with_sessions t (put int_cmp (λ s. s) session t.sessions) t.rows) new h in
    subst ArePositive (sym (moved_sessions t (put int_cmp (λ s. s) session t.sessions) t.rows new made)) (put_positive session t.sessions (le_true (pos 1) session one) all)

pub end_positive : (t : Tree) (session : ℤ) (new : Tree) → ArePositive t.sessions → end_session t session ≡ Ok new → ArePositive new.sessions
unfolding end_session
end_positive t session new all h =
    let rows = without_owned (t.zxid +ℤ pos 1) session t.rows in
    let made = refused_last (is_live session t.sessions) _ (with_sessions t (without int_cmp (λ s. s) session t.sessions) rows) new h in
    subst ArePositive (sym (moved_sessions t (without int_cmp (λ s. s) session t.sessions) rows new made)) (without_positive session t.sessions all)

-- ---- what is stored

tree_of_some : (a b : Stored) → ◌≡◌ {A = Option Stored} (Some a) (Some b) → a.tree ≡ b.tree
tree_of_some a b h = let same : a ≡ b = cc in ap (λ (s : Stored). s.tree) same

next_positive : {E : Type 0} (b : Bool) (r : Result Tree E) (new : Stored) → cond b (stored_of r) None ≡ Some new → ((t : Tree) → r ≡ Ok t → ArePositive t.sessions) → ArePositive new.tree.sessions
next_positive true (Ok t) new h good = let same : t ≡ new.tree = tree_of_some (record { tree = t; load = over }) new h in subst (λ (x : Tree). ArePositive x.sessions) same (good t refl)
next_positive true (Err e) new h good = absurd (cc)
next_positive false r new h good = absurd (cc)

rows_positive : (t : Tree) (l : Option Load) (new : Stored) → ArePositive t.sessions → with_load t l ≡ Some new → ArePositive new.tree.sessions
rows_positive t None new all h = absurd (cc)
rows_positive t (Some l) new all h = let same : t ≡ new.tree = tree_of_some (record { tree = t; load = l }) new h in subst (λ (x : Tree). ArePositive x.sessions) same all

pub header_positive : (zxid : ℤ) (sessions : List ℤ) → is_header zxid sessions ≡ true → ArePositive sessions
header_positive zxid sessions h = below (pos 1) sessions (omega (arith, ints)) (both (int_le (pos 0) zxid && int_le zxid MAX_LONG) (rise_from (pos 1) sessions) h).1

ended_positive : (b : Bool) (made new : Stored) → (b ≡ true → ArePositive made.tree.sessions) → cond b (Some made) None ≡ Some new → ArePositive new.tree.sessions
ended_positive true made new good h = let same : made.tree ≡ new.tree = tree_of_some made new h in subst (λ (x : Tree). ArePositive x.sessions) same (good refl)
ended_positive false made new good h = absurd (cc)

load_positive : (zxid : ℤ) (sessions : List ℤ) (l : Load) (new : Stored) → stored_by_load zxid sessions l ≡ Some new → ArePositive new.tree.sessions
load_positive zxid sessions fresh new h = absurd (cc)
load_positive zxid sessions (under_way rows) new h =
    ended_positive (is_load zxid sessions rows) (record { tree = record { zxid = zxid; sessions = sessions; rows = rows }; load = over }) new (λ is. header_positive zxid sessions (both (is_header zxid sessions) (are_loadable zxid sessions [] rows) is).0) h
load_positive zxid sessions over new h = absurd (cc)

-- a transaction leaves each session at least 1
pub positive_after : (s : Stored) (t : Txn) (new : Stored) → ArePositive s.tree.sessions → BeginsFromOne t → after_txn s t ≡ Some new → ArePositive new.tree.sessions
unfolding after_txn
positive_after s (Multi zxid ops) new all one h = next_positive (int_eq zxid (s.tree.zxid +ℤ pos 1)) (made_by s.tree ops) new h (λ t is. multi_positive s.tree ops t all is)
positive_after s (LoadRows first rows) new all one h = rows_positive s.tree (load_with_rows first rows s.load) new all h
positive_after s (LoadEnd zxid sessions) new all one h = load_positive zxid sessions s.load new h
positive_after s (Begin zxid session) new all one h = next_positive (int_eq zxid (s.tree.zxid +ℤ pos 1)) (begin_session s.tree session) new h (λ t is. begin_positive s.tree session t all one is)
positive_after s (End zxid session) new all one h = next_positive (int_eq zxid (s.tree.zxid +ℤ pos 1)) (end_session s.tree session) new h (λ t is. end_positive s.tree session t all is)

-- what was read and taken leaves each session at least 1
pub positive_read : (s : Stored) (bytes : List ℕ) (t : Txn) (new : Stored) → ArePositive s.tree.sessions → txn_of bytes ≡ Ok t → after_txn s t ≡ Some new → ArePositive new.tree.sessions
positive_read s bytes t new all read h = positive_after s t new all (begins_from_one bytes t read) h

-- ---- what a call answers

pub positive_by : (r : Result (Unit {0}) FrameFault) (s new : Stored) (bytes : List ℕ) (t : Txn) → ArePositive s.tree.sessions → txn_of bytes ≡ Ok t → Says (λ done. new) r (after_txn s t) → OnOk r (ArePositive new.tree.sessions)
positive_by (Ok done) s new bytes t all read h = positive_read s bytes t new all read h
positive_by (Err e) s new bytes t all read h = tt
