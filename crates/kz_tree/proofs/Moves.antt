-- The begin and the end of a session.
use Rattle.std.proofs.Common.{◌≡◌, ℤ, pos, true, false, List, Ok, Err, refl, arith, SFits, w64, of_z}
use Rattle.std.specs.Prelude.{◌+ℤ◌, ◌<ℤ◌, ◌≤ℤ◌, int_le}
use Rattle.std.specs.Ordering.{int_cmp}
use Rattle.std.proofs.lemmas.Int.{ints}
use Rattle.kz_types.specs.declared.limits.TheConstants.{MAX_LONG}
use Rattle.kz_types.specs.declared.limits.Limit.TheVariants as limits
use Rattle.kz_types.specs.Limits.{number_of_limit}
use Rattle.kz_types.specs.declared.tree.Row.{Row}
use Rattle.kz_types.specs.declared.move_fault.MoveFault.TheVariants.{Known, Unknown, Limit}
use Rattle.kz_types.specs.Ordered.{put, without}
use Rattle.kz_spec_data.specs.Tree.{Tree, is_live, begin_session, end_session, without_owned}

-- ---- a transaction of sessions

room : (z : ℤ) → z <ℤ MAX_LONG → int_le MAX_LONG z ≡ false
room z h = grind (arith, ints)

full : (z : ℤ) → MAX_LONG ≤ℤ z → int_le MAX_LONG z ≡ true
full z h = grind (arith, ints)

pub begin_known : (t : Tree) (session : ℤ) → is_live session t.sessions ≡ true → begin_session t session ≡ Err Known
unfolding begin_session
begin_known t session live = rw live refl

pub begin_full : (t : Tree) (session : ℤ) → is_live session t.sessions ≡ false → MAX_LONG ≤ℤ t.zxid → begin_session t session ≡ Err (Limit (number_of_limit limits.Long))
unfolding begin_session
begin_full t session live large = rw (live, full t.zxid large) refl

pub begin_done : (t : Tree) (session z : ℤ) → is_live session t.sessions ≡ false → t.zxid <ℤ MAX_LONG → z ≡ t.zxid +ℤ pos 1
    → begin_session t session ≡ Ok (record { zxid = z; sessions = put int_cmp (λ s. s) session t.sessions; rows = t.rows })
unfolding begin_session
begin_done t session z live small next = rw (live, room t.zxid small, next) refl

pub end_unknown : (t : Tree) (session : ℤ) → is_live session t.sessions ≡ false → end_session t session ≡ Err Unknown
unfolding end_session
end_unknown t session live = rw live refl

pub end_full : (t : Tree) (session : ℤ) → is_live session t.sessions ≡ true → MAX_LONG ≤ℤ t.zxid → end_session t session ≡ Err (Limit (number_of_limit limits.Long))
unfolding end_session
end_full t session live large = rw (live, full t.zxid large) refl

pub end_done : (t : Tree) (session z : ℤ) → is_live session t.sessions ≡ true → t.zxid <ℤ MAX_LONG → z ≡ t.zxid +ℤ pos 1
    → end_session t session ≡ Ok (record { zxid = z; sessions = without int_cmp (λ s. s) session t.sessions; rows = without_owned z session t.rows })
unfolding end_session
end_done t session z live small next = rw (live, room t.zxid small, next) refl

-- the next zxid of a tree that has one
pub below : (z : ℤ) → SFits w64 z → (of_z w64 z ≡ 9223372036854775807 → ⊥) → z <ℤ MAX_LONG
below z fits h = omega (arith, ints, h, fits)

-- ---- what a prepared transaction of sessions makes

pub begin_made : (t made : Tree) (session z : ℤ) (sessions : List ℤ) (rows : List Row) → is_live session t.sessions ≡ false → t.zxid <ℤ MAX_LONG → z ≡ t.zxid +ℤ pos 1
    → sessions ≡ put int_cmp (λ s. s) session t.sessions → rows ≡ t.rows → made ≡ record { zxid = z; sessions = sessions; rows = rows } → begin_session t session ≡ Ok made
begin_made t made session z sessions rows live small next e f g = rw (g, e, f) (begin_done t session z live small next)

pub end_made : (t made : Tree) (session z : ℤ) (sessions : List ℤ) (rows : List Row) → is_live session t.sessions ≡ true → t.zxid <ℤ MAX_LONG → z ≡ t.zxid +ℤ pos 1
    → sessions ≡ without int_cmp (λ s. s) session t.sessions → rows ≡ without_owned z session t.rows → made ≡ record { zxid = z; sessions = sessions; rows = rows } → end_session t session ≡ Ok made
end_made t made session z sessions rows live small next e f g = rw (g, e, f) (end_done t session z live small next)
