-- No client's multi lowers the data version of `/controller_epoch`.
use Rattle.std.proofs.Common.{◌≡◌, ℕ, ℤ, pos, ◌+ℤ◌, ◌≤ℤ◌, Bool, true, false, List, [], ◌∷◌, Option, Some, None, option_map, is_some, refl, sym, ap, subst, arith}
use Rattle.std.specs.Prelude.{Ok}
use Rattle.std.specs.Str.{bytes_eq}
use Rattle.std.proofs.lemmas.Int.{ints}
use Rattle.std.proofs.lemmas.List.Elements.{All-head, All-tail}
use Rattle.std.proofs.lemmas.Slice.Eq.{bytes_eq-Decides}
use Rattle.kz_types.specs.declared.tree.Row.{Row}
use Rattle.kz_types.specs.declared.tree.Op.{Op}
use Rattle.kz_types.specs.declared.tree.Op.TheVariants.{Create, Set, Delete, Check}
use Rattle.kz_spec_data.specs.Control.{epoch_path, migration_path}
use Rattle.kz_spec_data.specs.Tree.{Tree, row_at, op_refusal, after_op, multi}
use Rattle.kz_spec_machine.specs.Machine.{is_reserved, client_refusal}
use Rattle.kz_spec_machine.specs.Sound.{claim_version}
use Rattle.kz_laws_machine.proofs.Numbers.{same_number, at_least_itself}
use Rattle.kz_laws_machine.proofs.Rows.{still, same, other, compare, others_kept, set_found}
use Rattle.kz_laws_machine.proofs.Runs.{ran, Passes}
use Rattle.kz_laws_machine.proofs.Lasting.{created_new}
use Rattle.kz_laws_machine.proofs.Multi.{Ran, multi_ran}
use Rattle.kz_laws_machine.proofs.Clients.{Passes as Free, neither, none_reserved}

-- a znode that is there, of at least this version
abbrev IsFrom : ℤ → Option Row → Type 0
IsFrom v None = ⊥
IsFrom v (Some r) = v ≤ℤ r.version

from_alike : (v : ℤ) (m n : Option Row) → option_map still n ≡ option_map still m → IsFrom v m → IsFrom v n
from_alike v None n is from = absurd from
from_alike v (Some r) None is from = absurd (cc)
from_alike v (Some r) (Some s) is from = subst (λ (x : ℤ). v ≤ℤ x) (sym (same_number s.version r.version (ap (option_map (λ (x : Row). x.version)) is))) from

not_absent : (v : ℤ) (m : Option Row) → IsFrom v m → is_some m ≡ false → ⊥
not_absent v None from is = from
not_absent v (Some r) from is = absurd (cc)

next_from : (v w : ℤ) → v ≤ℤ w → v ≤ℤ (w +ℤ pos 1)
next_from v w low = omega (arith, ints, low)

set_from : (zxid v : ℤ) (path body : List ℕ) (version : ℤ) (rows : List Row) (m : Option Row) → row_at path rows ≡ m → IsFrom v m → IsFrom v (row_at path (after_op zxid (Set path body version) rows))
set_from zxid v path body version rows None is from = absurd from
set_from zxid v path body version rows (Some r) is from = subst (IsFrom v) (sym (set_found zxid path body version rows r is)) (next_from v r.version from)

one_from : (sessions : List ℤ) (zxid v : ℤ) (o : Op) (rows : List Row) → op_refusal sessions o rows ≡ None → is_reserved o ≡ false → IsFrom v (row_at epoch_path rows) → IsFrom v (row_at epoch_path (after_op zxid o rows))
one_from sessions zxid v (Create path body owner) rows pass free from = elim (compare epoch_path path) [
  | same at ↦ absurd (not_absent v (row_at path rows) (subst (λ (q : List ℕ). IsFrom v (row_at q rows)) at from) (created_new sessions path body owner rows pass).absent)
  | other differ ↦ from_alike v (row_at epoch_path rows) (row_at epoch_path (after_op zxid (Create path body owner) rows)) (others_kept zxid (Create path body owner) epoch_path rows differ) from
]
one_from sessions zxid v (Set path body version) rows pass free from = elim (compare epoch_path path) [
  | same at ↦ subst (λ (q : List ℕ). IsFrom v (row_at q (after_op zxid (Set path body version) rows))) (sym at)
      (set_from zxid v path body version rows (row_at path rows) refl (subst (λ (q : List ℕ). IsFrom v (row_at q rows)) at from))
  | other differ ↦ from_alike v (row_at epoch_path rows) (row_at epoch_path (after_op zxid (Set path body version) rows)) (others_kept zxid (Set path body version) epoch_path rows differ) from
]
one_from sessions zxid v (Delete path version) rows pass free from = elim (compare epoch_path path) [
  | same at ↦ absurd (reserved (bytes_eq path epoch_path) ((bytes_eq-Decides path epoch_path).1 (sym at)) (neither (bytes_eq path migration_path) (bytes_eq path epoch_path) free).1)
  | other differ ↦ from_alike v (row_at epoch_path rows) (row_at epoch_path (after_op zxid (Delete path version) rows)) (others_kept zxid (Delete path version) epoch_path rows differ) from
]
  where
    reserved : (b : Bool) → b ≡ true → b ≡ false → ⊥
    reserved b x y = cc
one_from sessions zxid v (Check path version) rows pass free from = from

all_from : (sessions : List ℤ) (zxid v : ℤ) (os : List Op) (rows : List Row) → Passes sessions zxid os rows → Free is_reserved os → IsFrom v (row_at epoch_path rows) → IsFrom v (row_at epoch_path (ran zxid os rows))
all_from sessions zxid v [] rows pass free from = from
all_from sessions zxid v (o ∷ os) rows pass free from =
    all_from sessions zxid v os (after_op zxid o rows) pass.1 (All-tail (λ x. is_reserved x ≡ false) o os free) (one_from sessions zxid v o rows pass.0 (All-head (λ x. is_reserved x ≡ false) o os free) from)

from_version : (v : ℤ) (m : Option Row) → option_map (λ (r : Row). r.version) m ≡ Some v → IsFrom v m
from_version v None is = absurd (cc)
from_version v (Some r) is = subst (λ (x : ℤ). x ≤ℤ r.version) (same_number r.version v is) (at_least_itself r.version)

version_from : (v : ℤ) (m : Option Row) → IsFrom v m → (n : ℤ) × (option_map (λ (r : Row). r.version) m ≡ Some n) × (v ≤ℤ n)
version_from v None from = absurd from
version_from v (Some r) from = (r.version, refl, from)

pub client_keeps_version : (t new : Tree) (ops : List Op) (v : ℤ) → multi t ops ≡ Ok new → client_refusal t ops ≡ None → claim_version t ≡ Some v → (n : ℤ) × (claim_version new ≡ Some n) × (v ≤ℤ n)
client_keeps_version t new ops v is none there =
    let m : Ran t new ops = multi_ran t new ops is in
    version_from v (row_at epoch_path new.rows) (subst (λ (rows : List Row). IsFrom v (row_at epoch_path rows)) (sym m.rows)
    (all_from t.sessions (t.zxid +ℤ pos 1) v ops t.rows m.passes (none_reserved t ops none) (from_version v (row_at epoch_path t.rows) there)))
