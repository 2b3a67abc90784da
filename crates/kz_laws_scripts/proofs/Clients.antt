-- The sessions and multis of ZooKeeper clients that lines give are lawful.
use Rattle.std.proofs.Common.{◌≡◌, ℕ, ◌==◌, ◌≤◌, nat_le, ℤ, pos, negsuc, ◌≤ℤ◌, int_le, Bool, true, false, ◌&&◌, if◌then◌else◌, List, [], ◌∷◌, Option, Some, None, All, refl, arith}
use Rattle.std.specs.Prelude.{⊤, option_and_then, codes}
use Rattle.std.proofs.lemmas.Int.{ints}
use Rattle.std.proofs.lemmas.List.Elements.{All-nil}
use Rattle.serde_json.specs.Data.{Data, Items, no_items, item}
use Rattle.serde_json.specs.Find.{get, as_u64, as_i64, as_number}
use Rattle.kz_types.specs.Paths.{is_path}
use Rattle.kz_types.specs.declared.machine.Event.TheVariants as event
use Rattle.kz_spec_data.specs.Json.{member_count, whole_within, text_member, by_name}
use Rattle.kz_spec_data.specs.Ops.{session_in, path_in, version_in, body_in, owner_by, create_of, set_of, delete_of, op_forms, op_of}
use Rattle.kz_spec_data.specs.Ops as ops
use Rattle.kz_types.specs.declared.tree.Op.{Op}
use Rattle.kz_types.specs.declared.tree.Op.TheVariants.{Create, Set, Delete, Check}
use Rattle.kz_spec_data.specs.Events.{session_of, open_of, expire_of, ops_in, some_ops, zk_of}
use Rattle.kz_spec_machine.specs.Sound.{IsSession, IsOwner, IsVersion, IsLawfulOp, IsLawful}
use Rattle.kz_laws_scripts.proofs.Given.{OfSome, after, mapped, anything, where_true, at_most, items_at, one_more, by_name_gives}

-- ---- sessions and multis of ZooKeeper clients

both_true : (a b : Bool) → (a && b) ≡ true → (a ≡ true) × (b ≡ true)
both_true true b is = (refl, is)
both_true false b is = absurd (cc)

session_is : (d : Data) → OfSome IsSession (session_in d)
session_is d = after (λ (n : ℕ). ⊤) IsSession (λ n. if nat_le 1 n && nat_le n 9223372036854775807 then Some (pos n) else None) (option_and_then as_u64 (as_number d)) (anything (option_and_then as_u64 (as_number d)))
    (λ n t. where_true IsSession (nat_le 1 n && nat_le n 9223372036854775807) (Some (pos n)) (λ is. let both = both_true (nat_le 1 n) (nat_le n 9223372036854775807) is in within n (at_most 1 n both.0) (at_most n 9223372036854775807 both.1)))
  where
    within : (n : ℕ) → 1 ≤ n → n ≤ 9223372036854775807 → IsSession (pos n)
    within n least most = record { least = omega (arith, ints); most = omega (arith, ints) }

session_of_is : (d : Data) → OfSome IsSession (session_of d)
session_of_is d = after (λ (x : Data). ⊤) IsSession session_in (get (codes "session") d) (anything (get (codes "session") d)) (λ x t. session_is x)

pub open_lawful : (d : Data) → OfSome IsLawful (open_of d)
open_lawful d = where_true IsLawful (member_count d == 2) _ (λ two. mapped IsSession IsLawful (λ s. event.ZkOpen s) (session_of d) (session_of_is d) (λ s is. is))

pub expire_lawful : (d : Data) → OfSome IsLawful (expire_of d)
expire_lawful d = where_true IsLawful (member_count d == 2) _ (λ two. mapped IsSession IsLawful (λ s. event.ZkExpire s) (session_of d) (session_of_is d) (λ s is. is))

owner_is : (o : Option Data) → OfSome IsOwner (owner_by o)
owner_is None = tt
owner_is (Some d) = mapped IsSession IsOwner (λ s. Some s) (session_in d) (session_is d) (λ s is. is)

path_is : (d : Data) → OfSome (λ p. is_path p ≡ true) (path_in d)
path_is d = after (λ (p : List ℕ). ⊤) (λ p. is_path p ≡ true) (λ p. if is_path p then Some p else None) (text_member (codes "path") d) (anything (text_member (codes "path") d))
    (λ p t. where_true (λ q. is_path q ≡ true) (is_path p) (Some p) (λ is. is))

int_at_most : (a b : ℤ) → int_le a b ≡ true → a ≤ℤ b
int_at_most a b is = grind (arith, ints)

whole_within_is : (d : Data) → OfSome IsVersion (whole_within (negsuc 0) (pos 2147483647) d)
whole_within_is d = after (λ (n : ℤ). ⊤) IsVersion (λ n. if int_le (negsuc 0) n && int_le n (pos 2147483647) then Some n else None) (option_and_then as_i64 (as_number d)) (anything (option_and_then as_i64 (as_number d)))
    (λ n t. where_true IsVersion (int_le (negsuc 0) n && int_le n (pos 2147483647)) (Some n) (λ is.
    let both = both_true (int_le (negsuc 0) n) (int_le n (pos 2147483647)) is in record { least = int_at_most (negsuc 0) n both.0; most = int_at_most n (pos 2147483647) both.1 }))

version_is : (d : Data) → OfSome IsVersion (version_in d)
version_is d = after (λ (x : Data). ⊤) IsVersion (λ v. whole_within (negsuc 0) (pos 2147483647) v) (get (codes "version") d) (anything (get (codes "version") d)) (λ v t. whole_within_is v)

create_lawful : (d : Data) → OfSome IsLawfulOp (create_of d)
create_lawful d = where_true IsLawfulOp _ _ (λ few. after (λ p. is_path p ≡ true) IsLawfulOp _ (path_in d) (path_is d) (λ path kept. after (λ (b : List ℕ). ⊤) IsLawfulOp _ (body_in d) (anything (body_in d))
    (λ body u. mapped IsOwner IsLawfulOp (λ owner. Create path body owner) (owner_by (get (codes "owner") d)) (owner_is (get (codes "owner") d)) (λ owner is. (kept, is)))))

set_lawful : (d : Data) → OfSome IsLawfulOp (set_of d)
set_lawful d = where_true IsLawfulOp _ _ (λ few. after (λ p. is_path p ≡ true) IsLawfulOp _ (path_in d) (path_is d) (λ path kept. after (λ (b : List ℕ). ⊤) IsLawfulOp _ (body_in d) (anything (body_in d))
    (λ body u. mapped IsVersion IsLawfulOp (λ version. Set path body version) (version_in d) (version_is d) (λ version is. (kept, is)))))

delete_lawful : (d : Data) → OfSome IsLawfulOp (delete_of d)
delete_lawful d = where_true IsLawfulOp _ _ (λ few. after (λ p. is_path p ≡ true) IsLawfulOp _ (path_in d) (path_is d)
    (λ path kept. mapped IsVersion IsLawfulOp (λ version. Delete path version) (version_in d) (version_is d) (λ version is. (kept, is))))

check_op_lawful : (d : Data) → OfSome IsLawfulOp (ops.check_of d)
check_op_lawful d = where_true IsLawfulOp _ _ (λ few. after (λ p. is_path p ≡ true) IsLawfulOp _ (path_in d) (path_is d)
    (λ path kept. mapped IsVersion IsLawfulOp (λ version. Check path version) (version_in d) (version_is d) (λ version is. (kept, is))))

op_lawful : (d : Data) → OfSome IsLawfulOp (op_of d)
unfolding op_of
op_lawful d = after (λ (x : List ℕ). ⊤) IsLawfulOp (λ name. by_name op_forms name d) (text_member (codes "op") d) (anything (text_member (codes "op") d))
    (λ name t. by_name_gives IsLawfulOp op_forms name d (create_lawful, (set_lawful, (delete_lawful, (check_op_lawful, tt)))))

ops_lawful : (ds : Items) → OfSome (All IsLawfulOp) (ops_in ds)
ops_lawful no_items = All-nil IsLawfulOp
ops_lawful (item d ds) = one_more IsLawfulOp (op_of d) (ops_in ds) (op_lawful d) (ops_lawful ds)

some_lawful : (os : List Op) → All IsLawfulOp os → OfSome IsLawful (some_ops os)
some_lawful [] all = tt
some_lawful (o ∷ os) all = (all, omega arith)

pub zk_lawful : (d : Data) → OfSome IsLawful (zk_of d)
zk_lawful d = where_true IsLawful (member_count d == 2) _ (λ two. after (All IsLawfulOp) IsLawful some_ops (option_and_then ops_in (items_at (codes "ops") d))
    (after (λ (x : Items). ⊤) (All IsLawfulOp) ops_in (items_at (codes "ops") d) (anything (items_at (codes "ops") d)) (λ ds t. ops_lawful ds)) some_lawful)
