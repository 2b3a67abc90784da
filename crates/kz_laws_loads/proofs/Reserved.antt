-- A path below a control znode is reserved.
use Rattle.std.proofs.Common.{◌≡◌, ℕ, Bool, true, false, ◌||◌, List, [], ◌∷◌, ◌++◌, None, ◌==◌, refl, ap}
use Rattle.std.specs.Prelude.{codes, bytes_eq}
use Rattle.std.specs.List.{list_any, slice_split}
use Rattle.kz_types.specs.Paths.{kind_of, key_of, key_of_parts, is_scaffold_of_parts, is_migrated, roots, base_paths, control_paths, is_below}
use Rattle.kz_spec_data.specs.Loads.{is_reserved}
use Rattle.kz_laws_machine.proofs.Below.{below_is}

-- ---- no entity, nor a parent of one, is there

-- no path of an entity begins with this part
record BeginsNoKey (a : List ℕ) : Type 0 where
  brokers : bytes_eq a (codes "brokers") ≡ false
  config : bytes_eq a (codes "config") ≡ false
  acl : bytes_eq a (codes "kafka-acl") ≡ false
  extended : bytes_eq a (codes "kafka-acl-extended") ≡ false
  producer : bytes_eq a (codes "latest_producer_id_block") ≡ false

no_key : (a : List ℕ) (ps : List (List ℕ)) → BeginsNoKey a → key_of_parts (a ∷ ps) ≡ None
no_key a [] none = rw (none.producer) refl
no_key a (b ∷ []) none = refl
no_key a (b ∷ c ∷ []) none = rw (none.brokers, none.config, none.acl) refl
no_key a (b ∷ c ∷ d ∷ []) none = rw (none.extended) refl
no_key a (b ∷ c ∷ d ∷ e ∷ []) none = rw (none.config) refl
no_key a (b ∷ c ∷ d ∷ e ∷ f ∷ []) none = rw (none.brokers) refl
no_key a (b ∷ c ∷ d ∷ e ∷ f ∷ g ∷ more) none = refl

no_scaffold : (a : List ℕ) (ps : List (List ℕ)) → BeginsNoKey a → is_scaffold_of_parts (a ∷ ps) ≡ false
no_scaffold a [] none = refl
no_scaffold a (b ∷ []) none = refl
no_scaffold a (b ∷ c ∷ []) none = refl
no_scaffold a (b ∷ c ∷ d ∷ []) none = rw (none.brokers, none.config) refl
no_scaffold a (b ∷ c ∷ d ∷ e ∷ []) none = rw (none.brokers) refl
no_scaffold a (b ∷ c ∷ d ∷ e ∷ f ∷ more) none = refl

-- ---- the kinds

begins_none : BeginsNoKey (codes "controller") × BeginsNoKey (codes "controller_epoch") × BeginsNoKey (codes "migration")
begins_none = (
  record { brokers = refl; config = refl; acl = refl; extended = refl; producer = refl },
  record { brokers = refl; config = refl; acl = refl; extended = refl; producer = refl },
  record { brokers = refl; config = refl; acl = refl; extended = refl; producer = refl },
)

below_controller : (x : List ℕ) → is_reserved (kind_of (codes "/controller" ++ 47 ∷ x)) ≡ true
unfolding kind_of key_of roots base_paths control_paths is_migrated
below_controller x =
    let key = no_key (codes "controller") (slice_split (λ b. b == 47) x) begins_none.0 in
    let scaffold = no_scaffold (codes "controller") (slice_split (λ b. b == 47) x) begins_none.0 in
    rw (key, scaffold) refl

below_epoch : (x : List ℕ) → is_reserved (kind_of (codes "/controller_epoch" ++ 47 ∷ x)) ≡ true
unfolding kind_of key_of roots base_paths control_paths is_migrated
below_epoch x =
    let key = no_key (codes "controller_epoch") (slice_split (λ b. b == 47) x) begins_none.1 in
    let scaffold = no_scaffold (codes "controller_epoch") (slice_split (λ b. b == 47) x) begins_none.1 in
    rw (key, scaffold) refl

below_migration : (x : List ℕ) → is_reserved (kind_of (codes "/migration" ++ 47 ∷ x)) ≡ true
unfolding kind_of key_of roots base_paths control_paths is_migrated
below_migration x =
    let key = no_key (codes "migration") (slice_split (λ b. b == 47) x) begins_none.2 in
    let scaffold = no_scaffold (codes "migration") (slice_split (λ b. b == 47) x) begins_none.2 in
    rw (key, scaffold) refl

-- ---- a path that isn't reserved

not_below : (above p : List ℕ) (b : Bool) → ((x : List ℕ) → is_reserved (kind_of (above ++ 47 ∷ x)) ≡ true) → is_reserved (kind_of p) ≡ false → is_below above p ≡ b → b ≡ false
not_below above p true within free is = absurd (let split = below_is above p is in let same = ap (λ q. is_reserved (kind_of q)) split.1 in cc (within split.0))
not_below above p false within free is = refl

none_of_three : (a b c : Bool) → a ≡ false → b ≡ false → c ≡ false → (a || (b || (c || false))) ≡ false
none_of_three false false false a b c = refl
none_of_three true y z a b c = absurd (cc)
none_of_three false true z a b c = absurd (cc)
none_of_three false false true a b c = absurd (cc)

pub unreserved : (p : List ℕ) → is_reserved (kind_of p) ≡ false → list_any (λ control. is_below control p) control_paths ≡ false
unfolding control_paths
unreserved p free = none_of_three (is_below (codes "/controller") p) (is_below (codes "/controller_epoch") p) (is_below (codes "/migration") p)
    (not_below (codes "/controller") p (is_below (codes "/controller") p) below_controller free refl)
    (not_below (codes "/controller_epoch") p (is_below (codes "/controller_epoch") p) below_epoch free refl)
    (not_below (codes "/migration") p (is_below (codes "/migration") p) below_migration free refl)
