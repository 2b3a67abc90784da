-- The numbers that are read are in their ranges.
use Rattle.std.proofs.Common.{◌≡◌, ℕ, ◌≤◌, ◌==◌, ℤ, pos, negsuc, nat_le, Bool, true, false, ◌&&◌, List, [], ◌∷◌, length, Option, Some, None, Result, Ok, Err, refl, subst, arith, inl, inr, codes}
use Rattle.std.specs.Prelude.{⊤, ◌⊎◌, ◌≤ℤ◌, int_le, option_map, option_and_then, if◌then◌else◌}
use Rattle.std.specs.List.{list_all}
use Rattle.std.proofs.lemmas.Bool.{and_parts, leb-true}
use Rattle.std.proofs.lemmas.Int.{ints}
use Rattle.serde_json.specs.Data.{Data, Items, no_items, item}
use Rattle.serde_json.specs.Find.{get, as_number, as_i64, as_array, as_str}
use Rattle.kz_types.specs.Numbers.{is_digit, number_of, digits_up_to}
use Rattle.kz_types.specs.declared.bodies.Body.{Body}
use Rattle.kz_types.specs.declared.bodies.Body.TheVariants as body
use Rattle.kz_types.specs.declared.fault.BodyFault.{BodyFault}
use Rattle.kz_types.specs.declared.key.EntityKey.{EntityKey}
use Rattle.kz_types.specs.declared.key.EntityKey.TheVariants.{Partition, Producer}
use Rattle.kz_spec_data.specs.Bodies.{then_read, of_form, required_member, optional, field, greatest, within, whole, brokers_in, brokers_of, digits_number, digits_of_data, state_of_data, producer_of_data, json_of, object_of, body_of, body_of_object, body_of_json, empty_body, read_body}
use Rattle.kz_laws_values.specs.Ranges.{IsBetween}
use Rattle.kz_laws_values.specs.Readable.{AreBrokers, IsState, IsOffset, IsBlock}
use Rattle.kz_laws_values.proofs.Rows.{some_same}

-- ---- what holds of what is read

-- a body that is read has this property
abbrev Holds : (Body → Type 0) → Result Body BodyFault → Type 0
Holds P (Err fault) = ⊤
Holds P (Ok b) = P b

holds_then : {A : Type 0} (P : Body → Type 0) (r : Result A BodyFault) (go : A → Result Body BodyFault) → ((a : A) → r ≡ Ok a → Holds P (go a)) → Holds P (then_read r go)
holds_then P (Err fault) go h = tt
holds_then P (Ok a) go h = h a refl

form_holds : {A : Type 0} (name : List ℕ) (o : Option A) (a : A) → of_form name o ≡ Ok a → o ≡ Some a
form_holds name None a h = cc h
form_holds name (Some b) a h = cc h

required_holds : {A : Type 0} (name : List ℕ) (form : Data → Option A) (o : Option Data) (a : A) → required_member name form o ≡ Ok a → (d : Data) × (form d ≡ Some a)
required_holds name form None a h = cc h
required_holds name form (Some d) a h = (d, form_holds name (form d) a h)

optional_holds : {A : Type 0} (name : List ℕ) (absent : A) (form : Data → Option A) (o : Option Data) (a : A) → optional name absent form o ≡ Ok a → (absent ≡ a) ⊎ ((d : Data) × (form d ≡ Some a))
optional_holds name absent form None a h = inl (cc h)
optional_holds name absent form (Some d) a h = inr (d, form_holds name (form d) a h)

chained : {A B : Type 0} (f : A → Option B) (o : Option A) (b : B) → option_and_then f o ≡ Some b → (a : A) × (o ≡ Some a) × (f a ≡ Some b)
chained f None b h = cc h
chained f (Some a) b h = (a, refl, h)

some_where : {A : Type 0} (t : Bool) (a b : A) → (if t then Some a else None) ≡ Some b → (t ≡ true) × (a ≡ b)
some_where true a b h = (refl, some_same a b h)
some_where false a b h = cc h

-- ---- numbers

not_above : (a b : ℤ) → int_le a b ≡ true → a ≤ℤ b
not_above a b e = grind (arith, ints)

within_holds : (low high y z : ℤ) → within low high y ≡ Some z → IsBetween low high z
within_holds low high y z h =
    let k = some_where (int_le low y && int_le y high) y z h in
    let m = and_parts (int_le low y) (int_le y high) k.0 in
    subst (IsBetween low high) k.1 (not_above low y m.0, not_above y high m.1)

whole_holds : (low high : ℤ) (d : Data) (z : ℤ) → whole low high d ≡ Some z → IsBetween low high z
whole_holds low high d z h = let k = chained (within low high) (option_and_then as_i64 (as_number d)) z h in within_holds low high k.0 z k.2

field_holds : (name : List ℕ) (low high : ℤ) (d : Data) (z : ℤ) → field name (whole low high) d ≡ Ok z → IsBetween low high z
field_holds name low high d z h = let k = required_holds name (whole low high) (get name d) z h in whole_holds low high k.0 z k.1

-- ---- the state of a partition

more_brokers : (id : ℤ) (o : Option (List ℤ)) (ids : List ℤ) → option_map (λ rest. id ∷ rest) o ≡ Some ids → (rest : List ℤ) × (o ≡ Some rest) × (id ∷ rest ≡ ids)
more_brokers id None ids h = cc h
more_brokers id (Some rest) ids h = (rest, refl, some_same (id ∷ rest) ids h)

brokers_hold : (ds : Items) (ids : List ℤ) → brokers_in ds ≡ Some ids → AreBrokers ids
brokers_hold no_items ids h = subst AreBrokers (some_same [] ids h) tt
brokers_hold (item d ds) ids h =
    let k = chained (λ id. option_map (λ rest. id ∷ rest) (brokers_in ds)) (whole (pos 0) greatest d) ids h in
    let m = more_brokers k.0 (brokers_in ds) ids k.2 in
    subst AreBrokers m.2 (whole_holds (pos 0) greatest d k.0 k.1, brokers_hold ds m.0 m.1)

isr_holds : (name : List ℕ) (d : Data) (ids : List ℤ) → field name brokers_of d ≡ Ok ids → AreBrokers ids
isr_holds name d ids h =
    let k = required_holds name brokers_of (get name d) ids h in
    let m = chained brokers_in (as_array k.0) ids k.1 in
    brokers_hold m.0 ids m.2

recovery_holds : (name : List ℕ) (o : Option Data) (z : ℤ) → optional name (pos 0) (whole (pos 0) (pos 1)) o ≡ Ok z → IsBetween (pos 0) (pos 1) z
recovery_holds name o z h = elim (optional_holds name (pos 0) (whole (pos 0) (pos 1)) o z h) [
  | inl same ↦ subst (IsBetween (pos 0) (pos 1)) same (omega (arith, ints), omega (arith, ints))
  | inr there ↦ whole_holds (pos 0) (pos 1) there.0 z there.1
]

-- what holds of a state, and nothing of other bodies
abbrev IsStateBody : Body → Type 0
IsStateBody (body.Topic id rows) = ⊤
IsStateBody (body.State leader leader_epoch controller_epoch isr recovery) = IsState leader leader_epoch controller_epoch isr recovery
IsStateBody (body.Config pairs) = ⊤
IsStateBody (body.Quota quotas scrams) = ⊤
IsStateBody (body.Acls rows) = ⊤
IsStateBody (body.Producer broker start end) = ⊤
IsStateBody body.Blank = ⊤

state_holds : (d : Data) → Holds IsStateBody (state_of_data d)
state_holds d =
    holds_then IsStateBody (field (codes "version") (whole (pos 1) (pos 1)) d) _
    (λ version v. holds_then IsStateBody (field (codes "leader") (whole (negsuc 1) greatest) d) _
    (λ leader l. holds_then IsStateBody (field (codes "leader_epoch") (whole (pos 0) greatest) d) _
    (λ leader_epoch e. holds_then IsStateBody (field (codes "controller_epoch") (whole (pos 0) greatest) d) _
    (λ controller_epoch c. holds_then IsStateBody (field (codes "isr") brokers_of d) _
    (λ isr i. holds_then IsStateBody (optional (codes "leader_recovery_state") (pos 0) (whole (pos 0) (pos 1)) (get (codes "leader_recovery_state") d)) _
    (λ recovery r. record {
      leader_is = field_holds (codes "leader") (negsuc 1) greatest d leader l;
      leader_epoch_is = field_holds (codes "leader_epoch") (pos 0) greatest d leader_epoch e;
      controller_epoch_is = field_holds (codes "controller_epoch") (pos 0) greatest d controller_epoch c;
      isr_is = isr_holds (codes "isr") d isr i;
      recovery_is = recovery_holds (codes "leader_recovery_state") (get (codes "leader_recovery_state") d) recovery r;
    }))))))

-- ---- a block of producer ids

offset_holds : (text : List ℕ) (z : ℤ) → digits_number text ≡ Some z → IsOffset z
offset_holds text z h = by (length text == 0) (digits_up_to 9223372036854775807 text) refl h
  where
    small : (n : ℕ) → digits_up_to 9223372036854775807 text ≡ Some n → n ≤ 9223372036854775807
    small n e =
        let k = some_where (list_all is_digit text && nat_le (number_of text) 9223372036854775807) (number_of text) n e in
        let m = and_parts (list_all is_digit text) (nat_le (number_of text) 9223372036854775807) k.0 in
        subst (λ x. x ≤ 9223372036854775807) k.1 (leb-true (number_of text) 9223372036854775807 m.1)

    offset : (n : ℕ) → n ≤ 9223372036854775807 → IsOffset (pos n)
    offset n le = (omega (arith, ints), omega (arith, ints, le))

    by : (empty : Bool) (o : Option ℕ) → digits_up_to 9223372036854775807 text ≡ o → (if empty then None else option_map (λ n. pos n) o) ≡ Some z → IsOffset z
    by true o e k = cc k
    by false None e k = cc k
    by false (Some n) e k = subst IsOffset (some_same (pos n) z k) (offset n (small n e))

digits_hold : (name : List ℕ) (d : Data) (z : ℤ) → field name digits_of_data d ≡ Ok z → IsOffset z
digits_hold name d z h =
    let k = required_holds name digits_of_data (get name d) z h in
    let m = chained digits_number (as_str k.0) z k.1 in
    offset_holds m.0 z m.2

abbrev IsBlockBody : Body → Type 0
IsBlockBody (body.Topic id rows) = ⊤
IsBlockBody (body.State leader leader_epoch controller_epoch isr recovery) = ⊤
IsBlockBody (body.Config pairs) = ⊤
IsBlockBody (body.Quota quotas scrams) = ⊤
IsBlockBody (body.Acls rows) = ⊤
IsBlockBody (body.Producer broker start end) = IsBlock broker start end
IsBlockBody body.Blank = ⊤

producer_holds : (d : Data) → Holds IsBlockBody (producer_of_data d)
producer_holds d =
    holds_then IsBlockBody (field (codes "version") (whole (pos 1) (pos 1)) d) _
    (λ version v. holds_then IsBlockBody (field (codes "broker") (whole (negsuc 0) greatest) d) _
    (λ broker b. holds_then IsBlockBody (field (codes "block_start") digits_of_data d) _
    (λ start s. holds_then IsBlockBody (field (codes "block_end") digits_of_data d) _
    (λ end e. record {
      broker_is = field_holds (codes "broker") (negsuc 0) greatest d broker b;
      start_is = digits_hold (codes "block_start") d start s;
      end_is = digits_hold (codes "block_end") d end e;
    }))))

-- ---- the whole

object_holds : (P : Body → Type 0) (key : EntityKey) → ((d : Data) → Holds P (body_of key d)) → (o : Option Data) → Holds P (body_of_object key o)
object_holds P key h None = tt
object_holds P key h (Some d) = h d

unless_holds : (P : Body → Type 0) (key : EntityKey) (bytes : List ℕ) → Holds P (body_of_json key (json_of bytes)) → (empty : Body) (t : Bool) → P empty
    → Holds P (if t then Ok empty else body_of_json key (json_of bytes))
unless_holds P key bytes h empty true e = e
unless_holds P key bytes h empty false e = h

pub state_in_range : (topic bytes : List ℕ) (partition leader leader_epoch controller_epoch : ℤ) (isr : List ℤ) (recovery : ℤ)
    → read_body (Partition topic partition) bytes ≡ Ok (body.State leader leader_epoch controller_epoch isr recovery) → IsState leader leader_epoch controller_epoch isr recovery
unfolding read_body body_of empty_body
state_in_range topic bytes partition leader leader_epoch controller_epoch isr recovery is =
    subst (Holds IsStateBody) is (object_holds IsStateBody (Partition topic partition) state_holds (object_of (json_of bytes)))

pub block_in_range : (bytes : List ℕ) (broker start end : ℤ) → read_body Producer bytes ≡ Ok (body.Producer broker start end) → IsBlock broker start end
unfolding read_body body_of empty_body
block_in_range bytes broker start end is =
    subst (Holds IsBlockBody) is
    (unless_holds IsBlockBody Producer bytes (object_holds IsBlockBody Producer producer_holds (object_of (json_of bytes))) body.Blank (length bytes == 0) tt)
