-- The state of a partition is read as it was written.
use Rattle.std.proofs.Common.{◌≡◌, ℕ, ℤ, pos, negsuc, List, [], ◌∷◌, Some, Ok, refl, ap, ◌∙◌, arith, codes}
use Rattle.std.specs.Prelude.{map, option_map, option_and_then}
use Rattle.std.proofs.lemmas.Int.{ints}
use Rattle.serde_json.specs.View.{items_of}
use Rattle.kz_types.specs.declared.bodies.Body.TheVariants as body
use Rattle.kz_types.specs.declared.key.EntityKey.TheVariants.{Partition}
use Rattle.kz_spec_data.specs.Bodies.{greatest, whole, whole_data, brokers_in, state_data, state_of_data, body_of, read_body, text_of_body}
use Rattle.kz_laws_values.specs.Ranges.{IsBetween, IsLong}
use Rattle.kz_laws_values.proofs.ReadsBack.{whole_in_range}
use Rattle.kz_laws_values.specs.Readable.{IsWhole, AreBrokers, IsState}
use Rattle.kz_laws_values.proofs.Plain.{IsPlain, ArePlainItems, object_says, whole_is_plain, word}

pub whole_long : (z : ℤ) → IsWhole z → IsLong z
whole_long z b = (omega (arith, ints, b.0), omega (arith, ints, b.1))

leader_long : (z : ℤ) → IsBetween (negsuc 1) (pos 2147483647) z → IsLong z
leader_long z b = (omega (arith, ints, b.0), omega (arith, ints, b.1))

recovery_long : (z : ℤ) → IsBetween (pos 0) (pos 1) z → IsLong z
recovery_long z b = (omega (arith, ints, b.0), omega (arith, ints, b.1))

pub small_long : (n : ℕ) → IsWhole (pos n) → IsLong (pos n)
small_long n b = whole_long (pos n) b

pub whole_read : (z : ℤ) → IsWhole z → whole (pos 0) greatest (whole_data z) ≡ Some z
whole_read z h = whole_in_range (pos 0) greatest z (whole_long z h) h.0 h.1

pub brokers_plain : (n : ℕ) (ids : List ℤ) → AreBrokers ids → ArePlainItems n (items_of (map whole_data ids))
brokers_plain n [] h = tt
brokers_plain n (id ∷ ids) h = (whole_is_plain n id (whole_long id h.0), brokers_plain n ids h.1)

pub brokers_read : (ids : List ℤ) → AreBrokers ids → brokers_in (items_of (map whole_data ids)) ≡ Some ids
brokers_read [] h = refl
brokers_read (id ∷ ids) h =
    ap (option_and_then (λ z. option_map (λ zs. z ∷ zs) (brokers_in (items_of (map whole_data ids))))) (whole_read id h.0)
    ∙ ap (option_map (λ zs. id ∷ zs)) (brokers_read ids h.1)

state_plain : (leader leader_epoch controller_epoch : ℤ) (isr : List ℤ) (recovery : ℤ) → IsState leader leader_epoch controller_epoch isr recovery
    → IsPlain 3 (state_data leader leader_epoch controller_epoch isr recovery)
state_plain leader leader_epoch controller_epoch isr recovery h = (
  (
    word (codes "controller_epoch") refl,
    whole_is_plain 2 controller_epoch (whole_long controller_epoch h.controller_epoch_is),
    (
      word (codes "isr") refl,
      brokers_plain 1 isr h.isr_is,
      (
        word (codes "leader") refl,
        whole_is_plain 2 leader (leader_long leader h.leader_is),
        (
          word (codes "leader_epoch") refl,
          whole_is_plain 2 leader_epoch (whole_long leader_epoch h.leader_epoch_is),
          (word (codes "leader_recovery_state") refl, whole_is_plain 2 recovery (recovery_long recovery h.recovery_is), (word (codes "version") refl, whole_is_plain 2 (pos 1) (omega (arith, ints), omega (arith, ints)), tt)),
        ),
      ),
    ),
  ),
  refl,
)

state_says : (leader leader_epoch controller_epoch : ℤ) (isr : List ℤ) (recovery : ℤ) → IsState leader leader_epoch controller_epoch isr recovery
    → state_of_data (state_data leader leader_epoch controller_epoch isr recovery) ≡ Ok (body.State leader leader_epoch controller_epoch isr recovery)
state_says leader leader_epoch controller_epoch isr recovery h =
    rw (
      whole_in_range (negsuc 1) greatest leader (leader_long leader h.leader_is) h.leader_is.0 h.leader_is.1,
      whole_read leader_epoch h.leader_epoch_is,
      whole_read controller_epoch h.controller_epoch_is,
      brokers_read isr h.isr_is,
      whole_in_range (pos 0) (pos 1) recovery (recovery_long recovery h.recovery_is) h.recovery_is.0 h.recovery_is.1,
    ) refl

pub state_is_read : (topic : List ℕ) (partition leader leader_epoch controller_epoch : ℤ) (isr : List ℤ) (recovery : ℤ) → IsState leader leader_epoch controller_epoch isr recovery
    → read_body (Partition topic partition) (text_of_body (body.State leader leader_epoch controller_epoch isr recovery)) ≡ Ok (body.State leader leader_epoch controller_epoch isr recovery)
unfolding text_of_body body_of
state_is_read topic partition leader leader_epoch controller_epoch isr recovery h =
    object_says (Partition topic partition) _ (state_plain leader leader_epoch controller_epoch isr recovery h)
    ∙ state_says leader leader_epoch controller_epoch isr recovery h
