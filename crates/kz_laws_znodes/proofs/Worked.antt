-- Worked metadata meets what the law of metadata that returns asks for.
use Rattle.std.proofs.Common.{◌≡◌, ℕ, zero, suc, nat_lt, true, List, [], ◌∷◌, ◌++◌, replicate, All, refl, arith, codes, pos, Some}
use Rattle.std.proofs.lemmas.Int.{ints}
use Rattle.std.proofs.lemmas.List.Elements.{All-from_recursion}
use Rattle.std.specs.List.{list_all}
use Rattle.std.proofs.lemmas.Bool.{and_parts, ltb-true}
use Rattle.base64.specs.GeneralPurpose.{IsBytes}
use Rattle.kz_types.specs.declared.key.EntityKey.TheVariants as key
use Rattle.kz_spec_data.specs.Legal.{IsMember, IsPartition, IsTopic, IsConfiguration, IsQuotaOf, IsQuotaEntry, IsScramOf, IsScramEntry, IsAcl}
use Rattle.kz_spec_data.specs.InOrder.{IsTopicInOrder, IsFilled, IsQuotaFilled, IsUserFilled, IsInOrder}
use Rattle.kz_spec_data.proofs.ZnodesOnLiterals.{znodes_on_literals}
use Rattle.kz_laws_znodes.specs.RoundTrip.{FitsInt, IsPartitionWritable, IsMemberWritable, IsTopicWritable, IsConfigWritable, IsQuotaWritable, AreQuotasWritable, IsScramWritable, IsUserWritable, IsAclWritable, IsWritable}
use Rattle.kz_laws_znodes.specs.RoundTripExamples.{example_image}

one : {A : Type 0} (P : A → Type 0) (x : A) → P x → All P (x ∷ [])
one P x h = All-from_recursion P (x ∷ []) (h, tt)

pub in_order : IsInOrder example_image
unfolding znodes_on_literals
in_order = record {
  topics = record { rising = tt; within = one IsTopicInOrder _ (tt, tt) };
  configs = record { rising = tt; filled = one IsFilled _ (omega arith, tt) };
  quotas = record { rising = tt; filled = one IsQuotaFilled _ (omega arith, tt, refl, refl) };
  users = record { rising = tt; filled = one IsUserFilled _ (omega arith, tt) };
  acls = tt;
  brokers = tt;
  legal = record {
    topics = record {
      each = one IsTopic _ (record { named = refl; identified = refl; each_partition = one IsPartition _ (refl, refl); each_member = one IsMember _ refl });
      apart = λ m n d less within. absurd (omega (arith, less, within));
    };
    configs = one IsConfiguration _ (refl, one IsMember _ refl);
    quotas = one IsQuotaEntry _ (record { entity = key.UserClient (Some (codes "u")) (Some (codes "c")); legal = refl; fits = refl; placed = refl; each = one (IsQuotaOf (key.UserClient (Some (codes "u")) (Some (codes "c")))) _ (refl, refl) });
    users = one IsScramEntry _ (one (IsScramOf (codes "u")) _ (refl, refl, refl));
    acls = one IsAcl _ (record { identified = refl; resource = refl; codes = refl; operation = refl; permission = refl });
    brokers = All-from_recursion _ [] tt;
    next = (refl, refl);
    state = refl;
  };
}

bytes_are : (bs : List ℕ) → list_all (λ b. nat_lt b 256) bs ≡ true → IsBytes bs
bytes_are [] h i = omega arith
bytes_are (b ∷ bs) h zero = ltb-true b 256 (and_parts (nat_lt b 256) (list_all (λ b. nat_lt b 256) bs) h).0
bytes_are (b ∷ bs) h (suc i) = bytes_are bs (and_parts (nat_lt b 256) (list_all (λ b. nat_lt b 256) bs) h).1 i

pub writable : IsWritable example_image
unfolding znodes_on_literals
writable = record {
  topics = one IsTopicWritable _ (record {
    name = refl;
    bytes = bytes_are (replicate 15 0 ++ 7 ∷ []) refl;
    sixteen = refl;
    partitions = one IsPartitionWritable _ (record { number = omega (arith, ints); brokers = All-from_recursion FitsInt (pos 1 ∷ pos 2 ∷ []) (omega (arith, ints), (omega (arith, ints), tt)); epoch = omega (arith, ints) });
    members = one IsMemberWritable _ (refl, refl);
  });
  configs = one IsConfigWritable _ (one IsMemberWritable _ (refl, refl));
  quotas = one AreQuotasWritable _ (record { entity = key.UserClient (Some (codes "u")) (Some (codes "c")); read = refl; each = one IsQuotaWritable _ (omega (arith, ints)) });
  users = one IsUserWritable _ (refl, one IsScramWritable _ (record { salt = bytes_are (codes "s") refl; stored_key = bytes_are (codes "k") refl; server_key = bytes_are (codes "v") refl; iterations = omega (arith, ints) }));
  acls = one IsAclWritable _ (record { name = refl; principal = refl; host = refl });
}
