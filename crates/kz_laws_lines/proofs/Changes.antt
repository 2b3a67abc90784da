-- What is written of a change of a partition is read as that change: each of its fields but two may be absent.
use Rattle.std.proofs.Common.{◌≡◌, ℕ, ◌+◌, suc, ℤ, negsuc, Bool, true, false, cond, List, [], ◌∷◌, Option, Some, None, refl, sym, ap, ◌∙◌, codes, arith}
use Rattle.std.specs.Prelude.{⊤, option_and_then, option_map, if◌then◌else◌}
use Rattle.std.specs.Ordering.{nat_cmp, match_ordering, int_eq}
use Rattle.std.specs.Str.{bytes_eq}
use Rattle.std.specs.Cmp.Lexicographic.{slice_cmp}
use Rattle.std.specs.declared.cmp.Ordering.{Ordering}
use Rattle.std.specs.declared.cmp.Ordering.TheVariants.{Less, Equal, Greater}
use Rattle.std.proofs.lemmas.Bool.{false≢true, eq-eqb}
use Rattle.std.proofs.lemmas.Bool.Decides.{Decides-int_eq}
use Rattle.std.proofs.lemmas.Slice.Eq.{bytes_eq-Decides}
use Rattle.serde_json.specs.Data.{Data, string, object, Members, no_members, member, put}
use Rattle.serde_json.specs.Find.{get_member, as_str}
use Rattle.serde_json.specs.Events.{members_len}
use Rattle.serde_json.proofs.Views.{get_member-put, get_member-put_other}
use Rattle.kz_types.specs.Ids.{id_text}
use Rattle.kz_types.specs.declared.record.PartitionChangeRecord.{PartitionChangeRecord}
use Rattle.kz_types.specs.declared.record.MetaRecord.TheVariants.{PartitionChange}
use Rattle.kz_spec_data.specs.Json.{count_with, by_name}
use Rattle.kz_spec_data.specs.LineFields.{int8, int32, ints_or_null, value_or}
use Rattle.kz_spec_data.specs.Members.{whole_data, ints_data, with_whole, with_id, with_tagged_whole, with_tagged_ints}
use Rattle.kz_spec_data.specs.TopicRecords.{partition_change_of}
use Rattle.kz_spec_data.specs.RecordLines.{record_forms, topic_forms, record_of}
use Rattle.kz_spec_data.specs.WrittenRecords.{◌|>◌, kind_member, partition_change_members, record_data}
use Rattle.kz_laws_lines.specs.Writable.{AreIntsOrNull, IsPartitionChange}
use Rattle.kz_laws_lines.proofs.Values.{int8_is, int32_is, ints_is, uuid_is}

-- ---- members that may be absent

-- a name, and its value if there is one
abbrev Part : Type 0
Part = List ℕ × Option Data

-- members, and one more that may be absent
abbrev with_optional : List ℕ → Option Data → Members → Members
with_optional k None ms = ms
with_optional k (Some d) ms = put k d ms

-- members, and those of a list, of which the last is put first
abbrev with_parts : List Part → Members → Members
with_parts [] ms = ms
with_parts (m ∷ more) ms = with_optional m.0 m.1 (with_parts more ms)

abbrev or_else : Option Data → Option Data → Option Data
or_else None other = other
or_else (Some d) other = Some d

-- what is found at a name
abbrev look : List ℕ → List Part → Option Data → Option Data
look q [] found = found
look q (m ∷ more) found = if bytes_eq q m.0 then or_else m.1 (look q more found) else look q more found

-- how many members there are
abbrev count_parts : List Part → ℕ → ℕ
count_parts [] n = n
count_parts (m ∷ more) n = count_with m.1 (count_parts more n)

either_way : {A : Type 0} (b : Bool) (x : A) → x ≡ cond b x x
either_way true x = refl
either_way false x = refl

get_put : (q k : List ℕ) (d : Data) (ms : Members) (b : Bool) → bytes_eq q k ≡ b → get_member q (put k d ms) ≡ cond b (Some d) (get_member q ms)
get_put q k d ms true is = ap (λ n. get_member n (put k d ms)) ((bytes_eq-Decides q k).0 is) ∙ get_member-put k d ms
get_put q k d ms false is = get_member-put_other q k d ms (λ same. false≢true (sym is ∙ (bytes_eq-Decides q k).1 same))

get_optional : (q k : List ℕ) (o : Option Data) (ms : Members) → get_member q (with_optional k o ms) ≡ cond (bytes_eq q k) (or_else o (get_member q ms)) (get_member q ms)
get_optional q k None ms = either_way (bytes_eq q k) (get_member q ms)
get_optional q k (Some d) ms = get_put q k d ms _ refl

get_parts : (q : List ℕ) (parts : List Part) (ms : Members) → get_member q (with_parts parts ms) ≡ look q parts (get_member q ms)
get_parts q [] ms = refl
get_parts q (m ∷ more) ms =
    get_optional q m.0 m.1 (with_parts more ms)
    ∙ ap (λ found. cond (bytes_eq q m.0) (or_else m.1 found) found) (get_parts q more ms)

-- a member of a new name is one more
put_more_at : (o : Ordering) (k l : List ℕ) (d e : Data) (ms : Members) → match_ordering o (get_member k ms) (Some e) (get_member k ms) ≡ None
    → (get_member k ms ≡ None → members_len (put k d ms) ≡ suc (members_len ms))
    → members_len (match_ordering o (member k d (member l e ms)) (member l d ms) (member l e (put k d ms))) ≡ suc (members_len (member l e ms))
put_more_at Less k l d e ms new later = refl
put_more_at Equal k l d e ms new later = absurd (cc)
put_more_at Greater k l d e ms new later = ap suc (later new)

put_more : (k : List ℕ) (d : Data) (ms : Members) → get_member k ms ≡ None → members_len (put k d ms) ≡ suc (members_len ms)
put_more k d no_members new = refl
put_more k d (member l e ms) new = put_more_at (slice_cmp nat_cmp k l) k l d e ms new (put_more k d ms)

one_more : (n : ℕ) → suc n ≡ n + 1
one_more n = omega arith

optional_more : (k : List ℕ) (o : Option Data) (ms : Members) → get_member k ms ≡ None → members_len (with_optional k o ms) ≡ count_with o (members_len ms)
optional_more k None ms new = refl
optional_more k (Some d) ms new = put_more k d ms new ∙ one_more (members_len ms)

-- none of the names is there twice
abbrev AreNew : List Part → Members → Type 0
AreNew [] ms = ⊤
AreNew (m ∷ more) ms = (look m.0 more (get_member m.0 ms) ≡ None) × AreNew more ms

parts_more : (parts : List Part) (ms : Members) → AreNew parts ms → members_len (with_parts parts ms) ≡ count_parts parts (members_len ms)
parts_more [] ms new = refl
parts_more (m ∷ more) ms new =
    optional_more m.0 m.1 (with_parts more ms) (get_parts m.0 more ms ∙ new.0)
    ∙ ap (count_with m.1) (parts_more more ms new.1)

-- ---- the parts of a change

ints_part : Option (List ℤ) → Option Data
ints_part None = None
ints_part (Some ns) = Some (ints_data ns)

whole_part : ℤ → ℤ → Option Data
whole_part default n = if int_eq n default then None else Some (whole_data n)

ints_same : (k : List ℕ) (ns : Option (List ℤ)) (ms : Members) → with_tagged_ints k ns ms ≡ with_optional k (ints_part ns) ms
unfolding with_tagged_ints ints_part
ints_same k None ms = refl
ints_same k (Some ns) ms = refl

whole_by : (k : List ℕ) (n : ℤ) (ms : Members) (b : Bool) → cond b ms (with_whole k n ms) ≡ with_optional k (if b then None else Some (whole_data n)) ms
whole_by k n ms true = refl
whole_by k n ms false = refl

whole_same : (k : List ℕ) (default n : ℤ) (ms : Members) → with_tagged_whole k default n ms ≡ with_optional k (whole_part default n) ms
unfolding with_tagged_whole whole_part
whole_same k default n ms = whole_by k n ms (int_eq n default)

ints_read : (ns : Option (List ℤ)) → AreIntsOrNull ns → value_or None ints_or_null (ints_part ns) ≡ Some ns
unfolding ints_part
ints_read None h = refl
ints_read (Some ns) h = ap (option_map (λ is. Some is)) (ints_is ns h)

whole_read : (default n : ℤ) (read : Data → Option ℤ) (b : Bool) → int_eq n default ≡ b → read (whole_data n) ≡ Some n
    → value_or default read (if b then None else Some (whole_data n)) ≡ Some n
whole_read default n read true is reads = ap (λ z. Some z) (sym ((Decides-int_eq n default).0 is))
whole_read default n read false is reads = reads

-- the members that each change has
abbrev base : PartitionChangeRecord → Members
base c = kind_member (codes "PartitionChange") |> with_whole (codes "partitionId") c.partition_id |> with_id (codes "topicId") c.topic_id

abbrev parts_of : PartitionChangeRecord → List Part
parts_of c =
    (codes "recovery", whole_part (negsuc 0) c.recovery)
    ∷ (codes "adding", ints_part c.adding)
    ∷ (codes "removing", ints_part c.removing)
    ∷ (codes "replicas", ints_part c.replicas)
    ∷ (codes "leader", whole_part (negsuc 1) c.leader)
    ∷ (codes "isr", ints_part c.isr)
    ∷ []

members_same : (c : PartitionChangeRecord) → partition_change_members c ≡ with_parts (parts_of c) (base c)
members_same c =
    whole_same (codes "recovery") (negsuc 0) c.recovery _
    ∙ ap (with_optional (codes "recovery") (whole_part (negsuc 0) c.recovery)) (ints_same (codes "adding") c.adding _
    ∙ ap (with_optional (codes "adding") (ints_part c.adding)) (ints_same (codes "removing") c.removing _
    ∙ ap (with_optional (codes "removing") (ints_part c.removing)) (ints_same (codes "replicas") c.replicas _
    ∙ ap (with_optional (codes "replicas") (ints_part c.replicas)) (whole_same (codes "leader") (negsuc 1) c.leader _
    ∙ ap (with_optional (codes "leader") (whole_part (negsuc 1) c.leader)) (ints_same (codes "isr") c.isr (base c))))))

or_none : (o : Option Data) → or_else o None ≡ o
or_none None = refl
or_none (Some d) = refl

-- a change is read from members that have its parts
change_from : (c : PartitionChangeRecord) (ms : Members) → IsPartitionChange c
    → members_len ms ≡ count_parts (parts_of c) 3
    → get_member (codes "partitionId") ms ≡ Some (whole_data c.partition_id) → get_member (codes "topicId") ms ≡ Some (string (id_text c.topic_id.bytes))
    → get_member (codes "isr") ms ≡ ints_part c.isr → get_member (codes "leader") ms ≡ whole_part (negsuc 1) c.leader
    → get_member (codes "replicas") ms ≡ ints_part c.replicas → get_member (codes "removing") ms ≡ ints_part c.removing
    → get_member (codes "adding") ms ≡ ints_part c.adding → get_member (codes "recovery") ms ≡ whole_part (negsuc 0) c.recovery
    → partition_change_of (object ms) ≡ Some (PartitionChange c)
unfolding whole_part
change_from c ms h count partition topic isr leader replicas removing adding recovery =
    rw (
      count,
      partition,
      topic,
      isr,
      leader,
      replicas,
      removing,
      adding,
      recovery,
      eq-eqb (count_parts (parts_of c) 3) (count_parts (parts_of c) 3) refl,
      int32_is c.partition_id h.partition_id,
      uuid_is c.topic_id h.topic_id,
      ints_read c.isr h.isr,
      whole_read (negsuc 1) c.leader int32 _ refl (int32_is c.leader h.leader),
      ints_read c.replicas h.replicas,
      ints_read c.removing h.removing,
      ints_read c.adding h.adding,
      whole_read (negsuc 0) c.recovery int8 _ refl (int8_is c.recovery h.recovery),
    ) refl

-- what is found at a name among the members of a change
found : (c : PartitionChangeRecord) (q : List ℕ) → get_member q (with_parts (parts_of c) (base c)) ≡ look q (parts_of c) (get_member q (base c))
found c q = get_parts q (parts_of c) (base c)

parts_say : (c : PartitionChangeRecord) → IsPartitionChange c → partition_change_of (object (with_parts (parts_of c) (base c))) ≡ Some (PartitionChange c)
parts_say c h =
    change_from c (with_parts (parts_of c) (base c)) h
    (parts_more (parts_of c) (base c) (refl, (refl, (refl, (refl, (refl, (refl, tt)))))))
    (found c (codes "partitionId")) (found c (codes "topicId"))
    (found c (codes "isr") ∙ or_none (ints_part c.isr)) (found c (codes "leader") ∙ or_none (whole_part (negsuc 1) c.leader))
    (found c (codes "replicas") ∙ or_none (ints_part c.replicas)) (found c (codes "removing") ∙ or_none (ints_part c.removing))
    (found c (codes "adding") ∙ or_none (ints_part c.adding)) (found c (codes "recovery") ∙ or_none (whole_part (negsuc 0) c.recovery))

named_change : (c : PartitionChangeRecord) → record_of (object (with_parts (parts_of c) (base c))) ≡ partition_change_of (object (with_parts (parts_of c) (base c)))
unfolding record_of topic_forms
named_change c = ap (λ kind. option_and_then (λ name. by_name record_forms name (object (with_parts (parts_of c) (base c)))) (option_and_then as_str kind)) (found c (codes "kind"))

pub change_says : (c : PartitionChangeRecord) → IsPartitionChange c → record_of (record_data (PartitionChange c)) ≡ Some (PartitionChange c)
unfolding record_data
change_says c h = ap (λ ms. record_of (object ms)) (members_same c) ∙ (named_change c ∙ parts_say c h)
