-- Whole records: what spells a record is read as it, and what is read spells its record.
use Rattle.std.proofs.Common.{◌≡◌, ℕ, ◌+◌, Bool, true, false, cond, ◌==◌, List, [], ◌++◌, length, Option, Some, None, Result, Ok, Err, refl, sym, ap, ◌∙◌, subst, append_assoc, append-nil, eqb-true, eq-eqb}
use Rattle.kz_types.specs.declared.record.MetaRecord.{MetaRecord}
use Rattle.kz_types.specs.declared.record.MetaRecord.TheVariants.{RegisterBroker, Topic, Partition, Config, PartitionChange, RemoveTopic, UserScramCredential, ClientQuota, ProducerIds, AccessControlEntry, RemoveAccessControlEntry, NoOp, ZkMigrationState, RemoveUserScramCredential, BeginTransaction, EndTransaction, AbortTransaction}
use Rattle.kz_types.specs.declared.record.CodecFault.{CodecFault}
use Rattle.kz_types.specs.declared.record.CodecFault.TheVariants.{UnknownKey, UnknownVersion, BadField, Rest}
use Rattle.kz_spec_data.specs.Fields.{Reading, Format, ◌>>=◌, uvarint}
use Rattle.kz_spec_data.specs.Forms.{with_field_fault}
use Rattle.kz_spec_data.specs.Records.{register_broker, topic, partition, config, partition_change, id_alone, user_scram_credential, client_quota, producer_ids, access_control_entry, no_fields, state_alone, name_and_mechanism, tagged_text, IsValue, Spells, version_of, as_record, fields_at, fields_of_version, record_at, record_of}
use Rattle.kz_laws_values.proofs.Exact.{AreSmall, came, ok_same, result_same, Takes, taken_then, Exact, small_after}
use Rattle.kz_laws_values.proofs.Basics.{passed_true, lifted_same, cond_true}
use Rattle.kz_laws_values.proofs.Counted.{uvarint_exact}
use Rattle.kz_laws_values.proofs.Known.{none_left}
use Rattle.kz_laws_values.proofs.RecordForms.{register_broker_exact, topic_exact, partition_exact, config_exact, partition_change_exact, id_alone_exact, user_scram_credential_exact, client_quota_exact, producer_ids_exact, access_control_entry_exact, no_fields_exact, state_alone_exact, name_and_mechanism_exact, tagged_text_exact}

some_same : {A : Type 0} (o : Option A) (x y : A) → o ≡ Some x → o ≡ Some y → x ≡ y
some_same o x y e h = cc

-- ---- what spells a record is read as it

-- the number of a key, its version and the fields
abbrev after_frame : ℕ → ℕ × Reading → Result (MetaRecord × Reading) CodecFault
after_frame at frame = cond (frame.0 == 1) (with_field_fault (uvarint.read frame.1) >>= λ key. fields_of_version key.0 (version_of key.0) key.1) (Err (BadField at))

abbrev after_key : ℕ × Reading → Result (MetaRecord × Reading) CodecFault
after_key key = fields_of_version key.0 (version_of key.0) key.1

abbrev after_version : ℕ → ℕ → ℕ × Reading → Result (MetaRecord × Reading) CodecFault
after_version key version stated = cond (stated.0 == version) (fields_at key stated.1) (Err (UnknownVersion key stated.0))

version_takes : {X : Type 0} (key version : ℕ) (form : Format CodecFault X) (made : X → MetaRecord) → Exact form → version_of key ≡ Some version
    → ((r : Reading) → fields_at key r ≡ as_record made form r)
    → (x : X) (stated fields rest : List ℕ) (at : ℕ) → uvarint.spells version stated → form.spells x fields
    → Takes (λ r. fields_of_version key (version_of key) r) (made x) (stated ++ fields) rest at
version_takes key version form made ef known at_key x stated fields rest at spelled is =
    ap (λ v. fields_of_version key v (record { at = at; left = (stated ++ fields) ++ rest })) known
    ∙ taken_then (λ r. with_field_fault (uvarint.read r)) (after_version key version) version (made x) stated fields rest at
    (ap with_field_fault (uvarint_exact.taken version stated (fields ++ rest) at spelled))
    (cond_true (version == version) _ _ (eq-eqb version version refl)
    ∙ at_key (record { at = at + length stated; left = fields ++ rest })
    ∙ ap (λ m. m >>= λ y. Ok (made y.0, y.1)) (ef.taken x fields rest (at + length stated) is))

value_takes : {X : Type 0} (key version : ℕ) (form : Format CodecFault X) (made : X → MetaRecord) → Exact form → version_of key ≡ Some version
    → ((r : Reading) → fields_at key r ≡ as_record made form r)
    → (x : X) (text rest : List ℕ) (at : ℕ) → IsValue key version form x text → Takes record_at (made x) text rest at
unfolding record_at
value_takes key version form made ef known at_key x text rest at v =
    subst (λ b. Takes record_at (made x) b rest at) (sym v.4)
    (taken_then (λ r. with_field_fault (uvarint.read r)) (after_frame at) 1 (made x) v.0 (v.1 ++ (v.2 ++ v.3)) rest at
    (ap with_field_fault (uvarint_exact.taken 1 v.0 ((v.1 ++ (v.2 ++ v.3)) ++ rest) at v.5))
    (taken_then (λ r. with_field_fault (uvarint.read r)) after_key key (made x) v.1 (v.2 ++ v.3) rest (at + length v.0)
    (ap with_field_fault (uvarint_exact.taken key v.1 ((v.2 ++ v.3) ++ rest) (at + length v.0) v.6))
    (version_takes key version form made ef known at_key x v.2 v.3 rest ((at + length v.0) + length v.1) v.7 v.8)))

record_takes : (m : MetaRecord) (text rest : List ℕ) (at : ℕ) → Spells m text → Takes record_at m text rest at
unfolding fields_at
record_takes (RegisterBroker x) text rest at s = value_takes 0 2 register_broker RegisterBroker register_broker_exact refl (λ r. refl) x text rest at s
record_takes (Topic x) text rest at s = value_takes 2 0 topic Topic topic_exact refl (λ r. refl) x text rest at s
record_takes (Partition x) text rest at s = value_takes 3 0 partition Partition partition_exact refl (λ r. refl) x text rest at s
record_takes (Config x) text rest at s = value_takes 4 0 config Config config_exact refl (λ r. refl) x text rest at s
record_takes (PartitionChange x) text rest at s = value_takes 5 0 partition_change PartitionChange partition_change_exact refl (λ r. refl) x text rest at s
record_takes (RemoveTopic x) text rest at s = value_takes 9 0 id_alone RemoveTopic id_alone_exact refl (λ r. refl) x text rest at s
record_takes (UserScramCredential x) text rest at s = value_takes 11 0 user_scram_credential UserScramCredential user_scram_credential_exact refl (λ r. refl) x text rest at s
record_takes (ClientQuota x) text rest at s = value_takes 14 64 client_quota ClientQuota client_quota_exact refl (λ r. refl) x text rest at s
record_takes (ProducerIds x) text rest at s = value_takes 15 0 producer_ids ProducerIds producer_ids_exact refl (λ r. refl) x text rest at s
record_takes (AccessControlEntry x) text rest at s = value_takes 18 0 access_control_entry AccessControlEntry access_control_entry_exact refl (λ r. refl) x text rest at s
record_takes (RemoveAccessControlEntry x) text rest at s = value_takes 19 0 id_alone RemoveAccessControlEntry id_alone_exact refl (λ r. refl) x text rest at s
record_takes NoOp text rest at s = value_takes 20 0 no_fields (λ x. NoOp) no_fields_exact refl (λ r. refl) tt text rest at s
record_takes (ZkMigrationState x) text rest at s = value_takes 21 0 state_alone ZkMigrationState state_alone_exact refl (λ r. refl) x text rest at s
record_takes (RemoveUserScramCredential name mechanism) text rest at s = value_takes 22 0 name_and_mechanism (λ x. RemoveUserScramCredential x.0 x.1) name_and_mechanism_exact refl (λ r. refl) (name, mechanism) text rest at s
record_takes (BeginTransaction x) text rest at s = value_takes 23 0 tagged_text BeginTransaction tagged_text_exact refl (λ r. refl) x text rest at s
record_takes EndTransaction text rest at s = value_takes 24 0 no_fields (λ x. EndTransaction) no_fields_exact refl (λ r. refl) tt text rest at s
record_takes (AbortTransaction x) text rest at s = value_takes 25 0 tagged_text AbortTransaction tagged_text_exact refl (λ r. refl) x text rest at s

pub spelled_is_read : (m : MetaRecord) (text : List ℕ) → Spells m text → record_of text ≡ Ok m
unfolding record_of
spelled_is_read m text s =
    ap (λ b. record_at (record { at = 0; left = b }) >>= λ x. cond (length x.1.left == 0) (Ok x.0) (Err (Rest x.1.at))) (sym (append-nil text))
    ∙ ap (λ n. n >>= λ x. cond (length x.1.left == 0) (Ok x.0) (Err (Rest x.1.at))) (record_takes m text [] 0 s)

-- ---- what is read spells its record

-- the fields of the record of this key
record Fields (key : ℕ) (m : MetaRecord) (left rest : List ℕ) : Type 0 where
  bytes : List ℕ
  split : left ≡ bytes ++ rest
  value : (version : ℕ) (frame number stated : List ℕ) → version_of key ≡ Some version → uvarint.spells 1 frame → uvarint.spells key number → uvarint.spells version stated
      → Spells m (frame ++ (number ++ (stated ++ bytes)))

fields_given : {X : Type 0} (key least version : ℕ) (form : Format CodecFault X) (made : X → MetaRecord) → Exact form → version_of least ≡ Some version
    → ((x : X) (text : List ℕ) → IsValue least version form x text → Spells (made x) text)
    → key ≡ least → (m : MetaRecord) (r next : Reading) → AreSmall r.left → as_record made form r ≡ Ok (m, next) → Fields key m r.left next.left
fields_given key least version form made ef known spells same m r next small h =
    let c = came (form.read r) (λ x. Ok (made x.0, x.1)) (m, next) h in
    let one = ef.given c.value.0 r c.value.1 small c.first in
    subst (λ q. Fields key q.0 r.left q.1.left) (ok_same (made c.value.0, c.value.1) (m, next) c.second)
    (record {
      bytes = one.bytes;
      split = one.split;
      value = λ other frame number stated is framed numbered fields_of_version. spells c.value.0 (frame ++ (number ++ (stated ++ one.bytes))) (
        frame,
        number,
        stated,
        one.bytes,
        refl,
        framed,
        subst (λ k. uvarint.spells k number) same numbered,
        subst (λ v. uvarint.spells v stated) (some_same (version_of key) other version is (ap version_of same ∙ known)) fields_of_version,
        one.spelled,
      );
    })

-- one of the keys, or those after it
chosen : {X : Type 0} (key least version : ℕ) (form : Format CodecFault X) (made : X → MetaRecord) → Exact form → version_of least ≡ Some version
    → ((x : X) (text : List ℕ) → IsValue least version form x text → Spells (made x) text)
    → (m : MetaRecord) (r next : Reading) → AreSmall r.left → (other : Result (MetaRecord × Reading) CodecFault) (is : Bool) → (key == least) ≡ is
    → cond is (as_record made form r) other ≡ Ok (m, next) → (other ≡ Ok (m, next) → Fields key m r.left next.left) → Fields key m r.left next.left
chosen key least version form made ef known spells m r next small other true e h go = fields_given key least version form made ef known spells (eqb-true key least e) m r next small h
chosen key least version form made ef known spells m r next small other false e h go = go h

abbrev refused : ℕ → Result (MetaRecord × Reading) CodecFault
refused key = Err (UnknownKey key)

no_record : (key : ℕ) (m : MetaRecord) (next : Reading) → refused key ≡ Ok (m, next) → ⊥
no_record key m next h = cc

all_fields : (key : ℕ) (m : MetaRecord) (r next : Reading) → AreSmall r.left → fields_at key r ≡ Ok (m, next) → Fields key m r.left next.left
unfolding fields_at
all_fields key m r next small h0 =
    chosen key 0 2 register_broker RegisterBroker register_broker_exact refl (λ x text s. s) m r next small _ (key == 0) refl h0 (λ h1.
    chosen key 2 0 topic Topic topic_exact refl (λ x text s. s) m r next small _ (key == 2) refl h1 (λ h2.
    chosen key 3 0 partition Partition partition_exact refl (λ x text s. s) m r next small _ (key == 3) refl h2 (λ h3.
    chosen key 4 0 config Config config_exact refl (λ x text s. s) m r next small _ (key == 4) refl h3 (λ h4.
    chosen key 5 0 partition_change PartitionChange partition_change_exact refl (λ x text s. s) m r next small _ (key == 5) refl h4 (λ h5.
    chosen key 9 0 id_alone RemoveTopic id_alone_exact refl (λ x text s. s) m r next small _ (key == 9) refl h5 (λ h6.
    chosen key 11 0 user_scram_credential UserScramCredential user_scram_credential_exact refl (λ x text s. s) m r next small _ (key == 11) refl h6 (λ h7.
    chosen key 14 64 client_quota ClientQuota client_quota_exact refl (λ x text s. s) m r next small _ (key == 14) refl h7 (λ h8.
    chosen key 15 0 producer_ids ProducerIds producer_ids_exact refl (λ x text s. s) m r next small _ (key == 15) refl h8 (λ h9.
    chosen key 18 0 access_control_entry AccessControlEntry access_control_entry_exact refl (λ x text s. s) m r next small _ (key == 18) refl h9 (λ h10.
    chosen key 19 0 id_alone RemoveAccessControlEntry id_alone_exact refl (λ x text s. s) m r next small _ (key == 19) refl h10 (λ h11.
    chosen key 20 0 no_fields (λ x. NoOp) no_fields_exact refl (λ x text s. s) m r next small _ (key == 20) refl h11 (λ h12.
    chosen key 21 0 state_alone ZkMigrationState state_alone_exact refl (λ x text s. s) m r next small _ (key == 21) refl h12 (λ h13.
    chosen key 22 0 name_and_mechanism (λ x. RemoveUserScramCredential x.0 x.1) name_and_mechanism_exact refl (λ x text s. s) m r next small _ (key == 22) refl h13 (λ h14.
    chosen key 23 0 tagged_text BeginTransaction tagged_text_exact refl (λ x text s. s) m r next small _ (key == 23) refl h14 (λ h15.
    chosen key 24 0 no_fields (λ x. EndTransaction) no_fields_exact refl (λ x text s. s) m r next small _ (key == 24) refl h15 (λ h16.
    chosen key 25 0 tagged_text AbortTransaction tagged_text_exact refl (λ x text s. s) m r next small _ (key == 25) refl h16 (λ h17.
    absurd (no_record key m next h17))))))))))))))))))

versioned_given : (key : ℕ) (version : Option ℕ) → version_of key ≡ version → (m : MetaRecord) (r next : Reading) → AreSmall r.left → fields_of_version key version r ≡ Ok (m, next)
    → (bytes : List ℕ) × (r.left ≡ bytes ++ next.left) × ((frame number : List ℕ) → uvarint.spells 1 frame → uvarint.spells key number → Spells m (frame ++ (number ++ bytes)))
versioned_given key None known m r next small h = absurd (cc)
versioned_given key (Some version) known m r next small h =
    let c = came (with_field_fault (uvarint.read r)) (after_version key version) (m, next) h in
    let one = uvarint_exact.given c.value.0 r c.value.1 small (lifted_same (uvarint.read r) c.value c.first) in
    let d = passed_true (c.value.0 == version) (UnknownVersion key c.value.0) (fields_at key c.value.1) (m, next) c.second in
    let two = all_fields key m c.value.1 next (small_after uvarint c.value.0 r.left c.value.1.left one small) d.1 in (
      one.bytes ++ two.bytes,
      one.split ∙ ap (λ b. one.bytes ++ b) two.split ∙ sym (append_assoc one.bytes two.bytes next.left),
      λ frame number framed numbered. two.value version frame number one.bytes known framed numbered (subst (λ v. uvarint.spells v one.bytes) (eqb-true c.value.0 version d.0) one.spelled),
    )

-- a record in front of the rest
record Front (m : MetaRecord) (left rest : List ℕ) : Type 0 where
  bytes : List ℕ
  split : left ≡ bytes ++ rest
  spelled : Spells m bytes

record_given : (m : MetaRecord) (r next : Reading) → AreSmall r.left → record_at r ≡ Ok (m, next) → Front m r.left next.left
unfolding record_at
record_given m r next small h =
    let c = came (with_field_fault (uvarint.read r)) (after_frame r.at) (m, next) h in
    let one = uvarint_exact.given c.value.0 r c.value.1 small (lifted_same (uvarint.read r) c.value c.first) in
    let d = passed_true (c.value.0 == 1) (BadField r.at) (with_field_fault (uvarint.read c.value.1) >>= after_key) (m, next) c.second in
    let later = small_after uvarint c.value.0 r.left c.value.1.left one small in
    let e = came (with_field_fault (uvarint.read c.value.1)) after_key (m, next) d.1 in
    let two = uvarint_exact.given e.value.0 c.value.1 e.value.1 later (lifted_same (uvarint.read c.value.1) e.value e.first) in
    let three = versioned_given e.value.0 (version_of e.value.0) refl m e.value.1 next (small_after uvarint e.value.0 c.value.1.left e.value.1.left two later) e.second in
    record {
      bytes = one.bytes ++ (two.bytes ++ three.0);
      split = one.split ∙ ap (λ b. one.bytes ++ b) (two.split ∙ ap (λ b. two.bytes ++ b) three.1 ∙ sym (append_assoc two.bytes three.0 next.left)) ∙ sym (append_assoc one.bytes (two.bytes ++ three.0) next.left);
      spelled = three.2 one.bytes two.bytes (subst (λ n. uvarint.spells n one.bytes) (eqb-true c.value.0 1 d.0) one.spelled) two.spelled;
    }

pub read_is_spelled : (m : MetaRecord) (text : List ℕ) → AreSmall text → record_of text ≡ Ok m → Spells m text
unfolding record_of
read_is_spelled m text small h =
    let c = came (record_at (record { at = 0; left = text })) (λ x. cond (length x.1.left == 0) (Ok x.0) (Err (Rest x.1.at))) m h in
    let one = record_given c.value.0 (record { at = 0; left = text }) c.value.1 small c.first in
    let d = passed_true (length c.value.1.left == 0) (Rest c.value.1.at) (Ok c.value.0) m c.second in
    let whole : text ≡ one.bytes = one.split ∙ ap (λ b. one.bytes ++ b) (none_left c.value.1.left (eqb-true (length c.value.1.left) 0 d.0)) ∙ append-nil one.bytes in
    subst (λ b. Spells m b) (sym whole) (subst (λ q. Spells q one.bytes) (ok_same c.value.0 m d.1) one.spelled)

-- ---- the laws

pub one_record : (text : List ℕ) (r s : MetaRecord) → Spells r text → Spells s text → r ≡ s
one_record text r s a b = result_same (record_of text) r s (spelled_is_read r text a) (spelled_is_read s text b)

pub no_prefix : (text more : List ℕ) (r s : MetaRecord) → Spells r text → Spells s (text ++ more) → more ≡ []
no_prefix text more r s a b =
    let whole : Takes record_at s (text ++ more) [] 0 = record_takes s (text ++ more) [] 0 b in
    ap (λ x. x.1.left) (result_same (record_at (record { at = 0; left = text ++ more })) (r, record { at = 0 + length text; left = more }) (s, record { at = 0 + length (text ++ more); left = [] })
    (record_takes r text more 0 a)
    (ap (λ b. record_at (record { at = 0; left = b })) (sym (append-nil (text ++ more))) ∙ whole))
