-- The assignment of a topic is read as it was written.
use Rattle.std.proofs.Common.{◌≡◌, ℕ, suc, ℤ, pos, List, [], ◌∷◌, Some, Ok, refl, ap, ◌∙◌, arith, codes}
use Rattle.std.specs.Prelude.{map, Err, if◌then◌else◌}
use Rattle.std.specs.Fmt.{signed_decimal}
use Rattle.std.proofs.lemmas.Int.{ints}
use Rattle.std.proofs.lemmas.Str.{is_utf8-from_IsUtf8, IsUtf8-from_ascii}
use Rattle.base64.specs.Engines.{url_safe_no_pad}
use Rattle.base64.proofs.EngineFacts.{IsAscii-encode_of}
use Rattle.serde_json.specs.Data.{object, string, Members, no_members, member}
use Rattle.serde_json.specs.Written.{compact_text}
use Rattle.kz_types.specs.Ids.{id_of, id_text}
use Rattle.kz_types.proofs.IdLemmas.{id_of_text}
use Rattle.kz_types.specs.declared.id.Id.{Id}
use Rattle.kz_types.specs.declared.bodies.AssignmentRow.{AssignmentRow}
use Rattle.kz_types.specs.declared.bodies.Body.TheVariants as body
use Rattle.kz_types.specs.declared.fault.BodyFault.TheVariants.{NoTopicId}
use Rattle.kz_types.specs.declared.key.EntityKey.TheVariants.{Topic}
use Rattle.kz_spec_data.specs.Bodies.{whole_data, brokers_data, with_list, with_lists, replicas_members, topic_id_of, topic_data, topic_of_data, body_of, read_body, text_of_body}
use Rattle.kz_laws_values.specs.Readable.{IsText, ArePartitions, IsAssignment}
use Rattle.kz_laws_values.proofs.Plain.{IsPlain, ArePlainMembers, object_says, whole_is_plain, word}
use Rattle.kz_laws_values.proofs.States.{brokers_plain}
use Rattle.kz_laws_values.proofs.Members.{put_plain, Rise, put_rises, puts_same}
use Rattle.kz_laws_values.proofs.Rows.{bare, number_text_is, rows_read}
use Rattle.kz_laws_values.proofs.BodyLists.{IsPick, lists_members, adding_lists, removing_lists, lists_plain, lists_rise, AreListed, listed, lists_read}

adding_is : IsPick (λ row. row.adding)
adding_is row h = h.adding_are

removing_is : IsPick (λ row. row.removing)
removing_is row h = h.removing_are

-- the members that are written
abbrev added : List AssignmentRow → Members
added rows = lists_members (λ row. row.adding) no_members rows

abbrev removed : List AssignmentRow → Members
removed rows = lists_members (λ row. row.removing) no_members rows

abbrev assigned : List AssignmentRow → Members
assigned rows = replicas_members no_members rows

abbrev members_of_topic : Id → List AssignmentRow → Members → Members → Members
members_of_topic id rows adding removing =
    member (codes "adding_replicas") (object adding)
    (member (codes "partitions") (object (assigned rows))
    (member (codes "removing_replicas") (object removing)
    (member (codes "topic_id") (string (id_text id.bytes))
    (member (codes "version") (whole_data (pos 3)) no_members))))

-- ---- the text

replicas_plain : (n : ℕ) (rows : List AssignmentRow) (ms : Members) → ArePartitions rows → ArePlainMembers (suc n) ms → ArePlainMembers (suc n) (replicas_members ms rows)
replicas_plain n [] ms h p = p
replicas_plain n (row ∷ rows) ms h p =
    replicas_plain n rows (with_list row row.replicas ms) h.1
    (put_plain (suc n) (signed_decimal row.number) (brokers_data row.replicas) ms (number_text_is row.number h.0.number_is) (brokers_plain n row.replicas h.0.brokers_are) p)

replicas_rise : (rows : List AssignmentRow) (ms : Members) → Rise ms → Rise (replicas_members ms rows)
replicas_rise [] ms r = r
replicas_rise (row ∷ rows) ms r = replicas_rise rows (with_list row row.replicas ms) (put_rises (signed_decimal row.number) (brokers_data row.replicas) ms r)

lists_object : (pick : AssignmentRow → List ℤ) → IsPick pick → (rows : List AssignmentRow) → ArePartitions rows → IsPlain 2 (object (lists_members pick no_members rows))
lists_object pick is rows h = (lists_plain 0 pick is rows no_members h tt, puts_same (lists_members pick no_members rows) (lists_rise pick is rows no_members h tt))

replicas_object : (rows : List AssignmentRow) → ArePartitions rows → IsPlain 2 (object (assigned rows))
replicas_object rows h = (replicas_plain 0 rows no_members h tt, puts_same (assigned rows) (replicas_rise rows no_members tt))

id_is_text : (id : Id) → IsText (id_text id.bytes)
id_is_text id = is_utf8-from_IsUtf8 (id_text id.bytes) (IsUtf8-from_ascii (id_text id.bytes) (IsAscii-encode_of url_safe_no_pad id.bytes))

topic_plain : (id : Id) (rows : List AssignmentRow) → IsAssignment id rows → IsPlain 3 (object (members_of_topic id rows (added rows) (removed rows)))
topic_plain id rows h = (
  (
    word (codes "adding_replicas") refl,
    lists_object (λ row. row.adding) adding_is rows h.rows_are,
    (
      word (codes "partitions") refl,
      replicas_object rows h.rows_are,
      (
        word (codes "removing_replicas") refl,
        lists_object (λ row. row.removing) removing_is rows h.rows_are,
        (
          word (codes "topic_id") refl,
          id_is_text id,
          (word (codes "version") refl, whole_is_plain 2 (pos 3) (omega (arith, ints), omega (arith, ints)), tt),
        ),
      ),
    ),
  ),
  refl,
)

-- ---- what it says

id_read : (id : Id) (rows : List AssignmentRow) → IsAssignment id rows → topic_id_of (id_of (id_text id.bytes)) ≡ Ok id
id_read id rows h =
    ap topic_id_of (id_of_text id.bytes h.bytes_are h.length_is) ∙ (λ i. if h.id_is i then Err NoTopicId else Ok id)

with_both : (adding removing : Members) (rows : List AssignmentRow) → AreListed (λ row. row.adding) adding rows → AreListed (λ row. row.removing) removing rows
    → map (with_lists (Some (object adding)) (Some (object removing))) (map bare rows) ≡ rows
with_both adding removing [] a r = refl
with_both adding removing (row ∷ rows) a r =
    λ i. record { number = row.number; replicas = row.replicas; adding = a.0 i; removing = r.0 i } ∷ with_both adding removing rows a.1 r.1 i

topic_says : (id : Id) (rows : List AssignmentRow) → IsAssignment id rows → topic_of_data (object (members_of_topic id rows (added rows) (removed rows))) ≡ Ok (body.Topic id rows)
topic_says id rows h =
    rw (
      rows_read rows h.rows_are h.order,
      lists_read (λ row. row.adding) adding_is rows h.rows_are h.order,
      lists_read (λ row. row.removing) removing_is rows h.rows_are h.order,
      id_read id rows h,
      with_both (added rows) (removed rows) rows (listed (λ row. row.adding) adding_is rows h.rows_are h.order) (listed (λ row. row.removing) removing_is rows h.rows_are h.order),
    ) refl

written_topic : (id : Id) (rows : List AssignmentRow) → topic_data id rows ≡ object (members_of_topic id rows (added rows) (removed rows))
written_topic id rows i = object (members_of_topic id rows (adding_lists rows no_members i) (removing_lists rows no_members i))

pub topic_is_read : (name : List ℕ) (id : Id) (rows : List AssignmentRow) → IsAssignment id rows → read_body (Topic name) (text_of_body (body.Topic id rows)) ≡ Ok (body.Topic id rows)
unfolding text_of_body body_of
topic_is_read name id rows h =
    ap (λ d. read_body (Topic name) (compact_text d)) (written_topic id rows)
    ∙ object_says (Topic name) (members_of_topic id rows (added rows) (removed rows)) (topic_plain id rows h)
    ∙ topic_says id rows h
