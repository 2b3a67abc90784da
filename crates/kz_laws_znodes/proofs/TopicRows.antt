-- The znodes of a topic and of its configuration, among others.
use Rattle.std.proofs.Common.{◌≡◌, ℕ, pos, true, List, [], ◌∷◌, ◌++◌, map, Option, Some, None, Less, Contains, All, refl, sym, ap, ◌∙◌, subst, codes}
use Rattle.std.specs.Prelude.{Result, Ok, Err, option_and_then}
use Rattle.std.specs.Ordering.{int_cmp}
use Rattle.std.specs.Result.{result_ok}
use Rattle.std.proofs.lemmas.List.Elements.{All-cons, All-nil}
use Rattle.std.proofs.lemmas.Bool.{and_from}
use Rattle.std.proofs.lemmas.Simd.{map-map}
use Rattle.kz_types.specs.declared.id.Id.{Id}
use Rattle.kz_types.specs.declared.tree.Row.{Row}
use Rattle.kz_types.specs.declared.bodies.AssignmentRow.{AssignmentRow}
use Rattle.kz_types.specs.declared.bodies.Body.{Body}
use Rattle.kz_types.specs.declared.bodies.Body.TheVariants as body
use Rattle.kz_types.specs.declared.fault.BodyFault.{BodyFault}
use Rattle.kz_types.specs.declared.key.EntityKey.{EntityKey}
use Rattle.kz_types.specs.declared.key.EntityKey.TheVariants as key
use Rattle.kz_types.specs.declared.record.MetaRecord.{MetaRecord}
use Rattle.kz_types.specs.declared.record.MetaRecord.TheVariants as meta
use Rattle.kz_types.specs.Paths.{is_topic_name, is_not_negative, key_of, path_of, is_legal}
use Rattle.kz_types.specs.Order.{bytes_cmp}
use Rattle.kz_types.specs.Ordered.{find, Rises}
use Rattle.kz_types.proofs.Order.{bytes_order, int_order}
use Rattle.kz_types.proofs.Lookup.{key_of_found, contained_is_found, Contains-head, Contains-tail}
use Rattle.kz_types.proofs.Maps.{Rises-map}
use Rattle.kz_spec_data.specs.Bodies.{read_body}
use Rattle.kz_spec_data.specs.ImageRules.{is_epoch}
use Rattle.kz_spec_data.specs.Tree.{path_of_row, row_at}
use Rattle.kz_spec_data.specs.Translation.{row_of, body_of_row, partition_by, partition_with, topic_records, number_of_assignment, assignments_in, assignment_at, records_of_state, records_if_assigned}
use Rattle.kz_laws_values.specs.TextKeys.{IsText}
use Rattle.kz_laws_values.proofs.Legal.{IsGoodKey}
use Rattle.kz_laws_values.proofs.Keys.{path_holds}
use Rattle.kz_laws_values.specs.Readable.{IsPartition, ArePartitions}
use Rattle.kz_laws_znodes.proofs.ReadTopics.{IsTopicBody}
use Rattle.kz_laws_znodes.proofs.ZnodeReading.{IsBodyOf, read_is}
use Rattle.kz_laws_znodes.proofs.TopicSteps.{number_of_record, IsMade}
use Rattle.kz_laws_znodes.proofs.Partitions.{le_holds, new_is_made, state_is_made, number_kept}
use Rattle.kz_laws_znodes.proofs.Says.{partition_in}
use Rattle.kz_laws_znodes.proofs.Walk.{AreRows, Split, split_at_found, HasRecords, AllHaveRecords, entity_records_are, found_here, version_here, key_here, path_of_here}

-- ---- paths of topics

pub same_after : (xs ys zs : List ℕ) → xs ++ ys ≡ xs ++ zs → ys ≡ zs
same_after [] ys zs e = e
same_after (x ∷ xs) ys zs e = let both : x ∷ (xs ++ ys) ≡ x ∷ (xs ++ zs) = e in same_after xs ys zs (cc)

pub topic_names : (name other : List ℕ) → path_of (key.Topic name) ≡ path_of (key.Topic other) → name ≡ other
unfolding path_of
topic_names name other e = same_after (codes "/brokers/topics/") name other e

pub config_names : (name other : List ℕ) → path_of (key.TopicConfig name) ≡ path_of (key.TopicConfig other) → name ≡ other
unfolding path_of
config_names name other e = same_after (codes "/config/topics/") name other e

pub topic_before_config : (name other : List ℕ) → bytes_cmp (path_of (key.Topic name)) (path_of (key.TopicConfig other)) ≡ Less
unfolding path_of
topic_before_config name other = refl

topic_is_legal : (name : List ℕ) → IsGoodKey (key.Topic name) → is_topic_name name ≡ true
unfolding is_legal
topic_is_legal name g = g.0

pub config_is_legal : (name : List ℕ) → IsGoodKey (key.TopicConfig name) → is_topic_name name ≡ true
unfolding is_legal
config_is_legal name g = g.0

pub topic_is_good : (name : List ℕ) → is_topic_name name ≡ true → IsText name → key_of (path_of (key.Topic name)) ≡ Some (key.Topic name)
unfolding is_legal
topic_is_good name legal text = path_holds (key.Topic name) legal text

-- ---- the states below a topic

body_is : (r : Row) (k : EntityKey) (b : Body) → key_of r.path ≡ Some k → read_body k r.body ≡ Ok b → body_of_row r ≡ Some b
body_is r k b holds is = ap (option_and_then (λ w. result_ok (read_body w r.body))) holds ∙ ap result_ok is

assignment_found : (rows : List AssignmentRow) (a : AssignmentRow) → Rises int_cmp number_of_assignment rows → Contains rows a → find int_cmp number_of_assignment a.number rows ≡ Some a
assignment_found rows a rise has = contained_is_found int_order number_of_assignment rows a rise has

state_path_good : (name : List ℕ) (a : AssignmentRow) → is_topic_name name ≡ true → IsText name → IsPartition a → key_of (path_of (key.Partition name a.number)) ≡ Some (key.Partition name a.number)
unfolding is_legal
state_path_good name a legal text h = path_holds (key.Partition name a.number) (and_from (is_topic_name name) (is_not_negative a.number) legal (le_holds (pos 0) a.number h.number_is.0)) (text, h.number_is.1)

module _ (rows earlier : List Row) (r : Row) (rest : List Row) (whole : rows ≡ earlier ++ r ∷ rest) (z : AreRows rows) (all : AllHaveRecords rows)
    (name : List ℕ) (id : Id) (ps : List AssignmentRow) (holds : key_of r.path ≡ Some (key.Topic name)) (is : read_body (key.Topic name) r.body ≡ Ok (body.Topic id ps)) where
  pub good : IsTopicBody id ps
  good = read_is (key.Topic name) r.body (body.Topic id ps) is

  pub legal : is_topic_name name ≡ true
  legal = topic_is_legal name (key_here rows earlier r rest whole z (key.Topic name) holds)

  pub text : IsText name
  text = (key_here rows earlier r rest whole z (key.Topic name) holds).1

  pub placed : path_of (key.Topic name) ≡ r.path
  placed = path_of_here rows earlier r rest whole z (key.Topic name) holds

  is_assigned : (a : AssignmentRow) → Contains ps a → assignment_at name a.number rows ≡ Some a
  is_assigned a has =
      ap (λ o. find int_cmp number_of_assignment a.number (assignments_in (option_and_then body_of_row o))) (ap (λ p. row_at p rows) placed ∙ found_here rows earlier r rest whole z)
      ∙ ap (λ o. find int_cmp number_of_assignment a.number (assignments_in o)) (body_is r (key.Topic name) (body.Topic id ps) holds is)
      ∙ assignment_found ps a good.order has

  with_state : (a : AssignmentRow) (x : Row) (b : Body) (one : List MetaRecord) → IsPartition a → is_epoch x.version ≡ true → key_of x.path ≡ Some (key.Partition name a.number) → read_body (key.Partition name a.number) x.body ≡ Ok b
      → IsBodyOf (key.Partition name a.number) b → records_of_state a.replicas (Ok b) ≡ Ok one → IsMade id (partition_with id a x.version (body_of_row x))
  with_state a x (body.Topic other qs) one h epoch k e b t = absurd b
  with_state a x (body.State leader leader_epoch controller_epoch isr recovery) one h epoch k e b t =
      subst (λ o. IsMade id (partition_with id a x.version o)) (sym (body_is x (key.Partition name a.number) (body.State leader leader_epoch controller_epoch isr recovery) k e))
      (state_is_made id a x.version leader leader_epoch controller_epoch isr recovery one h epoch b t)
  with_state a x (body.Config pairs) one h epoch k e b t = absurd b
  with_state a x (body.Quota quotas scrams) one h epoch k e b t = absurd b
  with_state a x (body.Acls entries) one h epoch k e b t = absurd b
  with_state a x (body.Producer broker start end) one h epoch k e b t = absurd b
  with_state a x body.Blank one h epoch k e b t = absurd b

  by_read : (a : AssignmentRow) (x : Row) (one : List MetaRecord) → IsPartition a → is_epoch x.version ≡ true → key_of x.path ≡ Some (key.Partition name a.number)
      → (read : Result Body BodyFault) → read_body (key.Partition name a.number) x.body ≡ read → records_of_state a.replicas read ≡ Ok one → IsMade id (partition_with id a x.version (body_of_row x))
  by_read a x one h epoch k (Err e) is t = absurd (cc)
  by_read a x one h epoch k (Ok b) is t = with_state a x b one h epoch k is (read_is (key.Partition name a.number) x.body b is) t

  by_row : (a : AssignmentRow) → Contains ps a → IsPartition a → (o : Option Row) → row_of (key.Partition name a.number) rows ≡ o → IsMade id (partition_by id a o)
  by_row a has h None found = new_is_made id a h
  by_row a has h (Some x) found =
      let at : x.path ≡ path_of (key.Partition name a.number) = key_of_found bytes_order path_of_row (path_of (key.Partition name a.number)) rows x found in
      let k : key_of x.path ≡ Some (key.Partition name a.number) = ap key_of at ∙ state_path_good name a legal text h in
      let s : Split rows x = split_at_found bytes_order path_of_row (path_of (key.Partition name a.number)) rows x found in
      let there : HasRecords rows s.front x = all s.front x s.rest s.whole in
      let tested = entity_records_are rows s.front x (key.Partition name a.number) there.0 k there.1 in
      by_read a x there.0 h (version_here rows s.front x s.rest s.whole z) k (read_body (key.Partition name a.number) x.body) refl
      (sym (ap (λ o. records_if_assigned o (read_body (key.Partition name a.number) x.body)) (is_assigned a has)) ∙ tested)

  each_made : (qs : List AssignmentRow) → ((a : AssignmentRow) → Contains qs a → Contains ps a) → ArePartitions qs → All (IsMade id) (map (partition_in rows name id) qs)
  each_made [] within h = All-nil (IsMade id)
  each_made (a ∷ qs) within h = All-cons (IsMade id) (partition_in rows name id a) (map (partition_in rows name id) qs)
      (by_row a (within a (Contains-head a qs)) h.0 (row_of (key.Partition name a.number) rows) refl)
      (each_made qs (λ b has. within b (Contains-tail a qs b has)) h.1)

  pub partitions_made : All (IsMade id) (map (partition_in rows name id) ps)
  partitions_made = each_made ps (λ a has. has) good.rows_are

  number_of_state : (a : AssignmentRow) (o : Option Row) → (partition_by id a o).partition_id ≡ a.number
  number_of_state a None = refl
  number_of_state a (Some x) = number_kept id a x.version (body_of_row x)

  pub partitions_rise : Rises int_cmp number_of_record (map (partition_in rows name id) ps)
  partitions_rise = Rises-map int_cmp number_of_assignment number_of_record (partition_in rows name id) (λ a. number_of_state a (row_of (key.Partition name a.number) rows)) ps good.order

  pub records_are : topic_records rows name id ps ≡ meta.Topic (record { name = name; topic_id = id }) ∷ map (λ p. meta.Partition p) (map (partition_in rows name id) ps)
  records_are = ap (λ rs. meta.Topic (record { name = name; topic_id = id }) ∷ rs) (sym (map-map (λ p. meta.Partition p) (partition_in rows name id) ps))
