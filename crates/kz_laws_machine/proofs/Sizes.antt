-- The rendering of metadata is no longer than the same at the greatest epoch.
use Rattle.std.proofs.Common.{◌≡◌, ℕ, ◌+◌, ◌≤◌, ℤ, pos, negsuc, ◌≤ℤ◌, true, List, [], ◌∷◌, ◌++◌, length, map, refl, sym, ap, ◌∙◌, subst, arith, length-append}
use Rattle.std.specs.Prelude.{codes}
use Rattle.std.specs.Fmt.{digits}
use Rattle.std.specs.List.{flat_map}
use Rattle.std.proofs.lemmas.Int.{ints}
use Rattle.std.proofs.lemmas.Fmt.{length-decimal-le}
use Rattle.serde_json.specs.Find.{of_integer}
use Rattle.serde_json.specs.Written.{number_text, members_text}
use Rattle.json.specs.Print.{quoted}
use Rattle.serde_json.specs.Data.{Members, no_members, member}
use Rattle.kz_types.specs.declared.limits.TheConstants.{MAX_EPOCH}
use Rattle.kz_types.specs.declared.tree.Rendered.{Rendered}
use Rattle.kz_types.specs.declared.bodies.AssignmentRow.{AssignmentRow}
use Rattle.kz_types.specs.declared.bodies.Body.TheVariants as body
use Rattle.kz_types.specs.declared.row.PartitionRow.{PartitionRow}
use Rattle.kz_types.specs.declared.image.TopicEntry.{TopicEntry}
use Rattle.kz_types.specs.declared.image.PartitionEntry.{PartitionEntry}
use Rattle.kz_types.specs.declared.key.EntityKey.TheVariants as key
use Rattle.kz_types.specs.Paths.{roots, path_of}
use Rattle.kz_types.specs.Order.{bytes_cmp}
use Rattle.kz_spec_data.specs.Bodies.{whole_data, brokers_data, text_of_body}
use Rattle.kz_spec_data.specs.Tree.{path_of_rendered}
use Rattle.kz_spec_data.specs.Image.{Image}
use Rattle.kz_spec_data.specs.Rendering.{bare, znode, assignment_of, topic_znode, partitions_path, number_path, state_body, partition_znodes, topic_config_znodes, topic_znodes, config_znode, quota_znodes, acl_znode, producer_znodes, entity_znodes, render}
use Rattle.kz_laws_machine.proofs.Related.{AllRelated, append_related, flat_related, all_put_related, all_itself}
use Rattle.kz_laws_machine.proofs.Raised.{RowRaised, PartitionRaised, TopicRaised, ImageRaised}

-- a znode, and one at the same path with no less data
pub record IsShorter (r s : Rendered) : Type 0 where
  pub paths : r.path ≡ s.path
  pub bodies : length r.body ≤ length s.body

same_at_most : (n m : ℕ) → n ≡ m → n ≤ m
same_at_most n m is = omega (arith, is)

itself : (r : Rendered) → IsShorter r r
itself r = record { paths = refl; bodies = same_at_most (length r.body) (length r.body) refl }

-- ---- the state of a partition

one_more : (n m : ℕ) → n ≤ m → n + 1 ≤ m + 1
one_more n m low = omega (arith, low)

after_byte : (b : ℕ) (xs ys : List ℕ) → length xs ≤ length ys → length (b ∷ xs) ≤ length (b ∷ ys)
after_byte b xs ys low = omega (arith, low)

after_bytes : (bs xs ys : List ℕ) → length xs ≤ length ys → length (bs ++ xs) ≤ length (bs ++ ys)
after_bytes [] xs ys low = low
after_bytes (b ∷ bs) xs ys low = after_byte b (bs ++ xs) (bs ++ ys) (after_bytes bs xs ys low)

before_bytes : (xs ys bs : List ℕ) → length xs ≤ length ys → length (xs ++ bs) ≤ length (ys ++ bs)
before_bytes xs ys bs low = sums (length (xs ++ bs)) (length xs) (length (ys ++ bs)) (length ys) (length bs) (length-append xs bs) (length-append ys bs) low
  where
    sums : (a x b y n : ℕ) → a ≡ x + n → b ≡ y + n → x ≤ y → a ≤ b
    sums a x b y n one other low = omega (arith, one, other, low)

ten_digits : length (number_text (of_integer MAX_EPOCH)) ≡ 10
unfolding digits
ten_digits = refl

few_digits : (n : ℕ) → pos n ≤ℤ pos 2147483647 → length (number_text (of_integer (pos n))) ≤ 10
few_digits n most = length-decimal-le 10 n (omega arith) (omega (arith, ints, most)) (omega (arith, ints, most))

epoch_digits : (e : ℤ) → pos 0 ≤ℤ e → e ≤ℤ MAX_EPOCH → length (number_text (of_integer e)) ≤ length (number_text (of_integer MAX_EPOCH))
epoch_digits (pos n) least most = subst (λ (k : ℕ). length (number_text (of_integer (pos n))) ≤ k) (sym ten_digits) (few_digits n most)
epoch_digits (negsuc n) least most = absurd (omega (arith, ints, least))

-- what a state's data says after its controller epoch
abbrev later_members : PartitionRow → Members
later_members row =
    member (codes "isr") (brokers_data row.isr)
    (member (codes "leader") (whole_data row.leader)
    (member (codes "leader_epoch") (whole_data row.leader_epoch)
    (member (codes "leader_recovery_state") (whole_data row.recovery)
    (member (codes "version") (whole_data (pos 1)) no_members))))

-- the data of a state whose controller epoch has these digits
abbrev state_text : List ℕ → List ℕ → List ℕ
state_text digits later = 123 ∷ (quoted (codes "controller_epoch") ++ (58 ∷ (digits ++ later)))

state_is : (row : PartitionRow) → text_of_body (state_body row) ≡ state_text (number_text (of_integer row.controller_epoch)) (members_text true (later_members row))
unfolding text_of_body
state_is row = refl

longer_state : (digits more later : List ℕ) → length digits ≤ length more → length (state_text digits later) ≤ length (state_text more later)
longer_state digits more later low =
    after_byte 123 (quoted (codes "controller_epoch") ++ (58 ∷ (digits ++ later))) (quoted (codes "controller_epoch") ++ (58 ∷ (more ++ later)))
    (after_bytes (quoted (codes "controller_epoch")) (58 ∷ (digits ++ later)) (58 ∷ (more ++ later))
    (after_byte 58 (digits ++ later) (more ++ later) (before_bytes digits more later low)))

state_longer : (p q : PartitionRow) → RowRaised p q → length (text_of_body (state_body p)) ≤ length (text_of_body (state_body q))
state_longer p q raised =
    subst (λ (row : PartitionRow). length (text_of_body (state_body p)) ≤ length (text_of_body (state_body row))) (sym raised.same)
    (subst (λ (text : List ℕ). length text ≤ length (text_of_body (state_body (record p { controller_epoch = MAX_EPOCH })))) (sym (state_is p))
    (subst (λ (text : List ℕ). length (state_text (number_text (of_integer p.controller_epoch)) (members_text true (later_members p))) ≤ length text) (sym (state_is (record p { controller_epoch = MAX_EPOCH })))
    (longer_state (number_text (of_integer p.controller_epoch)) (number_text (of_integer MAX_EPOCH)) (members_text true (later_members p)) (epoch_digits p.controller_epoch raised.least raised.most))))

-- ---- topics

partition_shorter : (name : List ℕ) (p q : PartitionEntry) → PartitionRaised p q → AllRelated IsShorter (partition_znodes name p) (partition_znodes name q)
partition_shorter name p q raised = (
  record { paths = ap (λ (n : ℤ). number_path name n) raised.numbers; bodies = same_at_most 0 0 refl },
  (record { paths = ap (λ (n : ℤ). path_of (key.Partition name n)) raised.numbers; bodies = state_longer p.row q.row raised.rows }, tt),
)

same_assignment : (p q : PartitionEntry) → PartitionRaised p q → assignment_of p ≡ assignment_of q
same_assignment p q raised =
    ap (λ (n : ℤ). assignment_of (record { number = n; row = p.row })) raised.numbers
    ∙ ap (λ (row : PartitionRow). assignment_of (record { number = q.number; row = row })) (sym raised.rows.same)

same_assignments : (ps qs : List PartitionEntry) → AllRelated PartitionRaised ps qs → map assignment_of ps ≡ map assignment_of qs
same_assignments [] [] all = refl
same_assignments [] (q ∷ qs) all = absurd all
same_assignments (p ∷ ps) [] all = absurd all
same_assignments (p ∷ ps) (q ∷ qs) all =
    ap (λ (a : AssignmentRow). a ∷ map assignment_of ps) (same_assignment p q all.0) ∙ ap (λ (rows : List AssignmentRow). assignment_of q ∷ rows) (same_assignments ps qs all.1)

same_topic : (t u : TopicEntry) → TopicRaised t u → topic_znode t ≡ topic_znode u
same_topic t u raised =
    ap (λ (name : List ℕ). znode (key.Topic name) (body.Topic t.id (map assignment_of t.partitions))) raised.names
    ∙ ap (λ id. znode (key.Topic u.name) (body.Topic id (map assignment_of t.partitions))) raised.ids
    ∙ ap (λ (rows : List AssignmentRow). znode (key.Topic u.name) (body.Topic u.id rows)) (same_assignments t.partitions u.partitions raised.each)

by_path : (r s : Rendered) → r ≡ s → IsShorter r s
by_path r s is = subst (IsShorter r) is (itself r)

all_by_path : (rs ss : List Rendered) → rs ≡ ss → AllRelated IsShorter rs ss
all_by_path rs ss is = subst (AllRelated IsShorter rs) is (all_itself IsShorter itself rs)

topic_shorter : (t u : TopicEntry) → TopicRaised t u → AllRelated IsShorter (topic_znodes t) (topic_znodes u)
topic_shorter t u raised = (
  by_path (topic_znode t) (topic_znode u) (same_topic t u raised),
  (
    record { paths = ap (λ (name : List ℕ). partitions_path name) raised.names; bodies = same_at_most 0 0 refl },
    append_related IsShorter (flat_map (partition_znodes t.name) t.partitions) (topic_config_znodes t.name t.pairs) (flat_map (partition_znodes u.name) u.partitions) (topic_config_znodes u.name u.pairs)
        (subst (λ (name : List ℕ). AllRelated IsShorter (flat_map (partition_znodes t.name) t.partitions) (flat_map (partition_znodes name) u.partitions)) raised.names
        (flat_related PartitionRaised IsShorter (partition_znodes t.name) (partition_znodes t.name) (partition_shorter t.name) t.partitions u.partitions raised.each))
        (all_by_path (topic_config_znodes t.name t.pairs) (topic_config_znodes u.name u.pairs) (ap (λ (name : List ℕ). topic_config_znodes name t.pairs) raised.names ∙ ap (topic_config_znodes u.name) raised.members)),
  ),
)

-- ---- all znodes

-- the znodes that don't hold an epoch
abbrev other_znodes : Image → List Rendered
other_znodes i = map config_znode i.broker_configs ++ (quota_znodes i.quotas i.users ++ (map (acl_znode i.acls) i.acls ++ producer_znodes i.next_producer))

same_others : (i j : Image) → ImageRaised i j → other_znodes i ≡ other_znodes j
same_others i j raised =
    ap (λ configs. other_znodes (record i { broker_configs = configs })) raised.configs
    ∙ ap (λ quotas. other_znodes (record i { broker_configs = j.broker_configs; quotas = quotas })) raised.entities
    ∙ ap (λ users. other_znodes (record i { broker_configs = j.broker_configs; quotas = j.quotas; users = users })) raised.credentials
    ∙ ap (λ acls. other_znodes (record i { broker_configs = j.broker_configs; quotas = j.quotas; users = j.users; acls = acls })) raised.entries
    ∙ ap (λ next. other_znodes (record i { broker_configs = j.broker_configs; quotas = j.quotas; users = j.users; acls = j.acls; next_producer = next })) raised.next

pub rendered_shorter : (i j : Image) → ImageRaised i j → AllRelated IsShorter (render i) (render j)
unfolding render
rendered_shorter i j raised =
    all_put_related IsShorter bytes_cmp path_of_rendered path_of_rendered (λ r s both. both.paths) (entity_znodes i) (map bare roots) (entity_znodes j) (map bare roots)
    (append_related IsShorter (flat_map topic_znodes i.topics) (other_znodes i) (flat_map topic_znodes j.topics) (other_znodes j)
    (flat_related TopicRaised IsShorter topic_znodes topic_znodes topic_shorter i.topics j.topics raised.each)
    (all_by_path (other_znodes i) (other_znodes j) (same_others i j raised)))
    (all_itself IsShorter itself (map bare roots))
