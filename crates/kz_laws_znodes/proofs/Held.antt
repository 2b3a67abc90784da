-- What is read of each znode of a rendering.
use Rattle.std.proofs.Common.{◌≡◌, ◌⊎◌, ℕ, ℤ, ◌≤ℤ◌, pos, negsuc, Bool, true, false, cond, List, [], ◌∷◌, ◌++◌, map, length, ◌<◌, is_some, Option, Some, None, Contains, All, refl, sym, ap, ◌∙◌, subst, inl, inr, arith, codes}
use Rattle.std.specs.Prelude.{Ok, ◌+ℤ◌, option_map, if◌then◌else◌}
use Rattle.std.specs.Ordering.{int_cmp, int_eq}
use Rattle.std.specs.List.{filter}
use Rattle.std.proofs.lemmas.Bool.{and_from, false≢true}
use Rattle.std.proofs.lemmas.Int.{ints}
use Rattle.std.proofs.lemmas.Slice.Eq.{bytes_eq-Decides}
use Rattle.std.proofs.lemmas.List.Elements.{All-contains, All-head}
use Rattle.kz_types.specs.declared.tree.Rendered.{Rendered}
use Rattle.kz_types.specs.declared.row.AclRow.{AclRow}
use Rattle.kz_types.specs.declared.bodies.Pair.{Pair}
use Rattle.kz_types.specs.declared.bodies.QuotaRow.{QuotaRow}
use Rattle.kz_types.specs.declared.bodies.Body.{Body}
use Rattle.kz_types.specs.declared.bodies.Body.TheVariants as body
use Rattle.kz_types.specs.declared.image.Configuration.{Configuration}
use Rattle.kz_types.specs.declared.image.TopicEntry.{TopicEntry}
use Rattle.kz_types.specs.declared.image.PartitionEntry.{PartitionEntry}
use Rattle.kz_types.specs.declared.image.QuotaEntry.{QuotaEntry}
use Rattle.kz_types.specs.declared.image.ScramEntry.{ScramEntry}
use Rattle.kz_types.specs.declared.image.AclEntry.{AclEntry}
use Rattle.kz_types.specs.declared.key.EntityKey.{EntityKey}
use Rattle.kz_types.specs.declared.key.EntityKey.TheVariants as key
use Rattle.kz_types.specs.declared.bodies.ScramPair.{ScramPair}
use Rattle.kz_types.specs.Numbers.{canonical}
use Rattle.kz_types.specs.PathRule.{is_path}
use Rattle.kz_types.specs.Paths.{resource_type_name, is_topic_name, is_not_negative, is_not_empty, is_legal, has_path, key_of, path_of}
use Rattle.kz_types.proofs.KeyLemmas.{path_of_key_of}
use Rattle.kz_types.specs.Order.{bytes_cmp}
use Rattle.kz_types.specs.Ordered.{find, Rises}
use Rattle.kz_types.proofs.Order.{bytes_order}
use Rattle.kz_types.proofs.Lookup.{found_is_contained, key_of_found, Contains-head, Contains-tail}
use Rattle.kz_spec_data.specs.Bodies.{read_body, empty_body, text_of_body, is_of_kind}
use Rattle.kz_spec_data.specs.Metadata.{Image, path_of_quotas, mechanism_of_pair}
use Rattle.kz_spec_data.specs.Image.{quotas_in}
use Rattle.kz_spec_data.specs.ImageRules.{is_broker_name}
use Rattle.kz_spec_data.specs.InOrder.{is_below_quota_root, IsFilled, IsQuotaFilled, IsUserFilled, IsInOrder}
use Rattle.kz_spec_data.specs.Legal.{IsConfiguration, IsQuotaEntry, IsScramOf, IsScramEntry, IsAcl, IsNext}
use Rattle.kz_spec_data.specs.Rendering.{bare, znode, topic_znode, assignment_of, state_body, broker_key, config_znode, quotas_of_user, user_znode, acl_key, is_of_resource, row_of_acl, acl_znode}
use Rattle.kz_laws_values.specs.TextKeys.{IsText, IsSmall}
use Rattle.kz_laws_values.proofs.Legal.{IsGoodKey}
use Rattle.kz_laws_values.proofs.Keys.{path_holds}
use Rattle.kz_laws_values.specs.Readable.{IsQuotaBody, AreQuotas, AreEntries, IsBlock}
use Rattle.kz_laws_values.proofs.Topics.{topic_is_read}
use Rattle.kz_laws_values.proofs.States.{state_is_read}
use Rattle.kz_laws_values.proofs.Configs.{config_is_read}
use Rattle.kz_laws_values.proofs.QuotaBodies.{quotas_are_read}
use Rattle.kz_laws_values.proofs.Entries.{entries_are_read}
use Rattle.kz_laws_values.proofs.Producers.{producer_is_read}
use Rattle.kz_laws_znodes.specs.RoundTrip.{IsConfigWritable, AreQuotasWritable, IsScramWritable, IsUserWritable, IsAclWritable, IsWritable, HasRoom}
use Rattle.kz_laws_znodes.proofs.Walk.{may_be_long}
use Rattle.kz_laws_znodes.proofs.Shown.{topic_facts, partition_facts, quota_key_good}
use Rattle.kz_laws_znodes.proofs.Bodies.{holds_le, assignments_in_order, assignments_are, state_is, configuration_is}
use Rattle.kz_laws_znodes.proofs.QuotaFacts.{entity_quotas, quota_body, user_body, user_parts, AclFacts, acl_facts}
use Rattle.kz_laws_znodes.proofs.Says.{broker_named}
use Rattle.kz_laws_znodes.proofs.BrokerWalk.{IsBrokerKey, named_only}

-- A znode holds an entity, and this is read of it.
pub record IsHeld (r : Rendered) (k : EntityKey) (b : Body) : Type 0 where
  pub keyed : key_of r.path ≡ Some k
  pub placed : path_of k ≡ r.path
  pub good : IsGoodKey k
  pub fits : may_be_long k ≡ true → (has_path k ≡ true) ⊎ (read_body k r.body ≡ Ok (body.Quota [] []))
  pub read : read_body k r.body ≡ Ok b

-- the znode of a key that may not be too long
held : (k : EntityKey) (b : Body) → IsGoodKey k → (may_be_long k ≡ true → has_path k ≡ true) → read_body k (text_of_body b) ≡ Ok b → IsHeld (znode k b) k b
held k b good fits read = record { keyed = path_holds k good.0 good.1; placed = refl; good = good; fits = λ long. inl (fits long); read = read }

never_long : (k : EntityKey) → may_be_long k ≡ false → may_be_long k ≡ true → has_path k ≡ true
never_long k short long = absurd (cc)

topic_key : (name : List ℕ) → is_topic_name name ≡ true → IsText name → IsGoodKey (key.Topic name)
unfolding is_legal
topic_key name legal text = (legal, text)

topic_config_key : (name : List ℕ) → is_topic_name name ≡ true → IsText name → IsGoodKey (key.TopicConfig name)
unfolding is_legal
topic_config_key name legal text = (legal, text)

state_key : (name : List ℕ) (number : ℤ) → is_topic_name name ≡ true → is_not_negative number ≡ true → IsText name → IsSmall number → IsGoodKey (key.Partition name number)
unfolding is_legal
state_key name number legal low text small = (and_from (is_topic_name name) (is_not_negative number) legal low, (text, small))

pub broker_good : (broker : Option ℤ) → IsBrokerKey broker → IsGoodKey (key.BrokerConfig broker)
unfolding is_legal
broker_good broker h = h

user_good : (name : List ℕ) → is_not_empty name ≡ true → IsText name → IsGoodKey (key.User (Some name))
unfolding is_legal
user_good name some text = (some, text)

producer_good : IsGoodKey key.Producer
unfolding is_legal
producer_good = (refl, tt)

config_of_topic : (name : List ℕ) (pairs : List Pair) → is_of_kind (key.TopicConfig name) (body.Config pairs) ≡ true
unfolding is_of_kind
config_of_topic name pairs = refl

config_of_broker : (broker : Option ℤ) (pairs : List Pair) → is_of_kind (key.BrokerConfig broker) (body.Config pairs) ≡ true
unfolding is_of_kind
config_of_broker broker pairs = refl

quotas_of_user_kind : (user : Option (List ℕ)) (quotas : List QuotaRow) (scrams : List ScramPair) → is_of_kind (key.User user) (body.Quota quotas scrams) ≡ true
unfolding is_of_kind
quotas_of_user_kind user quotas scrams = refl

-- the broker of a configuration
pub broker_in : (c : Configuration) → is_broker_name c.name ≡ true → (broker : Option ℤ) × (broker_key c.name ≡ key.BrokerConfig broker) × (broker_named c.name ≡ Some broker)
broker_in c h = by c.name h
  where
    more : (bs : List ℕ) (o : Option ℕ) → is_some o ≡ true → (broker : Option ℤ) × (key.BrokerConfig (option_map pos o) ≡ key.BrokerConfig broker) × (option_map (λ n. Some (pos n)) o ≡ Some broker)
    more bs None e = absurd (cc)
    more bs (Some n) e = (Some (pos n), refl, refl)

    by : (name : List ℕ) → is_broker_name name ≡ true → (broker : Option ℤ) × (broker_key name ≡ key.BrokerConfig broker) × (broker_named name ≡ Some broker)
    by [] e = (None, refl, refl)
    by (b ∷ bs) e = more (b ∷ bs) (canonical (b ∷ bs)) e

-- an entity at a path of quotas may have some
quota_kind : (k : EntityKey) (quotas : List QuotaRow) → is_below_quota_root (path_of k) ≡ true → is_of_kind k (body.Quota quotas []) ≡ true
unfolding path_of is_of_kind
quota_kind (key.Topic name) quotas h = absurd (false≢true h)
quota_kind (key.Partition topic partition) quotas h = absurd (false≢true h)
quota_kind (key.TopicConfig name) quotas h = absurd (false≢true h)
quota_kind (key.BrokerConfig broker) quotas h = absurd (false≢true h)
quota_kind (key.Client client) quotas h = refl
quota_kind (key.User user) quotas h = refl
quota_kind (key.UserClient user client) quotas h = refl
quota_kind (key.Ip address) quotas h = refl
quota_kind (key.Acl pattern kind name) quotas h = by (int_eq pattern (pos 3)) h
  where
    by : (t : Bool) → is_below_quota_root ((if t then codes "/kafka-acl/" else codes "/kafka-acl-extended/prefixed/") ++ (resource_type_name kind ++ (codes "/" ++ name))) ≡ true → false ≡ true
    by true h = h
    by false h = h
quota_kind key.Producer quotas h = absurd (false≢true h)

-- whether an entity may have quotas
abbrev pub has_quotas : EntityKey → Bool
has_quotas (key.Client client) = true
has_quotas (key.User user) = true
has_quotas (key.UserClient user client) = true
has_quotas (key.Ip address) = true
has_quotas k = false

kind_has : (k : EntityKey) (quotas : List QuotaRow) → is_of_kind k (body.Quota quotas []) ≡ true → has_quotas k ≡ true
unfolding is_of_kind
kind_has (key.Topic name) quotas h = h
kind_has (key.Partition topic partition) quotas h = h
kind_has (key.TopicConfig name) quotas h = h
kind_has (key.BrokerConfig broker) quotas h = h
kind_has (key.Client client) quotas h = refl
kind_has (key.User user) quotas h = refl
kind_has (key.UserClient user client) quotas h = refl
kind_has (key.Ip address) quotas h = refl
kind_has (key.Acl pattern kind name) quotas h = h
kind_has key.Producer quotas h = h

module _ (i : Image) (o : IsInOrder i) (w : IsWritable i) where
  -- ---- topics

  pub topic_held : (t : TopicEntry) → Contains i.topics t → IsHeld (topic_znode t) (key.Topic t.name) (body.Topic t.id (map assignment_of t.partitions))
  topic_held t has =
      let f = topic_facts i o w t has in
      held (key.Topic t.name) (body.Topic t.id (map assignment_of t.partitions)) (topic_key t.name f.legal.named f.writable.name) (never_long (key.Topic t.name) refl)
      (topic_is_read t.name t.id (map assignment_of t.partitions) (record {
        bytes_are = f.writable.bytes;
        length_is = f.writable.sixteen;
        id_is = f.legal.identified;
        order = assignments_in_order t.partitions f.order.0;
        rows_are = assignments_are t.partitions (λ p within. partition_facts i o w t p has within);
      }))

  pub state_held : (t : TopicEntry) (p : PartitionEntry) → Contains i.topics t → Contains t.partitions p → pos 0 ≤ℤ p.row.controller_epoch
      → IsHeld (znode (key.Partition t.name p.number) (state_body p.row)) (key.Partition t.name p.number) (state_body p.row)
  state_held t p has within low =
      let f = topic_facts i o w t has in
      let g = partition_facts i o w t p has within in
      held (key.Partition t.name p.number) (state_body p.row) (state_key t.name p.number f.legal.named g.legal.0 f.writable.name g.writable.number) (never_long (key.Partition t.name p.number) refl)
      (state_is_read t.name p.number p.row.leader p.row.leader_epoch p.row.controller_epoch p.row.isr p.row.recovery (state_is p g low))

  pub topic_config_held : (t : TopicEntry) → Contains i.topics t → IsHeld (znode (key.TopicConfig t.name) (body.Config t.pairs)) (key.TopicConfig t.name) (body.Config t.pairs)
  topic_config_held t has =
      let f = topic_facts i o w t has in
      held (key.TopicConfig t.name) (body.Config t.pairs) (topic_config_key t.name f.legal.named f.writable.name) (never_long (key.TopicConfig t.name) refl)
      (config_is_read (key.TopicConfig t.name) t.pairs (config_of_topic t.name t.pairs) (configuration_is t.pairs f.writable.members f.order.1))

  pub config_held : (c : Configuration) → Contains i.broker_configs c → (broker : Option ℤ) × (broker_named c.name ≡ Some broker) × IsHeld (config_znode c) (key.BrokerConfig broker) (body.Config c.pairs)
  config_held c has =
      let legal = All-contains IsConfiguration i.broker_configs c o.legal.configs has in
      let filled = All-contains IsFilled i.broker_configs c o.configs.filled has in
      let writable = All-contains IsConfigWritable i.broker_configs c w.configs has in
      let b = broker_in c legal.0 in
      let k = named_only c.name b.0 b.2 in (
        b.0,
        b.2,
        subst (λ k. IsHeld (znode k (body.Config c.pairs)) (key.BrokerConfig b.0) (body.Config c.pairs)) (sym b.1)
            (held (key.BrokerConfig b.0) (body.Config c.pairs) (broker_good b.0 k.1) (never_long (key.BrokerConfig b.0) refl)
            (config_is_read (key.BrokerConfig b.0) c.pairs (config_of_broker b.0 c.pairs) (configuration_is c.pairs writable filled.1))),
      )

  -- ---- quotas and credentials

  quotas_are : (q : QuotaEntry) (k : EntityKey) → Contains i.quotas q → path_of k ≡ q.path → AreQuotas k q.quotas
  quotas_are q k has at =
      let legal = All-contains IsQuotaEntry i.quotas q o.legal.quotas has in
      let writable = All-contains AreQuotasWritable i.quotas q w.quotas has in
      entity_quotas q k legal at writable.each

  pub quota_path : (q : QuotaEntry) (k : EntityKey) → Contains i.quotas q → key_of q.path ≡ Some k → path_of k ≡ q.path
  quota_path q k has is = path_of_key_of q.path k (All-contains IsQuotaFilled i.quotas q o.quotas.filled has).2 is

  quota_fits : (q : QuotaEntry) (k : EntityKey) → Contains i.quotas q → key_of q.path ≡ Some k → has_path k ≡ true
  unfolding has_path
  quota_fits q k has is = ap is_path (quota_path q k has is) ∙ (All-contains IsQuotaFilled i.quotas q o.quotas.filled has).2

  pub quota_held : (q : QuotaEntry) (k : EntityKey) → Contains i.quotas q → key_of q.path ≡ Some k → IsHeld (znode k (body.Quota q.quotas [])) k (body.Quota q.quotas [])
  quota_held q k has is =
      let kind = quota_kind k q.quotas (ap is_below_quota_root (quota_path q k has is) ∙ (All-contains IsQuotaFilled i.quotas q o.quotas.filled has).3) in
      let filled = All-contains IsQuotaFilled i.quotas q o.quotas.filled has in
      held k (body.Quota q.quotas []) (quota_key_good i o w q k has is) (λ long. quota_fits q k has is)
      (quotas_are_read k q.quotas [] kind (quota_body k q.quotas (quotas_are q k has (quota_path q k has is)) filled.1))

  pub quota_kind_of : (q : QuotaEntry) (k : EntityKey) → Contains i.quotas q → key_of q.path ≡ Some k → has_quotas k ≡ true
  quota_kind_of q k has is = kind_has k q.quotas (quota_kind k q.quotas (ap is_below_quota_root (quota_path q k has is) ∙ (All-contains IsQuotaFilled i.quotas q o.quotas.filled has).3))

  no_quotas : (k : EntityKey) → IsQuotaBody k [] []
  no_quotas k = record { quotas_are = tt; scrams_are = tt; quotas_rise = tt; scrams_rise = tt }

  pub user_held : (u : ScramEntry) → Contains i.users u → IsHeld (user_znode i.quotas u) (key.User (Some u.name)) (body.Quota (quotas_of_user u.name i.quotas) u.scrams)
  user_held u has =
      let legal = All-contains IsScramEntry i.users u o.legal.users has in
      let filled = All-contains IsUserFilled i.users u o.users.filled has in
      let writable = All-contains IsUserWritable i.users u w.users has in
      let parts = first u.scrams filled.0 legal in
      let k : EntityKey = key.User (Some u.name) in
      held k (body.Quota (quotas_of_user u.name i.quotas) u.scrams) (user_good u.name parts.0 writable.0) (λ long. parts.1)
      (quotas_are_read k (quotas_of_user u.name i.quotas) u.scrams (quotas_of_user_kind (Some u.name) (quotas_of_user u.name i.quotas) u.scrams)
      (own_quotas (find bytes_cmp path_of_quotas (path_of k) i.quotas) refl legal writable.1 filled.1))
    where
      first : (scrams : List ScramPair) → 0 < length scrams → All (IsScramOf u.name) scrams → (is_not_empty u.name ≡ true) × (has_path (key.User (Some u.name)) ≡ true)
      first [] some all = absurd (omega arith)
      first (s ∷ ss) some all = user_parts u.name (All-head (IsScramOf u.name) s ss all).0

      own_quotas : (q : Option QuotaEntry) → find bytes_cmp path_of_quotas (path_of (key.User (Some u.name))) i.quotas ≡ q → All (IsScramOf u.name) u.scrams → All IsScramWritable u.scrams → Rises int_cmp mechanism_of_pair u.scrams
          → IsQuotaBody (key.User (Some u.name)) (quotas_in (find bytes_cmp path_of_quotas (path_of (key.User (Some u.name))) i.quotas)) u.scrams
      own_quotas None e s w r = subst (λ q. IsQuotaBody (key.User (Some u.name)) (quotas_in q) u.scrams) (sym e) (user_body u.name [] u.scrams tt tt s w r)
      own_quotas (Some q) e s w r =
          let within = found_is_contained bytes_order path_of_quotas (path_of (key.User (Some u.name))) i.quotas q e in
          let at = key_of_found bytes_order path_of_quotas (path_of (key.User (Some u.name))) i.quotas q e in
          let filled = All-contains IsQuotaFilled i.quotas q o.quotas.filled within in
          subst (λ q. IsQuotaBody (key.User (Some u.name)) (quotas_in q) u.scrams) (sym e) (user_body u.name q.quotas u.scrams (quotas_are q (key.User (Some u.name)) within (sym at)) filled.1 s w r)

  pub parent_held : (user : Option (List ℕ)) → IsGoodKey (key.User user) → IsHeld (bare (path_of (key.User user))) (key.User user) (body.Quota [] [])
  unfolding read_body empty_body
  parent_held user good = record { keyed = path_holds (key.User user) good.0 good.1; placed = refl; good = good; fits = λ long. inr refl; read = refl }

  -- ---- access control entries

  -- the entries of the resource of one
  abbrev pub resource_rows : AclRow → List AclRow
  resource_rows row = map row_of_acl (filter (is_of_resource row) i.acls)

  pub facts_of_acl : (a : AclEntry) → Contains i.acls a → AclFacts a
  facts_of_acl a has = acl_facts a (All-contains IsAcl i.acls a o.legal.acls has) (All-contains IsAclWritable i.acls a w.acls has)

  same_resource : (a b : AclEntry) → AclFacts a → AclFacts b → path_of (acl_key b.row) ≡ path_of (acl_key a.row) → (b.row.pattern ≡ a.row.pattern) × (b.row.kind ≡ a.row.kind) × (b.row.name ≡ a.row.name)
  same_resource a b f g e =
      let keys : Some (acl_key b.row) ≡ Some (acl_key a.row) = sym (path_holds (acl_key b.row) g.good.0 g.good.1) ∙ ap key_of e ∙ path_holds (acl_key a.row) f.good.0 f.good.1 in
      (cc, cc, cc)

  entries_are : (a : AclEntry) → AclFacts a → (acls : List AclEntry) → ((b : AclEntry) → Contains acls b → AclFacts b)
      → AreEntries a.row.pattern a.row.kind a.row.name (map row_of_acl (filter (is_of_resource a.row) acls))
  entries_are a f [] h = tt
  entries_are a f (b ∷ bs) h = by (is_of_resource a.row b) refl (entries_are a f bs (λ c has. h c (Contains-tail b bs c has)))
    where
      by : (t : Bool) → is_of_resource a.row b ≡ t → AreEntries a.row.pattern a.row.kind a.row.name (map row_of_acl (filter (is_of_resource a.row) bs))
          → AreEntries a.row.pattern a.row.kind a.row.name (map row_of_acl (cond t (b ∷ filter (is_of_resource a.row) bs) (filter (is_of_resource a.row) bs)))
      by true e rest =
          let g = h b (Contains-head b bs) in
          let same = same_resource a b f g ((bytes_eq-Decides (path_of (acl_key b.row)) (path_of (acl_key a.row))).0 e) in
          (record { pattern_is = same.0; kind_is = same.1; name_is = same.2; principal_is = g.writable.principal; host_is = g.writable.host; operation_is = g.operation; permission_is = g.permission }, rest)
      by false e rest = rest

  pub entries_held : (a : AclEntry) → Contains i.acls a → IsHeld (acl_znode i.acls a) (acl_key a.row) (body.Acls (resource_rows a.row))
  entries_held a has =
      let f = facts_of_acl a has in
      held (acl_key a.row) (body.Acls (resource_rows a.row)) f.good (λ long. f.fits)
      (entries_are_read a.row.pattern a.row.kind a.row.name (resource_rows a.row) (entries_are a f i.acls (λ b within. facts_of_acl b within)))

  -- ---- producer ids

  block_is : (next : ℤ) → is_not_negative next ≡ true → next ≤ℤ pos 9223372036854773808 → IsBlock (negsuc 0) next (next +ℤ pos 999)
  block_is next low high =
      let l : pos 0 ≤ℤ next = holds_le (pos 0) next low in
      record { broker_is = (omega (arith, ints), omega (arith, ints)); start_is = (l, omega (arith, ints, high)); end_is = (omega (arith, ints, l), omega (arith, ints, high)) }

  pub producer_held : (next : ℤ) → i.next_producer ≡ Some next → HasRoom i.next_producer → IsHeld (znode key.Producer (body.Producer (negsuc 0) next (next +ℤ pos 999))) key.Producer (body.Producer (negsuc 0) next (next +ℤ pos 999))
  producer_held next is room =
      held key.Producer (body.Producer (negsuc 0) next (next +ℤ pos 999)) producer_good (never_long key.Producer refl)
      (producer_is_read (negsuc 0) next (next +ℤ pos 999) (block_is next (subst IsNext is o.legal.next).0 (subst HasRoom is room)))

  pub blank_held : IsHeld (bare (path_of key.Producer)) key.Producer body.Blank
  unfolding read_body empty_body key_of path_of
  blank_held = record { keyed = refl; placed = refl; good = producer_good; fits = λ long. absurd (cc); read = refl }
