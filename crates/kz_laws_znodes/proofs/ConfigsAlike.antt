-- The znodes of brokers' configurations at a path.
use Rattle.std.proofs.Common.{◌≡◌, ℕ, ℤ, ◌<◌, List, [], ◌∷◌, map, length, Option, Some, None, Contains, refl, sym, ap, ◌∙◌, subst, arith}
use Rattle.std.proofs.lemmas.List.Elements.{All-contains}
use Rattle.kz_types.specs.declared.tree.Rendered.{Rendered}
use Rattle.kz_types.specs.declared.bodies.Body.{Body}
use Rattle.kz_types.specs.declared.bodies.Body.TheVariants as body
use Rattle.kz_types.specs.declared.bodies.Pair.{Pair}
use Rattle.kz_types.specs.declared.image.Configuration.{Configuration}
use Rattle.kz_types.specs.declared.key.EntityKey.TheVariants as key
use Rattle.kz_types.specs.Paths.{path_of}
use Rattle.kz_types.specs.Order.{bytes_cmp}
use Rattle.kz_types.specs.Ordered.{find}
use Rattle.kz_types.proofs.Order.{bytes_order}
use Rattle.kz_types.proofs.Lookup.{same_some, found_is_contained, key_of_found, contained_is_found}
use Rattle.kz_spec_data.specs.Metadata.{Image, name_of_configuration, pairs_of, pairs_at}
use Rattle.kz_spec_data.specs.InOrder.{IsFilled, IsInOrder}
use Rattle.kz_spec_data.specs.Legal.{IsConfiguration}
use Rattle.kz_spec_data.specs.Rendering.{znode, config_znode}
use Rattle.kz_laws_values.proofs.Keys.{one_key}
use Rattle.kz_laws_znodes.specs.RoundTrip.{IsWritable}
use Rattle.kz_laws_znodes.proofs.Within.{from_map, to_map}
use Rattle.kz_laws_znodes.proofs.BrokerWalk.{IsBrokerKey, named_only, named_back}
use Rattle.kz_laws_znodes.proofs.Held.{broker_good, broker_in}
use Rattle.kz_spec_data.specs.Translation.{broker_name}
use Rattle.kz_laws_znodes.proofs.Says.{broker_named}
use Rattle.kz_spec_data.specs.Entities.{config_body}
use Rattle.kz_spec_data.specs.Spans.{spanned_paths}
use Rattle.kz_laws_znodes.proofs.Lasts.{last_at}
use Rattle.kz_laws_znodes.proofs.Spans.{own_path}
use Rattle.kz_laws_znodes.proofs.Spanned.{HoldTheSame}
use Rattle.kz_laws_znodes.proofs.DeltaGroups.{Gives, groups_alike}

abbrev path : Option ℤ → List ℕ
path broker = path_of (key.BrokerConfig broker)

abbrev make : Option ℤ → Body → Rendered
make broker b = znode (key.BrokerConfig broker) b

one : (b c : Option ℤ) → IsBrokerKey b → IsBrokerKey c → path b ≡ path c → b ≡ c
one b c good other same =
    let g = broker_good b good in
    let h = broker_good c other in
    let keys : key.BrokerConfig b ≡ key.BrokerConfig c = one_key (key.BrokerConfig b) (key.BrokerConfig c) g.0 g.1 h.0 h.1 same in
    cc (keys)

pub filled_body : (pairs : List Pair) → 0 < length pairs → config_body pairs ≡ Some (body.Config pairs)
filled_body [] some = absurd (omega (arith, some))
filled_body (p ∷ ps) some = refl

pub body_filled : (pairs : List Pair) (b : Body) → config_body pairs ≡ Some b → b ≡ body.Config pairs
body_filled [] b e = absurd (cc (e))
body_filled (p ∷ ps) b e = sym (same_some (body.Config (p ∷ ps)) b e)

module _ (i : Image) (o : IsInOrder i) (w : IsWritable i) where
  abbrev held : Option ℤ → Option Body
  held broker = config_body (pairs_at (broker_name broker) i.broker_configs)

  each : (r : Rendered) → Contains (map config_znode i.broker_configs) r → (b : Option ℤ) × IsBrokerKey b × ((x : Body) × (held b ≡ Some x) × (r ≡ make b x))
  each r has =
      let f = from_map config_znode i.broker_configs r has in
      let c : Configuration = f.source in
      let legal = All-contains IsConfiguration i.broker_configs c o.legal.configs f.has in
      let filled = All-contains IsFilled i.broker_configs c o.configs.filled f.has in
      let n = broker_in c legal.0 in
      let only = named_only c.name n.0 n.2 in
      let found : find bytes_cmp name_of_configuration (broker_name n.0) i.broker_configs ≡ Some c =
      ap (λ k. find bytes_cmp name_of_configuration k i.broker_configs) (sym only.0) ∙ contained_is_found bytes_order name_of_configuration i.broker_configs c o.configs.rising f.has in
      (n.0, only.1, (body.Config c.pairs, ap (λ x. config_body (pairs_of x)) found ∙ filled_body c.pairs filled.0, f.is ∙ ap (λ k. znode k (body.Config c.pairs)) n.1))

  there : (b : Option ℤ) (x : Body) → IsBrokerKey b → held b ≡ Some x → Contains (map config_znode i.broker_configs) (make b x)
  there b x good is = by (find bytes_cmp name_of_configuration (broker_name b) i.broker_configs) refl
    where
      by : (found : Option Configuration) → find bytes_cmp name_of_configuration (broker_name b) i.broker_configs ≡ found → Contains (map config_znode i.broker_configs) (make b x)
      by None e = absurd (let no : config_body [] ≡ Some x = ap (λ f. config_body (pairs_of f)) (sym e) ∙ is in cc (no))
      by (Some c) e =
          let has : Contains i.broker_configs c = found_is_contained bytes_order name_of_configuration (broker_name b) i.broker_configs c e in
          let at : c.name ≡ broker_name b = key_of_found bytes_order name_of_configuration (broker_name b) i.broker_configs c e in
          let legal = All-contains IsConfiguration i.broker_configs c o.legal.configs has in
          let n = broker_in c legal.0 in
          let only = named_only c.name n.0 n.2 in
          let same : n.0 ≡ b = same_some n.0 b (sym n.2 ∙ ap broker_named at ∙ named_back b good) in
          let body_is : x ≡ body.Config c.pairs = body_filled c.pairs x (ap (λ f. config_body (pairs_of f)) (sym e) ∙ is) in
          let made : config_znode c ≡ make b x = ap (λ k. znode k (body.Config c.pairs)) (n.1 ∙ ap (λ k. key.BrokerConfig k) same) ∙ ap (make b) (sym body_is) in
          subst (Contains (map config_znode i.broker_configs)) made (to_map config_znode i.broker_configs c has)

  configs_given : Gives path IsBrokerKey one make (λ b x. refl) (map config_znode i.broker_configs) held
  configs_given = record { each = each; there = there }

module _ (old new : Image) (oo : IsInOrder old) (wo : IsWritable old) (on : IsInOrder new) (wn : IsWritable new) (p : List ℕ) (hold : HoldTheSame old new p) where
  -- at the path, the configurations give the same
  pub configs_alike : last_at p (map config_znode old.broker_configs) ≡ last_at p (map config_znode new.broker_configs)
  configs_alike =
      groups_alike path IsBrokerKey one make (λ b x. refl) p (map config_znode old.broker_configs) (map config_znode new.broker_configs) (held old oo wo) (held new on wn) (configs_given old oo wo) (configs_given new on wn)
      (λ b good at. hold (key.BrokerConfig b) (broker_good b good) (subst (Contains (spanned_paths (key.BrokerConfig b))) at (own_path (key.BrokerConfig b))))
