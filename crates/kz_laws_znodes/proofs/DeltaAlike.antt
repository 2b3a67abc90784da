-- Keys that span all paths of the keys at which two metadata differ cover the difference of their renderings.
use Rattle.std.proofs.Common.{◌≡◌, ℕ, List, ◌++◌, map, Contains, refl, sym, ap, ◌∙◌}
use Rattle.std.proofs.lemmas.Slice.Eq.{bytes_eq-Decides}
use Rattle.std.specs.List.{flat_map}
use Rattle.std.specs.Option.{option_or}
use Rattle.kz_types.specs.declared.key.EntityKey.{EntityKey}
use Rattle.kz_types.specs.Paths.{roots}
use Rattle.kz_types.specs.declared.tree.Rendered.{Rendered}
use Rattle.kz_types.specs.Order.{bytes_cmp}
use Rattle.kz_types.specs.Ordered.{find, Rises}
use Rattle.kz_types.specs.Difference.{DecidesEqual}
use Rattle.kz_types.specs.Covering.{at_keys}
use Rattle.kz_types.proofs.Order.{bytes_order}
use Rattle.kz_types.proofs.Covering.{covered_difference}
use Rattle.kz_spec_data.specs.Difference.{same_body, op_of, diff}
use Rattle.kz_laws_znodes.proofs.Found.{render_rises}
use Rattle.kz_spec_data.specs.Tree.{path_of_rendered}
use Rattle.kz_spec_data.specs.Metadata.{Image}
use Rattle.kz_spec_data.specs.InOrder.{IsInOrder}
use Rattle.kz_spec_data.specs.Rendering.{bare, topic_znodes, config_znode, quota_parents, own_znodes, user_znode, quota_znodes, acl_znode, producer_znodes, entity_znodes, render}
use Rattle.kz_laws_znodes.specs.RoundTrip.{IsWritable}
use Rattle.kz_spec_data.specs.Spans.{all_spanned_paths, CoverDifference}
use Rattle.kz_laws_znodes.specs.Delta.{HaveDifference}
use Rattle.kz_laws_znodes.proofs.Lasts.{last_at, alike-append, found_in_rendering}
use Rattle.kz_laws_znodes.proofs.Spanned.{HoldTheSame}
use Rattle.kz_laws_znodes.proofs.TopicsAlike.{topics_alike}
use Rattle.kz_laws_znodes.proofs.ConfigsAlike.{configs_alike}
use Rattle.kz_laws_znodes.proofs.QuotasAlike.{parents_alike, own_alike, users_alike}
use Rattle.kz_laws_znodes.proofs.EntriesAlike.{acls_alike, producer_alike}

decides_body : DecidesEqual path_of_rendered same_body
decides_body = record {
  itself = λ r. (bytes_eq-Decides r.body r.body).1 refl;
  equal = λ r s named same. (λ i. record { path = named i; body = (bytes_eq-Decides r.body s.body).0 same i });
}

module _ (old new : Image) (oo : IsInOrder old) (wo : IsWritable old) (on : IsInOrder new) (wn : IsWritable new) where
  entities_alike : (p : List ℕ) → HoldTheSame old new p → last_at p (entity_znodes old) ≡ last_at p (entity_znodes new)
  entities_alike p hold =
      alike-append p (flat_map topic_znodes old.topics) (map config_znode old.broker_configs ++ after_configs old) (flat_map topic_znodes new.topics) (map config_znode new.broker_configs ++ after_configs new) (topics_alike old new oo wo on wn p hold)
      (alike-append p (map config_znode old.broker_configs) (after_configs old) (map config_znode new.broker_configs) (after_configs new) (configs_alike old new oo wo on wn p hold)
      (alike-append p (quota_znodes old.quotas old.users) (last_znodes old) (quota_znodes new.quotas new.users) (last_znodes new)
      (alike-append p (flat_map quota_parents old.quotas) (own_or_user old) (flat_map quota_parents new.quotas) (own_or_user new) (parents_alike old new oo wo on wn p hold)
      (alike-append p (flat_map own_znodes old.quotas) (map (user_znode old.quotas) old.users) (flat_map own_znodes new.quotas) (map (user_znode new.quotas) new.users) (own_alike old new oo wo on wn p hold) (users_alike old new oo wo on wn p hold)))
      (alike-append p (map (acl_znode old.acls) old.acls) (producer_znodes old.next_producer) (map (acl_znode new.acls) new.acls) (producer_znodes new.next_producer) (acls_alike old new oo wo on wn p hold) (producer_alike old new oo wo on wn p hold))))
    where
      own_or_user : Image → List Rendered
      own_or_user i = flat_map own_znodes i.quotas ++ map (user_znode i.quotas) i.users

      last_znodes : Image → List Rendered
      last_znodes i = map (acl_znode i.acls) i.acls ++ producer_znodes i.next_producer

      after_configs : Image → List Rendered
      after_configs i = quota_znodes i.quotas i.users ++ last_znodes i

  -- at a path that no key spans, nothing differs
  pub covered : (ks : List EntityKey) → HaveDifference ks old new → CoverDifference ks (render old) (render new)
  covered ks same p outside =
      let hold : HoldTheSame old new p = λ k good within. same k good.0 good.1 p within outside in
      found_in_rendering p old ∙ ap (λ found. option_or found (find bytes_cmp path_of_rendered p (map bare roots))) (entities_alike p hold) ∙ sym (found_in_rendering p new)

  -- so the operations are those between the znodes at the paths that the keys span
  pub delta_of_paths : (ks : List EntityKey) → HaveDifference ks old new → (paths : List (List ℕ)) → Rises bytes_cmp (λ p. p) paths → ((p : List ℕ) → Contains (all_spanned_paths ks) p → Contains paths p)
      → diff (render old) (render new) ≡ diff (at_keys bytes_cmp path_of_rendered paths (render old)) (at_keys bytes_cmp path_of_rendered paths (render new))
  unfolding diff
  delta_of_paths ks same paths rises within =
      ap (map op_of) (covered_difference bytes_order path_of_rendered same_body decides_body paths (render old) (render new) rises (render_rises old) (render_rises new) (λ p outside. covered ks same p (λ has. outside (within p has))))
