-- All znodes, put one after another onto the roots.
use Rattle.std.proofs.Common.{◌≡◌, List, [], ◌++◌, map, sym, ap, ◌∙◌, append_assoc}
use Rattle.std.specs.List.{flat_map}
use Rattle.kz_types.specs.declared.tree.Rendered.{Rendered}
use Rattle.kz_types.specs.Paths.{roots}
use Rattle.kz_types.specs.Order.{bytes_cmp}
use Rattle.kz_types.specs.Ordered.{all_put, Rises}
use Rattle.kz_types.proofs.Order.{bytes_order}
use Rattle.kz_types.proofs.Puts.{all_put-append, all_put_of_rising}
use Rattle.kz_spec_data.specs.Metadata.{Image}
use Rattle.kz_spec_data.specs.Tree.{path_of_rendered}
use Rattle.kz_spec_data.specs.Rendering.{bare, topic_znodes, config_znode, quota_znodes, acl_znode, producer_znodes, entity_znodes, render}
use Rattle.kz_render.specs.Apart.{topics_apart}
use Rattle.kz_render.specs.Gathered.{PutAlike}
use Rattle.kz_render.proofs.TopicsApart.{apart_alike}

-- lists that are put alike still are with more after each
put_alike_more : (xs ys more : List Rendered) → PutAlike xs ys → PutAlike (xs ++ more) (ys ++ more)
put_alike_more xs ys more same =
    all_put-append bytes_order path_of_rendered xs more [] ∙ ap (all_put bytes_cmp path_of_rendered more) same ∙ sym (all_put-append bytes_order path_of_rendered ys more [])

-- all of them are added in three steps, of which the middle one adds what is put alike
pub entities_alike : (i : Image) (old first second third : List Rendered)
    → first ≡ old ++ (topics_apart i.topics ++ (map config_znode i.broker_configs ++ quota_znodes i.quotas i.users))
    → PutAlike second (first ++ map (acl_znode i.acls) i.acls) → third ≡ second ++ producer_znodes i.next_producer → PutAlike third (old ++ entity_znodes i)
entities_alike i old first second third one two three =
    let topics = flat_map topic_znodes i.topics in
    let configs = map config_znode i.broker_configs in
    let quotas = quota_znodes i.quotas i.users in
    let acls = map (acl_znode i.acls) i.acls in
    let producer = producer_znodes i.next_producer in
    let first_alike : PutAlike first (old ++ (topics ++ (configs ++ quotas))) = ap (λ zs. all_put bytes_cmp path_of_rendered zs []) one ∙ apart_alike old (configs ++ quotas) i.topics in
    let second_alike : PutAlike second ((old ++ (topics ++ (configs ++ quotas))) ++ acls) = two ∙ put_alike_more first (old ++ (topics ++ (configs ++ quotas))) acls first_alike in
    ap (λ zs. all_put bytes_cmp path_of_rendered zs []) three ∙ put_alike_more second ((old ++ (topics ++ (configs ++ quotas))) ++ acls) producer second_alike
    ∙ ap (λ zs. all_put bytes_cmp path_of_rendered zs []) (append_assoc (old ++ (topics ++ (configs ++ quotas))) acls producer ∙ append_assoc old (topics ++ (configs ++ quotas)) (acls ++ producer)
    ∙ ap (λ zs. old ++ zs) (append_assoc topics (configs ++ quotas) (acls ++ producer) ∙ ap (λ zs. topics ++ zs) (append_assoc configs quotas (acls ++ producer))))

-- with those of the roots in front, all of them are the rendering
pub rendered : (i : Image) (start all made : List Rendered) → start ≡ map bare roots → Rises bytes_cmp path_of_rendered start → PutAlike all (start ++ entity_znodes i)
    → made ≡ all_put bytes_cmp path_of_rendered all [] → made ≡ render i
unfolding render
rendered i start all made is rises same put =
    put ∙ same ∙ all_put-append bytes_order path_of_rendered start (entity_znodes i) []
    ∙ ap (all_put bytes_cmp path_of_rendered (entity_znodes i)) (all_put_of_rising bytes_order path_of_rendered start rises ∙ is)
