use Rattle.std.proofs.Common.{◌≡◌, false, ap, sym, ◌∙◌, inl, inr}
use Rattle.std.specs.Prelude.{option_map}
use Rattle.kz_types.specs.Paths.{path_of, is_legal}
use Rattle.kz_types.specs.declared.key.EntityKey.{EntityKey}
use Rattle.kz_spec_data.specs.InOrder.{is_below_quota_root}
use Rattle.kz_laws_znodes.proofs.QuotaLists.{rows_of}
use Rattle.kz_image.proofs.QuotaLists.{other_path_not_found, none_guarded, topic_path, partition_path, topic_config_path, broker_config_path, acl_path, producer_path}
use Rattle.kz_image.proofs.quotas.quotas_of.Goals as goal

pub returns-in-Topic : goal.returns-in-Topic
returns-in-Topic c =
    let root = λ (k : EntityKey). is_below_quota_root (path_of k) in
    let other : is_below_quota_root (path_of c.args.key.now) ≡ false = elim c.in-Topic.is [
      | inl w ↦ ap root w.1 ∙ topic_path w.0
      | inr r ↦ elim r [
        | inl w ↦ ap root w.2 ∙ partition_path w.0 w.1
        | inr r ↦ elim r [
          | inl w ↦ ap root w.1 ∙ topic_config_path w.0
          | inr r ↦ elim r [
            | inl w ↦ ap root w.1 ∙ broker_config_path w.0
            | inr r ↦ elim r [
              | inl w ↦ ap root w.3 ∙ acl_path w.0 w.1 w.2
              | inr w ↦ ap root w ∙ producer_path
            ]
          ]
        ]
      ]
    ] in
    sym (none_guarded (is_legal c.args.key.now) _ (ap (option_map rows_of) (other_path_not_found (path_of c.args.key.now) c.args.entries.now c.requires other)))
