use Rattle.std.proofs.Common.{◌≡◌, Some, true, ap, sym, ◌∙◌}
use Rattle.std.specs.Prelude.{is_some}
use Rattle.std.proofs.lemmas.Bool.{false≢true}
use Rattle.kz_types.specs.PathRule.{is_path}
use Rattle.kz_types.specs.Paths.{key_of}
use Rattle.kz_spec_data.specs.ImageRules.{quota_key, has_quota}
use Rattle.kz_image_rules.specs.QuotaKeys.{entity_of}
use Rattle.kz_laws_znodes.proofs.QuotaLists.{quota_path}
use Rattle.kz_image.proofs.QuotaLists.{quota_legal, changed_is_read}
use Rattle.kz_image.proofs.quotas.change_entries.Goals as goal

pub returns-in_default-path_of-clause-ok : goal.returns-in_default-path_of-clause-ok
returns-in_default-path_of-clause-ok c =
    let name = c.args.change.now.key in
    let named : has_quota (Some (entity_of c.in-Some.key)) name ≡ true = ap (λ k. has_quota k name) (c.in-Some.ensures ∙ ap quota_key c.as_slice.ensures.value) ∙ c.requires.named in
    absurd (false≢true (sym c.in_default-path_of.ensures.path ∙ quota_path (entity_of c.in-Some.key) name named))

pub change_under-requires-clause-rule : goal.change_under-requires-clause-rule
change_under-requires-clause-rule c =
    let name = c.args.change.now.key in
    let named : has_quota (Some (entity_of c.in-Some.key)) name ≡ true = ap (λ k. has_quota k name) (c.in-Some.ensures ∙ ap quota_key c.as_slice.ensures.value) ∙ c.requires.named in
    ap is_path (c.bytes.ensures.value ∙ c.in-Some-path_of.ensures.path) ∙ quota_path (entity_of c.in-Some.key) name named

pub returns-clause-read : goal.returns-clause-read
returns-clause-read c =
    let k = entity_of c.in-Some.key in
    let name = c.args.change.now.key in
    let named : has_quota (Some k) name ≡ true = ap (λ found. has_quota found name) (c.in-Some.ensures ∙ ap quota_key c.as_slice.ensures.value) ∙ c.requires.named in
    let read : is_some (key_of c.bytes.result.now) ≡ true =
    ap (λ path. is_some (key_of path)) (c.bytes.ensures.value ∙ c.in-Some-path_of.ensures.path) ∙ ap is_some (c.in-Some-path_of.ensures.read (quota_legal k name named)) in
    rw c.in_ok-change_under.ensures.ok (changed_is_read c.args.change.now c.bytes.result.now c.args.entries.now read c.requires.read)
