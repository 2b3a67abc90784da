use Rattle.std.proofs.Common.{◌≡◌, ◌≤◌, length, take}
use Rattle.kz_spec_data.specs.Quotas.{without_end_zeros}
use Rattle.kz_body_parts.proofs.quota_texts.Digits.without_end_zeros.Given as goal

abbrev pub invariant-loop-count : goal.invariant-loop-count
invariant-loop-count l = record {
  within : l.count ≤ length l.self-inside.text.now;
  same : without_end_zeros l.self-inside.text.now ≡ without_end_zeros (take l.count l.self-inside.text.now);
}

abbrev pub decreases-loop-count : goal.decreases-loop-count
decreases-loop-count l = l.count
