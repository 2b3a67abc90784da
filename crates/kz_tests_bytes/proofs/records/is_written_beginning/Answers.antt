use Rattle.std.proofs.Common.{◌≡◌, ℕ, ◌+◌, ◌/◌, ◌^◌, ◌<◌, List, ◌++◌, length, arith, sym, ap, ◌∙◌, subst}
use Rattle.kz_spec_data.specs.Fields.{groups_of}
use Rattle.kz_tests_bytes.proofs.records.is_written_beginning.Goals as goal

short_field : (name : List ℕ) → length name ≡ 12 → length (groups_of 9 (length name / 1 + 1) ++ name) < 2 ^ 32
unfolding groups_of
short_field name l = subst (λ n. length (groups_of 9 (n / 1 + 1) ++ name) < 2 ^ 32) (sym l) (omega (arith, l))

pub is_written-requires : goal.is_written-requires
is_written-requires g c = short_field c.in-Ok.name (ap length c.in-Ok.ensures ∙ c.requires)
