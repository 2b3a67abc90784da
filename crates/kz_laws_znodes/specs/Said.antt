-- What the records that count say, one after another, of one thing.
use Rattle.std.specs.Prelude.{ℤ, List, [], ◌∷◌, Option, Some, None}
use Rattle.kz_types.specs.declared.log.Entry.{Entry}
use Rattle.kz_types.specs.declared.image_fault.ImageRule.{ImageRule}
use Rattle.kz_types.specs.declared.record.MetaRecord.{MetaRecord}
use Rattle.kz_spec_data.specs.Metadata.{Image}
use Rattle.kz_spec_data.specs.ImageRules.{broken_rule}
use Rattle.kz_spec_data.specs.Image.{image_with}

-- a record before these, unless it breaks a rule
abbrev pub before_unless_broken : {A : Type 0} → Option ImageRule → A → List A → List A
before_unless_broken None r rest = r ∷ rest
before_unless_broken (Some rule) r rest = rest

-- ---- records of one epoch

-- The records that break no rule, each judged after the accepted ones before it.
abbrev pub acceptable_records : ℤ → List MetaRecord → Image → List MetaRecord
acceptable_records epoch [] i = []
acceptable_records epoch (r ∷ rs) i = before_unless_broken (broken_rule i r) r (acceptable_records epoch rs (image_with epoch r i))

-- What records say of a thing, one after another. `word` is what one record says of it, where something was said before, and
-- `before` is what was said before all of them.
abbrev pub value_by_records : {V : Type 0} → (MetaRecord → V → V) → List MetaRecord → V → V
value_by_records word [] before = before
value_by_records word (r ∷ rs) before = value_by_records word rs (word r before)

-- ---- entries of a log, each with its epoch

-- The entries whose record breaks no rule, each judged after the accepted ones before it.
abbrev pub accepted_entries : List Entry → Image → List Entry
accepted_entries [] i = []
accepted_entries (e ∷ es) i = before_unless_broken (broken_rule i e.item) e (accepted_entries es (image_with e.epoch e.item i))

-- What their records say of a thing, one after another, each in its epoch.
abbrev pub said_by_entries : {V : Type 0} → (ℤ → MetaRecord → V → V) → List Entry → V → V
said_by_entries word [] before = before
said_by_entries word (e ∷ es) before = said_by_entries word es (word e.epoch e.item before)
