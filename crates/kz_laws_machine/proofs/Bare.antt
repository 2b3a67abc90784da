-- The metadata of a log that isn't migrated holds nothing but brokers and a state.
use Rattle.std.proofs.Common.{◌≡◌, inl, inr, ℤ, ◌≤ℤ◌, int_le, Bool, true, false, not, ◌&&◌, ◌||◌, if◌then◌else◌, cond, List, [], ◌∷◌, filter, Option, Some, None, All, refl, sym, ap, ◌∙◌, subst, arith}
use Rattle.std.proofs.lemmas.Int.{ints}
use Rattle.std.proofs.lemmas.List.Elements.{All-nil, All-cons, All-head, All-tail}
use Rattle.kz_types.specs.declared.codes.TheConstants.{NO_MIGRATION, POST_MIGRATION}
use Rattle.kz_types.specs.declared.image_fault.ImageRule.{ImageRule}
use Rattle.kz_types.specs.declared.log.Entry.{Entry}
use Rattle.kz_types.specs.declared.record.MetaRecord.{MetaRecord}
use Rattle.kz_types.specs.declared.record.MetaRecord.TheVariants as meta
use Rattle.kz_spec_data.specs.Settlement.{is_marker, is_inside, first_close, is_ended_by, is_end, is_counted, counting_records}
use Rattle.kz_spec_data.specs.Image.{Image, empty_image, effect, broken_rule, unless_broken, image_with}
use Rattle.kz_spec_data.specs.Log.{Log, end_of, entries, all_entries_applied, image_at}
use Rattle.kz_spec_machine.specs.Sound.{LogShape, IsBeforeMigration, Unmigrated}
use Rattle.kz_laws_machine.proofs.Numbers.{at_most_then}
use Rattle.kz_laws_machine.specs.Limits.{IsBare}
use Rattle.kz_laws_machine.proofs.Members.{Within, passes_all}
use Rattle.kz_laws_machine.proofs.Counted.{IsEarly}

-- ---- records before the migration

empty_bare : IsBare empty_image
empty_bare = record { topics = refl; configs = refl; quotas = refl; users = refl; acls = refl; next = refl }

state_bare : (b : Bool) (s : ℤ) (i : Image) → IsBare i → IsBare (if b then record i { state = s } else i)
state_bare true s i bare = record { topics = bare.topics; configs = bare.configs; quotas = bare.quotas; users = bare.users; acls = bare.acls; next = bare.next }
state_bare false s i bare = bare

effect_bare : (epoch : ℤ) (r : MetaRecord) (i : Image) → IsBeforeMigration r → IsBare i → IsBare (effect epoch r i)
effect_bare epoch meta.NoOp i early bare = bare
effect_bare epoch (meta.RegisterBroker r) i early bare = record { topics = bare.topics; configs = bare.configs; quotas = bare.quotas; users = bare.users; acls = bare.acls; next = bare.next }
effect_bare epoch (meta.ZkMigrationState s) i early bare = state_bare (int_le NO_MIGRATION s && int_le s POST_MIGRATION) s i bare
effect_bare epoch r i early bare = absurd early

unless_bare : (b : Option ImageRule) (made i : Image) → IsBare made → IsBare i → IsBare (unless_broken b made i)
unless_bare None made i one bare = one
unless_bare (Some rule) made i one bare = bare

all_bare : (es : List Entry) (i : Image) → All IsEarly es → IsBare i → IsBare (all_entries_applied es i)
all_bare [] i early bare = bare
all_bare (e ∷ es) i early bare =
    all_bare es (image_with e.epoch e.item i) (All-tail IsEarly e es early) (unless_bare (broken_rule i e.item) (effect e.epoch e.item i) i (effect_bare e.epoch e.item i (All-head IsEarly e es early) bare) bare)

-- ---- what counted at an earlier offset

where_by : (P : Entry → Type 0) (p : Entry → Bool) (e : Entry) (es : List Entry) (b : Bool) → p e ≡ b → (p e ≡ true → P e) → All P (filter p es) → All P (cond b (e ∷ filter p es) (filter p es))
where_by P p e es true test own rest = All-cons P e (filter p es) (own test) rest
where_by P p e es false test own rest = rest

all_where : (P : Entry → Type 0) (p : Entry → Bool) (es : List Entry) → ((x : Entry) → Within x es → p x ≡ true → P x) → All P (filter p es)
all_where P p [] each = All-nil P
all_where P p (e ∷ es) each = where_by P p e es (p e) refl (each e (inl refl)) (all_where P p es (λ x among is. each x (inr among) is))

at_most : (a b : ℤ) → int_le a b ≡ true → a ≤ℤ b
at_most a b is = grind (arith, ints)

at_most_is : (a b : ℤ) → a ≤ℤ b → int_le a b ≡ true
at_most_is a b low = grind (arith, ints)

ended_later : (at later : ℤ) (m : Option Entry) → at ≤ℤ later → is_ended_by at m ≡ true → is_ended_by later m ≡ true
ended_later at later None more is = is
ended_later at later (Some e) more is = both (is_end e.item) (int_le e.offset at) (int_le e.offset later) (λ low. at_most_is e.offset later (at_most_then e.offset at later (at_most e.offset at low) more)) is
  where
    both : (a b c : Bool) → (b ≡ true → c ≡ true) → (a && b) ≡ true → (a && c) ≡ true
    both true b c on is = on is
    both false b c on is = absurd (cc)

counts_on : (early marker inside ended now done : Bool) → (early ≡ true → now ≡ true) → (ended ≡ true → done ≡ true) → (early && not marker && (not inside || ended)) ≡ true → (now && not marker && (not inside || done)) ≡ true
counts_on false marker inside ended now done one other is = absurd (cc)
counts_on true true inside ended now done one other is = absurd (cc)
counts_on true false false ended now done one other is = ap (λ (b : Bool). b && true && true) (one refl)
counts_on true false true false now done one other is = absurd (cc)
counts_on true false true true now done one other is = ap (λ (b : Bool). b && true && done) (one refl) ∙ other refl

counted_later : (at later : ℤ) (es : List Entry) (e : Entry) → at ≤ℤ later → is_counted es at e ≡ true → is_counted es later e ≡ true
counted_later at later es e more is =
    counts_on (int_le e.offset at) (is_marker e.item) (is_inside es e.offset) (is_ended_by at (first_close es e.offset)) (int_le e.offset later) (is_ended_by later (first_close es e.offset))
    (λ early. at_most_is e.offset later (at_most_then e.offset at later (at_most e.offset at early) more)) (ended_later at later (first_close es e.offset) more) is

-- ---- a log

pub image_is_bare : (l : Log) (at : ℤ) → LogShape l → Unmigrated l → at ≤ℤ end_of l → IsBare (image_at l at)
unfolding image_at
image_is_bare l at shape before low =
    let es = entries l.batches in
    let early : All IsEarly (counting_records es at) =
    all_where IsEarly (is_counted es at) es (λ x among is. passes_all IsEarly (is_counted es (end_of l)) es x before.records among (counted_later at (end_of l) es x low is)) in
    all_bare (counting_records es at) l.base_image early (subst IsBare (sym (shape.log.base_image before.base)) empty_bare)
