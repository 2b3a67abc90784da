use Rattle.std.proofs.Common.{◌≡◌, ◌++◌, ◌∷◌, false, map, sym, ◌∙◌, subst, to_z, of_z, w32, rules}
use Rattle.std.specs.Ordering.{int_eq}
use Rattle.std.specs.Str.{bytes_eq}
use Rattle.std.proofs.lemmas.Int.{to_z-of_z}
use Rattle.std.proofs.lemmas.List.{nil_from_length}
use Rattle.kz_spec_data.specs.Records.{bytes_of_record}
use Rattle.kz_spec_data.specs.SnapshotRecords.{in_epoch}
use Rattle.kz_spec_data.specs.LogFile.{same_records}
use Rattle.kz_log_frames.proofs.SameRecords.{item_none, item_epoch, item_bytes}
use Rattle.kz_log_frames.proofs.same.after_batch.Goals as goal

pub returns-in_default : goal.returns-in_default
returns-in_default c = λ more.
    let fits = to_z-of_z w32 c.args.epoch c.ranges.epoch in
    subst (λ x. same_records (map (in_epoch x) c.args.items.now ++ more) c.args.others.now ≡ false) fits
    (sym (c.loop-item.invariant more) ∙ item_none (to_z w32 (of_z w32 c.args.epoch)) c.args.items.now c.loop-item.item-index c.item-item.result more c.loop-item.rest.now c.loop-item-test.true c.item-item.is (nil_from_length c.loop-item.rest.now c.in_default.ensures.cases))

pub returns-then-epoch-first : goal.returns-then-epoch-first
returns-then-epoch-first c = λ more.
    let fits = to_z-of_z w32 c.args.epoch c.ranges.epoch in
    let whole : c.loop-item.rest.now ≡ c.in-Some.first.now ∷ c.in-Some.later.now = search rules in
    let other : int_eq c.args.epoch c.in-Some.first.now.epoch ≡ false = search rules in
    subst (λ x. same_records (map (in_epoch x) c.args.items.now ++ more) c.args.others.now ≡ false) fits
    (sym (c.loop-item.invariant more) ∙ item_epoch (to_z w32 (of_z w32 c.args.epoch)) c.args.items.now c.loop-item.item-index c.item-item.result more c.loop-item.rest.now c.in-Some.later.now c.in-Some.first.now c.loop-item-test.true c.item-item.is whole
    (subst (λ x. int_eq x c.in-Some.first.now.epoch ≡ false) (sym fits) other))

pub returns-then-not-branch : goal.returns-then-not-branch
returns-then-not-branch c = λ more.
    let fits = to_z-of_z w32 c.args.epoch c.ranges.epoch in
    let whole : c.loop-item.rest.now ≡ c.in-Some.first.now ∷ c.in-Some.later.now = search rules in
    let other : bytes_eq (bytes_of_record c.item-item.result) (bytes_of_record c.in-Some.first.now.item) ≡ false = search rules in
    subst (λ x. same_records (map (in_epoch x) c.args.items.now ++ more) c.args.others.now ≡ false) fits
    (sym (c.loop-item.invariant more) ∙ item_bytes (to_z w32 (of_z w32 c.args.epoch)) c.args.items.now c.loop-item.item-index c.item-item.result more c.loop-item.rest.now c.in-Some.later.now c.in-Some.first.now c.loop-item-test.true c.item-item.is whole other)
