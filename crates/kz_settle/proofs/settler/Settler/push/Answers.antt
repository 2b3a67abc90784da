use Rattle.std.proofs.Common.{◌≡◌, ◌∷◌, ◌++◌, [], List, is_some, w64, to_z, of_z, rules}
use Rattle.std.proofs.lemmas.Int.{to_z-of_z}
use Rattle.std.specs.Ordering.{int_cmp}
use mir.Val.{SFits}
use Rattle.kz_types.specs.declared.log.Entry.{Entry}
use Rattle.kz_types.specs.Ordered.{Rises}
use Rattle.kz_settle.specs.Settling.{offset_of}
use Rattle.kz_settle.specs.Stands.{IsStateAfter, entries_of_answer}
use Rattle.kz_settle.specs.Steps.{answer_to_plain, after_plain}
use Rattle.kz_settle.proofs.Stepping.{stands_keep, stands_turn, if_ok_both}
use Rattle.kz_settle.proofs.settler.Settler.push.Goals as goal

pub returns-in-None-clause-stands : goal.returns-in-None-clause-stands
returns-in-None-clause-stands c =
    let e = c.args.e in
    let old = c.args.self.now in
    let new = c.keep.new.self in
    if_ok_both c.keep.result (λ a. a ≡ answer_to_plain (is_some old.begun) e) (λ _. new ≡ after_plain e old)
    (λ a. (pushed given : List Entry) → Rises int_cmp offset_of (pushed ++ e ∷ []) → IsStateAfter pushed given old → IsStateAfter (pushed ++ e ∷ []) (given ++ entries_of_answer a) new)
    c.keep.ensures.answer c.keep.ensures.value
    (λ a is made pushed given h s. stands_keep pushed given e old new a h s c.requires c.in-None.ensures.0 c.in-None.ensures.1 is made)

pub returns-in-Some-clause-stands : goal.returns-in-Some-clause-stands
returns-in-Some-clause-stands c = λ pushed given h s.
    let e = c.args.e in
    let fits : SFits w64 e.offset = search rules in
    stands_turn pushed given e c.args.self.now c.turn.new.self c.turn.result h s c.requires c.in-Some.marker (to_z w64 (of_z w64 e.offset)) (to_z-of_z w64 e.offset fits) c.in-Some.ensures c.turn.ensures.answer c.turn.ensures.value
