use Rattle.std.proofs.Common.{◌∙◌, ◌-◌, ap, drop, filter, length, w64, rules, arith}
use Rattle.std.proofs.lemmas.Int.{to_z-of_z}
use Rattle.std.proofs.lemmas.List.{take_all, length-drop}
use mir.Val.{SFits}
use Rattle.kz_spec_data.specs.Log.{Log, begins_after, feed_from}
use Rattle.kz_log.proofs.rows.LogRows.read_from.Goals as goal

pub returns : goal.returns
returns c =
    let made : SFits w64 c.end.result = search rules in
    let place = c.place_after.result in
    let rest = c.deref.result.now in
    let after_is = to_z-of_z w64 c.args.after c.ranges.after in record {
      base = c.in_ok-base.ensures ∙ ap (λ o. (feed_from c.args.self.now o).base) after_is;
      batches =
          c.from_vec.ensures ∙ c.in_ok-batches.ensures ∙ take_all (length rest - place) (drop place rest) (omega (arith, length-drop place rest)) ∙ ap (drop place) (c.deref.ensures.value ∙ ap (λ (l : Log). l.batches) c.self.view_is)
          ∙ c.place_after.ensures.place ∙ ap (λ o. filter (begins_after o) c.args.self.now.batches) after_is;
      end = to_z-of_z w64 c.end.result made ∙ c.end.ensures;
    }
