use Rattle.std.proofs.Common.{◌≡◌, ℕ, ℤ, ◌++◌, length, map, ap, sym, ◌∙◌, to_z-of_z}
use Rattle.std.proofs.lemmas.List.{length-map}
use Rattle.kz_spec_data.specs.Batches.{header_written, records_written}
use Rattle.kz_batch.proofs.Written.{seq}
use Rattle.kz_batch.proofs.write.put_summed.Goals as goal

pub returns : goal.returns
returns c =
    let values = map (λ v. v.items) c.args.values.now in
    let old = c.args.out.now.items in
    let size : length c.args.values.now ≡ length values = sym (length-map c.args.values.now (λ v. v.items)) in
    let header : c.put_header.new.out.items ≡ old ++ header_written c.args.time (length values) =
    c.in_ok-put_header.ensures ∙ ap (λ (y : ℤ). old ++ header_written y (length c.args.values.now)) (to_z-of_z c.ranges.time) ∙ ap (λ (n : ℕ). old ++ header_written c.args.time n) size in
    seq old (header_written c.args.time (length values)) c.put_header.new.out.items (records_written 0 values) c.put_records.new.out.items header c.in_ok-put_records.ensures
