use Rattle.std.proofs.Common.{◌≡◌, ◌+◌, ◌*◌, ◌++◌, ◌^◌, ◌<◌, ℕ, List, length, ap, sym, ◌∙◌, arith}
use Rattle.std.specs.Prelude.{Some}
use Rattle.std.proofs.lemmas.List.{append-nil}
use Rattle.kz_spec_data.specs.Fields.{groups_of, int_bytes, items_with_count}
use Rattle.kz_codec_write.proofs.Appends.{seq, ints_length, ints_few}
use Rattle.kz_codec_write.proofs.write.put_one_list.Goals as goal

pub overflow_mul-count : goal.overflow_mul-count
overflow_mul-count c = let few = ints_few c.args.list.now c.requires in omega (arith, few.0, few.1, c.len-count.ensures)

pub put_field_size-requires : goal.put_field_size-requires
put_field_size-requires c =
    let few = ints_few c.args.list.now c.requires in
    let size = ints_length c.args.list.now in
    let fits : length ((items_with_count 4).written (Some (int_bytes c.args.list.now))) < 2 ^ 32 = c.requires in
    let all : length (groups_of 9 (length c.args.list.now + 1)) + 4 * length c.args.list.now < 2 ^ 32 = omega arith in
    record { few = rw c.len-count.ensures (omega (arith, few.0)); fits = rw c.len-count.ensures all }

pub put_list-requires : goal.put_list-requires
put_list-requires c = (ints_few c.args.list.now c.requires).0

pub returns : goal.returns
returns c =
    let xs = c.args.list.now in
    let old = c.args.out.now.items in
    let w = (items_with_count 4).written (Some (int_bytes xs)) in
    let size : c.put_field_size.new.out.items ≡ c.put_uvarint.new.out.items ++ groups_of 9 (length w) =
    c.in_ok-put_field_size.ensures ∙ ap (λ (n : ℕ). c.put_uvarint.new.out.items ++ groups_of 9 (length (groups_of 9 (n + 1)) + 4 * n)) c.len-count.ensures ∙ ap (λ (n : ℕ). c.put_uvarint.new.out.items ++ groups_of 9 n) (sym (ints_length xs)) in
    let k : c.put_list.new.out.items ≡ c.put_uvarint.new.out.items ++ (groups_of 9 (length w) ++ w) = seq c.put_uvarint.new.out.items (groups_of 9 (length w)) c.put_field_size.new.out.items w c.put_list.new.out.items size c.in_ok-put_list.ensures in
    let all : c.put_list.new.out.items ≡ old ++ (groups_of 9 c.args.number ++ (groups_of 9 (length w) ++ w)) = seq old (groups_of 9 c.args.number) c.put_uvarint.new.out.items (groups_of 9 (length w) ++ w) c.put_list.new.out.items c.in_ok-put_uvarint.ensures k in
    all ∙ ap (λ (l : List ℕ). old ++ (groups_of 9 c.args.number ++ (groups_of 9 (length w) ++ l))) (sym (append-nil w))
