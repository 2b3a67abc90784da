use Rattle.std.proofs.Common.{◌≡◌, ℕ, ◌+◌, ◌*◌, ◌≤◌, true, false, sym, ap, ◌∙◌, arith}
use Rattle.kz_spec_data.specs.Transactions.{at_byte, digits_at, goes_on}
use Rattle.kz_txn.proofs.Numbers.{room_for_byte, digits_none, digits_step, digits_fault}
use Rattle.kz_txn.proofs.fields.digit.Goals as goal

pub returns-in_default-clause-read : goal.returns-in_default-clause-read
returns-in_default-clause-read c = (at_byte c.args.reader.now.at, digits_none c.args.more c.args.so_far c.args.least c.args.most c.args.reader.now.at c.args.reader.now.left c.in_default.ensures, c.at-at.ensures)

pub overflow_mul-number : goal.overflow_mul-number
overflow_mul-number c = let room : c.args.so_far * 256 ≤ c.args.most = room_for_byte c.args.more c.args.so_far c.args.most c.requires.room in omega (arith, room)

pub overflow_add-number : goal.overflow_add-number
overflow_add-number c = let room : c.args.so_far * 256 ≤ c.args.most = room_for_byte c.args.more c.args.so_far c.args.most c.requires.room in omega (arith, room)

pub returns-then-goes_on-clause-read : goal.returns-then-goes_on-clause-read
returns-then-goes_on-clause-read c =
    let r = c.args.reader.now in
    let s = c.next_byte.new.reader in
    let number = c.args.so_far * 256 + c.in-Some.byte in
    let on : goes_on c.args.more number c.args.least c.args.most ≡ true = sym c.goes_on.ensures ∙ c.if-goes_on.true in
    digits_step c.args.more c.args.so_far c.args.least c.args.most r.at c.in-Some.byte s.left r.left c.in-Some.ensures.0 on
    ∙ ap (λ (k : ℕ). digits_at c.args.more number c.args.least c.args.most k s.left) (sym c.in-Some.ensures.1)

pub returns-else-goes_on-clause-read : goal.returns-else-goes_on-clause-read
returns-else-goes_on-clause-read c =
    let r = c.args.reader.now in
    let s = c.next_byte.new.reader in
    let number = c.args.so_far * 256 + c.in-Some.byte in
    let off : goes_on c.args.more number c.args.least c.args.most ≡ false = sym c.goes_on.ensures ∙ c.if-goes_on.false in
    (at_byte r.at, digits_fault c.args.more c.args.so_far c.args.least c.args.most r.at c.in-Some.byte s.left r.left c.in-Some.ensures.0 off, c.at-at.ensures)
