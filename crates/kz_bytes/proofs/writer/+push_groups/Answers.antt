use Rattle.std.proofs.Common.{◌≡◌, ◌+◌, ◌-◌, ◌/◌, ◌%◌, ◌∷◌, [], ◌++◌, ap, sym, ◌∙◌, append_assoc}
use Rattle.kz_spec_data.specs.Fields.{groups_of}
use Rattle.kz_bytes.proofs.Facts.{groups_step}
use Rattle.kz_bytes.proofs.writer.+push_groups.Goals as goal

pub returns-clause-ok : goal.returns-clause-ok
returns-clause-ok t c =
    let step = groups_step c.args.more c.args.number (c.if-more-eq0.false) (c.if-number-lt128.false) in
    let pushed = c.in_ok-push-2.ensures.items in
    let e : c.args.out.now.items ++ groups_of c.args.more c.args.number ≡ c.push-2.new.self.items ++ groups_of (c.args.more - 1) (c.args.number / 128) =
    ap (λ l. c.args.out.now.items ++ l) step ∙ sym (append_assoc c.args.out.now.items ((128 + c.args.number % 128) ∷ []) (groups_of (c.args.more - 1) (c.args.number / 128))) ∙ ap (λ l. l ++ groups_of (c.args.more - 1) (c.args.number / 128)) (sym pushed) in
    rw e c.push_groups.ensures.ok
