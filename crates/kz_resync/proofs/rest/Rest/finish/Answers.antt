use Rattle.std.proofs.Common.{rules, ◌≡◌, ◌+◌, ◌-◌, min, length, drop, ap, ◌∙◌}
use Rattle.kz_resync.proofs.Rests.{dropped_twice}
use Rattle.kz_resync.proofs.rest.Rest.finish.Goals as goal

pub returns : goal.returns
returns g c =
    let items = c.self.inside.items.items in
    let done = c.self.inside.done in
    let len : c.len.result ≡ length c.self.inside.items.items = search rules in
    ap (λ n. drop (done + n) items) (c.min.ensures ∙ ap (λ n. min (n - done) c.args.count) len)
    ∙ (dropped_twice done c.args.count items ∙ ap (drop c.args.count) c.self.view_is)
