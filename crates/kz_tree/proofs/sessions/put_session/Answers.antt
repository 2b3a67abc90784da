use Rattle.std.proofs.Common.{rules, ℤ, sym, Ok, Err, to_z-of_z}
use Rattle.std.specs.Ordering.{int_cmp}
use Rattle.kz_types.specs.Spot.{IsSpot}
use Rattle.kz_types.proofs.Order.{int_order}
use Rattle.kz_types.proofs.Lookup.{Rises-put}
use Rattle.kz_types.proofs.Spot.{put_by_spot, put_by_gap, spot_from_binary_search}
use Rattle.kz_tree.proofs.sessions.put_session.Goals as goal

pub returns-in-Ok-clause-ok : goal.returns-in-Ok-clause-ok
returns-in-Ok-clause-ok c =
    let s : IsSpot int_cmp (λ i. i) c.args.session c.args.sessions.now.items (Ok c.in-Ok.at) =
    spot_from_binary_search int_order (λ i. i) c.args.session c.args.sessions.now.items (Ok c.in-Ok.at) c.requires (rw c.as_slice.ensures.value at c.in-Ok.ensures.bound) (rw (c.as_slice.ensures.value, to_z-of_z c.ranges.session) at c.in-Ok.ensures.position) in
    rw (to_z-of_z c.ranges.session) (sym (put_by_spot int_order (λ i. i) c.args.session c.args.sessions.now.items c.in-Ok.at c.requires s))

pub returns-in-Ok-clause-rise : goal.returns-in-Ok-clause-rise
returns-in-Ok-clause-rise c = rw (returns-in-Ok-clause-ok c) (Rises-put int_order (λ (i : ℤ). i) c.args.session c.args.sessions.now.items c.requires)

pub returns-in_ok-insert-in-Err-clause-ok : goal.returns-in_ok-insert-in-Err-clause-ok
returns-in_ok-insert-in-Err-clause-ok c =
    let s : IsSpot int_cmp (λ i. i) c.args.session c.args.sessions.now.items (Err c.in-Err.at) =
    spot_from_binary_search int_order (λ i. i) c.args.session c.args.sessions.now.items (Err c.in-Err.at) c.requires (rw c.as_slice.ensures.value at c.in-Err.ensures.bound) (rw (c.as_slice.ensures.value, to_z-of_z c.ranges.session) at c.in-Err.ensures.position) in
    rw (put_by_gap int_order (λ i. i) c.args.session c.args.sessions.now.items c.in-Err.at s) (search (rules, to_z-of_z c.ranges.session))

pub returns-in_ok-insert-in-Err-clause-rise : goal.returns-in_ok-insert-in-Err-clause-rise
returns-in_ok-insert-in-Err-clause-rise c = rw (returns-in_ok-insert-in-Err-clause-ok c) (Rises-put int_order (λ (i : ℤ). i) c.args.session c.args.sessions.now.items c.requires)
