use Rattle.std.proofs.Common.{rules, ℤ, sym, Ok, Err, to_z-of_z}
use Rattle.std.specs.Ordering.{int_cmp}
use Rattle.kz_types.specs.Spot.{IsSpot}
use Rattle.kz_types.proofs.Order.{int_order}
use Rattle.kz_types.proofs.Lookup.{Rises-without}
use Rattle.kz_types.proofs.Spot.{without_by_spot, without_by_gap, spot_from_binary_search}
use Rattle.kz_tree.proofs.sessions.take_session.Goals as goal

pub returns-in-Ok-clause-value : goal.returns-in-Ok-clause-value
returns-in-Ok-clause-value c =
    let s : IsSpot int_cmp (λ i. i) c.args.session c.args.sessions.now.items (Ok c.in-Ok.at) =
    spot_from_binary_search int_order (λ i. i) c.args.session c.args.sessions.now.items (Ok c.in-Ok.at) c.requires (rw c.as_slice.ensures.value at c.in-Ok.ensures.bound) (rw (c.as_slice.ensures.value, to_z-of_z c.ranges.session) at c.in-Ok.ensures.position) in
    rw (without_by_spot int_order (λ i. i) c.args.session c.args.sessions.now.items c.in-Ok.at c.requires s) (search rules)

pub returns-in-Ok-clause-rise : goal.returns-in-Ok-clause-rise
returns-in-Ok-clause-rise c = rw (returns-in-Ok-clause-value c) (Rises-without int_order (λ (i : ℤ). i) c.args.session c.args.sessions.now.items c.requires)

pub returns-in_default-clause-value : goal.returns-in_default-clause-value
returns-in_default-clause-value c =
    let s : IsSpot int_cmp (λ i. i) c.args.session c.args.sessions.now.items (Err c.in_default.field-0) =
    spot_from_binary_search int_order (λ i. i) c.args.session c.args.sessions.now.items (Err c.in_default.field-0) c.requires (rw c.as_slice.ensures.value at c.in_default.ensures.bound) (rw (c.as_slice.ensures.value, to_z-of_z c.ranges.session) at c.in_default.ensures.position) in
    sym (without_by_gap int_order (λ i. i) c.args.session c.args.sessions.now.items c.in_default.field-0 s)
