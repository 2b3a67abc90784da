-- Lemmas on the members of configurations with quotas and credentials.
use Rattle.std.proofs.Common.{◌≡◌, ℕ, ◌+◌, ◌<◌, ◌≤◌, Bool, true, false, List, append_assoc, append-nil, length, get_or, drop, Ok, Err, refl, sym, ap, ◌∙◌}
use Rattle.std.specs.Prelude.{Result}
use Rattle.std.proofs.lemmas.List.{drop_more, drop_all}
use Rattle.std.proofs.lemmas.List.Folds.{list_all_at}
use Rattle.kz_types.specs.Quotas.{is_quota}
use Rattle.kz_types.specs.declared.bodies.Pair.{Pair}
use Rattle.kz_types.specs.declared.bodies.QuotaRow.{QuotaRow}
use Rattle.kz_types.specs.declared.fault.BodyFault.{BodyFault}
use Rattle.kz_types.specs.declared.key.EntityKey.{EntityKey}
use Rattle.kz_spec_data.specs.Credentials.{Entries, entry_of, entries_of, entries_of_both, both}
use Rattle.kz_json.specs.Entries.{are_quotas}

both_onto : (a b : Entries) (r : Result Entries BodyFault) → both (Ok a) (both (Ok b) r) ≡ both (Ok (entries_of_both a b)) r
both_onto a b (Ok c) = λ i. Ok (record { quotas = sym (append_assoc a.quotas b.quotas c.quotas) i; scrams = sym (append_assoc a.scrams b.scrams c.scrams) i })
both_onto a b (Err fault) = refl

-- the members from a place on
entries_from : (key : EntityKey) (pairs : List Pair) (pair : Pair) (at : ℕ) → at < length pairs → pair ≡ get_or pairs at pair
    → entries_of key (drop at pairs) ≡ both (entry_of key pair) (entries_of key (drop (at + 1) pairs))
unfolding entries_of
entries_from key pairs pair at lt is =
    ap (entries_of key) (drop_more pairs at pair lt) ∙ ap (λ p. both (entry_of key p) (entries_of key (drop (at + 1) pairs))) (sym is)

-- one more member
pub one_more : (key : EntityKey) (pairs : List Pair) (pair : Pair) (at : ℕ) (so_far more : Entries) → at < length pairs → pair ≡ get_or pairs at pair → entry_of key pair ≡ Ok more
    → both (Ok (entries_of_both so_far more)) (entries_of key (drop (at + 1) pairs)) ≡ both (Ok so_far) (entries_of key (drop at pairs))
one_more key pairs pair at so_far more lt is says =
    sym (both_onto so_far more (entries_of key (drop (at + 1) pairs)))
    ∙ sym (ap (both (Ok so_far)) (entries_from key pairs pair at lt is ∙ ap (λ r. both r (entries_of key (drop (at + 1) pairs))) says))

-- a member at fault
pub at_fault : (key : EntityKey) (pairs : List Pair) (pair : Pair) (at : ℕ) (so_far : Entries) (fault : BodyFault) → at < length pairs → pair ≡ get_or pairs at pair → entry_of key pair ≡ Err fault
    → both (Ok so_far) (entries_of key (drop at pairs)) ≡ Err fault
at_fault key pairs pair at so_far fault lt is says =
    ap (both (Ok so_far)) (entries_from key pairs pair at lt is ∙ ap (λ r. both r (entries_of key (drop (at + 1) pairs))) says)

-- no member is left
pub no_more : (key : EntityKey) (pairs : List Pair) (at : ℕ) (so_far : Entries) → length pairs ≤ at
    → both (Ok so_far) (entries_of key (drop at pairs)) ≡ Ok so_far
unfolding entries_of
no_more key pairs at so_far le =
    ap (λ ps. both (Ok so_far) (entries_of key ps)) (drop_all at pairs le)
    ∙ (λ i. Ok (record { quotas = append-nil so_far.quotas i; scrams = append-nil so_far.scrams i }))

-- one of quotas that are in their ranges
pub quota_at : (rows : List QuotaRow) (row : QuotaRow) (at : ℕ) → are_quotas rows ≡ true → at < length rows → row ≡ get_or rows at row → is_quota row.value ≡ true
quota_at rows row at all lt is = by (is_quota row.value) refl
  where
    by : (t : Bool) → is_quota row.value ≡ t → is_quota row.value ≡ true
    by true t = t
    by false t = cc (all, list_all_at (λ (r : QuotaRow). is_quota r.value) rows at row lt (ap (λ (r : QuotaRow). is_quota r.value) (sym is) ∙ t))
