-- A write by another controller.
use Rattle.std.proofs.Common.{◌≡◌, ◌≢◌, ℤ, ◌≤ℤ◌, Option, Some, None, refl, sym, ap, ◌∙◌, subst}
use Rattle.kz_types.specs.declared.driver.ClaimSeen.{ClaimSeen}
use Rattle.kz_types.specs.declared.machine.Recorded.{Recorded}
use Rattle.kz_spec_data.specs.Tree.{Tree}
use Rattle.kz_spec_data.specs.Log.{Log}
use Rattle.kz_spec_machine.specs.Driver.{Shared, Driver}
use Rattle.kz_spec_machine.specs.Sound.{claim_version, IsCurrent, shown_in, IsBelowShown, Claims, OwnRecord, Looks, IsSoundDriver}
use Rattle.kz_laws_machine.specs.Effects.{IsWritten}
use Rattle.kz_laws_machine.proofs.Numbers.{at_most_then, both_at_most}
use Rattle.kz_laws_machine.proofs.Known.{views_shown}
use Rattle.kz_laws_machine.proofs.Claimed.{at_past}

-- ---- at most one claim is current

pub shows_own : (log_epoch : ℤ) (version shown epoch claim : Option ℤ) → Claims log_epoch version shown epoch claim → claim ≡ version → claim ≢ None → shown ≡ epoch
shows_own log_epoch version shown epoch None old is some = absurd (some refl)
shows_own log_epoch version shown epoch (Some v) old is some = old.shows (sym is)

pub was_elected : (log_epoch : ℤ) (version shown epoch claim : Option ℤ) → Claims log_epoch version shown epoch claim → claim ≢ None → epoch ≢ None
was_elected log_epoch version shown epoch None old some = absurd (some refl)
was_elected log_epoch version shown epoch (Some v) old some = old.elected

pub one_current : (s : Shared) (c d : Driver) → IsSoundDriver s c → IsSoundDriver s d → (c.epoch ≢ None → c.epoch ≢ d.epoch) → IsCurrent s.tree c.claim → IsCurrent s.tree d.claim → ⊥
one_current s c d fine other apart first second =
    apart (was_elected s.log.epoch (claim_version s.tree) (shown_in s.tree) c.epoch c.claim fine.claims first.1)
    (sym (shows_own s.log.epoch (claim_version s.tree) (shown_in s.tree) c.epoch c.claim fine.claims first.0 first.1)
    ∙ shows_own s.log.epoch (claim_version s.tree) (shown_in s.tree) d.epoch d.claim other.claims second.0 second.1)

-- ---- the tree has what it had of claims

pub claims_same : (log_epoch : ℤ) (version shown v x epoch claim : Option ℤ) → v ≡ version → x ≡ shown → Claims log_epoch version shown epoch claim → Claims log_epoch v x epoch claim
claims_same log_epoch version shown v x epoch claim same-version same-shown old =
    subst (λ (y : Option ℤ). Claims log_epoch y x epoch claim) (sym same-version) (subst (λ (y : Option ℤ). Claims log_epoch version y epoch claim) (sym same-shown) old)

pub below_same : (shown x epoch : Option ℤ) → x ≡ shown → IsBelowShown shown epoch → IsBelowShown x epoch
below_same shown x epoch same old = (old.0, same ∙ old.1, old.2)

pub looks_same : (t new : Tree) (epoch : Option ℤ) (seen : ClaimSeen) → claim_version new ≡ claim_version t → shown_in new ≡ shown_in t → Looks t epoch seen → Looks new epoch seen
looks_same t new epoch seen version shown old = record {
  version = old.version;
  low = λ r is. let was = old.low r is in (was.0, version ∙ was.1, was.2);
  first = λ sees e is. old.first (sees ∙ version) e (sym shown ∙ is);
  bases = old.bases;
}

-- ---- what a driver recorded

pub own_written : (t new : Tree) (l : Log) (own : Option ℤ) → IsWritten t new l → OwnRecord t l own → OwnRecord new l own
own_written t new l own made old = record {
  low = λ o is.
      let was = old.low o is in
      let now = made.recorded was.1 was.2 in (was.0, now.0, now.1, at_most_then o was.1.offset now.0.offset was.3 now.2);
  rest = λ o q is found same end.
      let was = old.low o is in
      let now = made.recorded was.1 was.2 in
      let one : now.0 ≡ q = same_record now.0 q (sym now.1 ∙ found) in
      let high : was.1.offset ≤ℤ o = subst (λ (y : ℤ). was.1.offset ≤ℤ y) (ap (λ (r : Recorded). r.offset) one ∙ same) now.2 in
      let there : was.1.offset ≡ o = both_at_most was.1.offset o high was.3 in
      made.closed q found (same ∙ sym end) (old.rest o was.1 is was.2 there end);
}
  where
    same_record : (r q : Recorded) → Some r ≡ Some q → r ≡ q
    same_record r q is = cc

pub others_written : (s : Shared) (new : Tree) (d : Driver) → IsWritten s.tree new s.log → (IsCurrent s.tree d.claim → ⊥) → IsSoundDriver s d → IsSoundDriver (record s { tree = new }) d
others_written s new d made past fine = record {
  id = fine.id;
  epochs = fine.epochs;
  elected = fine.elected;
  claims = claims_same s.log.epoch (claim_version s.tree) (shown_in s.tree) (claim_version new) (shown_in new) d.epoch d.claim made.version made.shown fine.claims;
  views = views_shown s.log (shown_in s.tree) (shown_in new) d.epoch d.stage d.view (below_same (shown_in s.tree) (shown_in new) d.epoch made.shown) fine.views;
  own_record = own_written s.tree new s.log d.recorded made fine.own_record;
  leads = fine.leads;
  stage = at_past s.tree new s.log d d.stage (λ c. past (c.0 ∙ made.version, c.1)) (λ seen old. looks_same s.tree new d.epoch seen made.version made.shown old) fine.stage;
}
