-- The keys that are touched cover the difference of two renderings.
use Rattle.std.proofs.Common.{◌≡◌, ℤ, pos, List, [], ◌∷◌, None, Contains, refl, sym, ap, subst, inr}
use Rattle.std.proofs.lemmas.List.{append-nil}
use Rattle.kz_types.specs.declared.key.EntityKey.{EntityKey}
use Rattle.kz_types.specs.declared.record.MetaRecord.{MetaRecord}
use Rattle.kz_spec_data.specs.Metadata.{Image}
use Rattle.kz_spec_data.specs.Image.{image_with, all_applied}
use Rattle.kz_spec_data.specs.Log.{View, Feed as LogFeed, feed_from, read_view}
use Rattle.kz_spec_data.specs.Rendering.{render}
use Rattle.kz_spec_data.specs.Spans.{CoverDifference}
use Rattle.kz_spec_data.specs.Touched.{Lead, Leads, AreTouched, touched_keys, records_of_feed}
use Rattle.kz_laws_znodes.specs.Writable.{IsHeld}
use Rattle.kz_laws_znodes.proofs.Suffice.{touched_cover}
use Rattle.kz_laws_machine.proofs.Leads.{feed_leads}
use Rattle.kz_image.specs.declared.feed.Feed.{Feed}
use Rattle.kz_log.specs.Requests.{IsFeed}
use Rattle.kz_delta.specs.Feeds.{feed_of}
use Rattle.kz_delta.specs.Placed.{AreLegalOnes}
use Rattle.kz_view_delta.specs.Reads.{WasRead}

pub of_feed : (old new : Image) → IsHeld old → IsHeld new → (f : LogFeed) → Leads old f new → (ks : List EntityKey) → AreTouched old f new ks → CoverDifference ks (render old) (render new)
of_feed old new had has f leads ks touched = touched_cover old new had.order had.writable has.order has.writable f leads ks touched

-- records as a feed without a base
feed_with : List MetaRecord → LogFeed
feed_with rs = record { base = None; batches = record { first = pos 0; epoch = pos 0; time = pos 0; items = rs } ∷ []; end = pos 0 }

records_with : (rs : List MetaRecord) → records_of_feed (feed_with rs) ≡ rs
unfolding feed_with
records_with rs = append-nil rs

pub of_records : (old new : Image) → IsHeld old → IsHeld new → (rs : List MetaRecord) → Lead old rs new → (ks : List EntityKey) → AreLegalOnes (touched_keys old new rs) ks → CoverDifference ks (render old) (render new)
unfolding feed_with
of_records old new had has rs leads ks ones =
    let spoken = ap (touched_keys old new) (sym (records_with rs)) in
    of_feed old new had has (feed_with rs) (λ none. subst (λ r. Lead old r new) (sym (records_with rs)) leads) ks
    (record {
      rise = ones.rise;
      legal = ones.legal;
      all = λ k legal has_it. ones.all k legal (subst (λ s. Contains s k) (sym spoken) has_it);
      only = λ k has_it. subst (λ s. Contains s k) spoken (ones.only k has_it);
    })

-- records that are applied, one after another, are each taken in
pub applied_lead : (epoch : ℤ) (rs : List MetaRecord) (i : Image) → Lead i rs (all_applied epoch rs i)
applied_lead epoch [] i = refl
applied_lead epoch (r ∷ rs) i = (image_with epoch r i, inr (epoch, refl), applied_lead epoch rs (image_with epoch r i))

feeds_are : (read : LogFeed) (f : Feed) → IsFeed read f → feed_of f ≡ read
feeds_are read f is = (λ i. record { base = is.base i; batches = is.batches i; end = is.end i })

-- what was read after a view that knows of no open transaction leads from the one metadata to the other
pub reads_lead : (before after : View) (f : Feed) → WasRead before f after → before.begun ≡ None → Leads before.image (feed_of f) after.image
reads_lead before after f was none =
    let r = was.read in
    let leads : Leads before.image (feed_from r.log before.position) (read_view r.log before).image = feed_leads r.log before r.is_log r.view none in
    subst (λ g. Leads before.image g after.image) (sym (feeds_are (feed_from r.log before.position) f r.feed))
    (subst (λ v. Leads before.image (feed_from r.log before.position) v.image) (sym was.end) leads)
