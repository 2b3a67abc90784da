-- Views of a log: what is known before the first read, what a view can take, and what leaves a view a view.
use Rattle.std.proofs.Common.{◌≡◌, inl, inr, ℕ, Bool, true, false, cond, ℤ, pos, negsuc, ◌+ℤ◌, ◌≤ℤ◌, int_lt, List, [], ◌∷◌, ◌++◌, Option, Some, None, Ok, Err, refl, sym, ap, ◌∙◌, subst, append_assoc, append-nil, get_or, filter, arith}
use Rattle.std.proofs.lemmas.Int.{ints}
use Rattle.std.specs.Ordering.{int_eq}
use Rattle.kz_types.specs.declared.limits.TheConstants.{MAX_EPOCH}
use Rattle.kz_types.specs.declared.log.BatchRow.{BatchRow}
use Rattle.kz_types.specs.declared.record.MetaRecord.{MetaRecord}
use Rattle.kz_types.specs.declared.fault.LogFault.{LogFault}
use Rattle.kz_image.specs.declared.feed.Feed.{Feed}
use Rattle.kz_spec_data.specs.Image.{Image}
use Rattle.kz_spec_data.specs.Log.{Log, View, new_view, Follow, IsLog, IsAt, IsViewOf, read_view, feed_from, begins_after, last_end, end_of, entries, image_at, new_batch, with_batch, with_next_epoch, log_unless_limit, full_log}
use Rattle.kz_settle.proofs.Passing.{is_inside_after}
use Rattle.kz_settle.proofs.Stepping.{is_begun}
use Rattle.kz_log.specs.Requests.{IsFeed}
use Rattle.kz_log.specs.Rows.{log_of, base_of, image_of_base}
use Rattle.kz_log.specs.Views.{Fits, start_of}
use Rattle.kz_log.specs.ViewLaws.{NewIsView, FeedFits, AppendLeavesViews, ElectLeavesViews, OpenIsBegun}
use Rattle.kz_log.proofs.Cuts.{chain_of, Chain-append, Follow-right, entries_rise, entries_end, Cut, cut_of, of_cut, after_all, after_right}
use Rattle.kz_log.proofs.Offsets.{last_end-append, is_lt, of_lt, le_of_lt, of_not_lt}

-- ---- before the first read

new_by : (l : Log) → IsLog l → (t : Bool) → int_lt (negsuc 0) l.base ≡ t → IsViewOf l new_view
new_by l k true is = inl (of_lt (negsuc 0) l.base is)
new_by l k false is =
    let low = of_not_lt (negsuc 0) l.base is in
    let high = k.base in
    let at : l.base ≡ negsuc 0 = omega (arith, ints, low, high) in
    inr (of_cut l new_view (chain_of l.base l.batches k.follow) (record {
      bs = [];
      cs = l.batches;
      whole = refl;
      at = at;
      image = sym (k.base_image at);
      begun = refl;
      kept = refl;
    }))

pub new_is_view : NewIsView
new_is_view l k = new_by l k (int_lt (negsuc 0) l.base) refl

-- ---- one batch more

batch_leaves : (l : Log) (v : View) (epoch now : ℤ) (items : List MetaRecord) → IsLog l → IsViewOf l v → IsViewOf (with_batch l epoch now items) v
batch_leaves l v epoch now items k (inl below) = inl below
batch_leaves l v epoch now items k (inr at) =
    let b = new_batch l epoch now items in
    let chain = chain_of l.base l.batches k.follow in
    let c = cut_of l v chain at in
    inr (of_cut (with_batch l epoch now items) v (Chain-append l.base l.batches (b ∷ []) chain (refl, tt)) (record {
      bs = c.bs;
      cs = c.cs ++ b ∷ [];
      whole = ap (λ bs. bs ++ b ∷ []) c.whole ∙ append_assoc c.bs c.cs (b ∷ []);
      at = c.at;
      image = c.image;
      begun = c.begun;
      kept = c.kept;
    }))

added_ok : (refused : Option ℕ) (l new : Log) → log_unless_limit refused l ≡ Ok new → l ≡ new
added_ok (Some number) l new h = cc
added_ok None l new h = cc

pub append_by : (t : Bool) (refused : Option ℕ) (l new : Log) (e : LogFault) → cond t (log_unless_limit refused l) (Err e) ≡ Ok new → l ≡ new
append_by true refused l new e h = added_ok refused l new h
append_by false refused l new e h = cc

pub append_leaves_views : AppendLeavesViews
append_leaves_views l new v epoch now items k is h =
    subst (λ m. IsViewOf m v) (append_by (int_eq epoch l.epoch) (full_log l items) (with_batch l epoch now items) new _ h) (batch_leaves l v epoch now items k is)

pub elect_leaves_views : ElectLeavesViews
elect_leaves_views l new v now items k is h =
    subst (λ m. IsViewOf m v) (append_by (int_lt l.epoch MAX_EPOCH) (full_log l items) (with_batch (with_next_epoch l) (l.epoch +ℤ pos 1) now items) new _ h)
    (batch_leaves l v (l.epoch +ℤ pos 1) now items k is)

-- ---- whether a transaction is open

pub open_is_begun : OpenIsBegun
open_is_begun l k =
    let chain = chain_of l.base l.batches k.follow in
    let rises = entries_rise l.base l.batches chain in
    let by = entries_end l.base l.batches chain in
    is_inside_after (entries l.batches) (end_of l +ℤ pos 1) rises
    (λ i d lt. let le = by i d lt in is_lt (get_or (entries l.batches) i d).offset (end_of l +ℤ pos 1) (omega (arith, ints, le)))
    ∙ sym (is_begun (entries l.batches) rises)

-- ---- the view of the end

pub read_is_view : (l : Log) (v : View) → IsLog l → IsAt l (read_view l v)
unfolding image_at
read_is_view l v k =
    of_cut l (read_view l v) (chain_of l.base l.batches k.follow) (record {
      bs = l.batches;
      cs = [];
      whole = sym (append-nil l.batches);
      at = refl;
      image = refl;
      begun = refl;
      kept = refl;
    })

-- ---- feeds

-- what is read after a position of the log that the view has passed
pub at_of : (l : Log) (v : View) → IsViewOf l v → int_lt v.position l.base ≡ false → IsAt l v
at_of l v (inl below) h = let over = of_not_lt v.position l.base h in absurd (omega (arith, ints, below, over))
at_of l v (inr at) h = at

pub after_base : (l : Log) (after : ℤ) → IsLog l → after ≤ℤ l.base → filter (begins_after after) l.batches ≡ l.batches
after_base l after k le = after_all l.base after l.batches le (chain_of l.base l.batches k.follow)

pub after_cut : (l : Log) (v : View) (c : Cut l v) → IsLog l → filter (begins_after v.position) l.batches ≡ c.cs
after_cut l v c k =
    ap (filter (begins_after v.position)) c.whole ∙ ap (λ p. filter (begins_after p) (c.bs ++ c.cs)) (sym c.at)
    ∙ after_right l.base c.bs c.cs (subst (Follow l.base) c.whole k.follow)

fits_whole : (l : Log) (v : View) (f : Feed) → IsLog l → f.base ≡ Some (l.base, l.base_image) → f.batches ≡ l.batches → f.end ≡ end_of l → Fits v f
fits_whole l v f k base batches end =
    let start : start_of v f.base ≡ l.base = ap (start_of v) base in
    record {
      follow = subst (λ s. Follow s f.batches) (sym start) (subst (Follow l.base) (sym batches) k.follow);
      end = end ∙ ap (last_end l.base) (sym batches) ∙ ap (λ s. last_end s f.batches) (sym start);
    }

fits_rest : (l : Log) (v : View) (f : Feed) (c : Cut l v) → IsLog l → f.base ≡ None → f.batches ≡ c.cs → f.end ≡ end_of l → Fits v f
fits_rest l v f c k base batches end =
    let start : start_of v f.base ≡ v.position = ap (start_of v) base in
    let follow : Follow v.position c.cs = subst (λ p. Follow p c.cs) c.at (Follow-right l.base c.bs c.cs (subst (Follow l.base) c.whole k.follow)) in
    let last : end_of l ≡ last_end v.position c.cs = ap (last_end l.base) c.whole ∙ last_end-append l.base c.bs c.cs ∙ ap (λ p. last_end p c.cs) c.at in
    record {
      follow = subst (λ s. Follow s f.batches) (sym start) (subst (Follow v.position) (sym batches) follow);
      end = end ∙ last ∙ ap (last_end v.position) (sym batches) ∙ ap (λ s. last_end s f.batches) (sym start);
    }

-- what the base of a feed is
pub based : (t : Bool) (l : Log) (b : Option (ℤ × Image)) → b ≡ cond t (Some (l.base, l.base_image)) None → t ≡ true → b ≡ Some (l.base, l.base_image)
based true l b h is = h
based false l b h is = cc

pub baseless : (t : Bool) (l : Log) (b : Option (ℤ × Image)) → b ≡ cond t (Some (l.base, l.base_image)) None → t ≡ false → b ≡ None
baseless true l b h is = cc
baseless false l b h is = h

fits_by : (l : Log) (v : View) (f : Feed) → IsLog l → IsViewOf l v → IsFeed (feed_from l v.position) f → (t : Bool) → int_lt v.position l.base ≡ t → Fits v f
fits_by l v f k is read true below =
    fits_whole l v f k (based (int_lt v.position l.base) l f.base read.base below) (read.batches ∙ after_base l v.position k (le_of_lt v.position l.base below)) read.end
fits_by l v f k is read false passed =
    let c = cut_of l v (chain_of l.base l.batches k.follow) (at_of l v is passed) in
    fits_rest l v f c k (baseless (int_lt v.position l.base) l f.base read.base passed) (read.batches ∙ after_cut l v c k) read.end

pub feed_fits : FeedFits
feed_fits l v f k is read = fits_by l v f k is read (int_lt v.position l.base) refl

-- ---- a log read whole

pub log_is_read : (l : Log) (epoch : ℤ) (f : Feed) → IsLog l → epoch ≡ l.epoch → IsFeed (feed_from l (negsuc 1)) f → log_of epoch f ≡ l
log_is_read l epoch f k by read =
    let low = k.base in
    let base = based (int_lt (negsuc 1) l.base) l f.base read.base (is_lt (negsuc 1) l.base (omega (arith, ints, low))) in
    let batches = read.batches ∙ after_base l (negsuc 1) k (omega (arith, ints, low)) in
    let made : Option (ℤ × Image) → List BatchRow → Log = λ b bs. record { epoch = l.epoch; base = base_of b; base_image = image_of_base b; batches = bs } in
    ap (λ e. log_of e f) by ∙ ap (λ b. made b f.batches) base ∙ ap (made (Some (l.base, l.base_image))) batches
