-- Taking records one after another, and the view that they lead to.
use Rattle.std.proofs.Common.{◌≡◌, inl, inr, Bool, true, false, cond, ℤ, pos, ◌+ℤ◌, ◌≤ℤ◌, ◌+◌, ◌-◌, ◌≤◌, int_lt, int_cmp, List, [], ◌∷◌, ◌++◌, length, Option, Some, None, Result, Ok, Err, OnOk, refl, sym, ap, ◌∙◌, subst, append_assoc, append-nil, get_or, filter, arith}
use Rattle.std.proofs.lemmas.Int.{ints}
use Rattle.std.proofs.lemmas.List.{length-append}
use Rattle.kz_types.specs.declared.log.BatchRow.{BatchRow}
use Rattle.kz_types.specs.declared.log.Entry.{Entry}
use Rattle.kz_types.specs.declared.record.MetaRecord.{MetaRecord}
use Rattle.kz_image.specs.declared.feed.Feed.{Feed}
use Rattle.kz_types.specs.Ordered.{Rises}
use Rattle.kz_types.proofs.Order.{int_order}
use Rattle.kz_types.proofs.Append.{Rises_left}
use Rattle.kz_spec_data.specs.Image.{Image}
use Rattle.kz_spec_data.specs.Log.{Log, View, Follow, IsLog, IsAt, IsViewOf, begins_after, last_of, last_end, last_epoch, end_of, entries_at_offsets, entries_of_batch, entries, entries_by, image_at, all_entries_applied, log_with_feed, feed_from, read_epoch, read_view}
use Rattle.kz_spec_data.specs.Settlement.{counting_records, open_begin, records_of_open}
use Rattle.kz_settle.specs.Settling.{offset_of}
use Rattle.kz_settle.specs.Stands.{SettlerState, IsStateAfter, AllBy}
use Rattle.kz_settle.proofs.Bounds.{counted_same}
use Rattle.kz_log.specs.Building.{Building, building_of, building_from, view_of, Takes, IsBuiltFrom}
use Rattle.kz_log.specs.Requests.{IsFeed}
use Rattle.kz_log.specs.Views.{Fits, start_of, known_epoch, GoesOn}
use Rattle.kz_log.proofs.Cuts.{Chain, chain_of, Chain-append, Follow-left, Follow-right, chain_end, entries-append, entries_rise, entries_end, cut_of, of_cut, by_here}
use Rattle.kz_log.proofs.Offsets.{last_end-append, le_of_lt}
use Rattle.kz_log.proofs.Views.{at_of, after_base, after_cut, based, baseless}

-- ---- one after another

pub applied-append : (xs ys : List Entry) (i : Image) → all_entries_applied (xs ++ ys) i ≡ all_entries_applied ys (all_entries_applied xs i)
applied-append [] ys i = refl
applied-append (x ∷ xs) ys i = applied-append xs ys _

pub stands_as : (pushed others given more : List Entry) (s : SettlerState) → pushed ≡ others → given ≡ more → IsStateAfter pushed given s → IsStateAfter others more s
stands_as pushed others given more s is same h = subst (λ p. IsStateAfter p more s) is (subst (λ g. IsStateAfter pushed g s) same h)

takes_then : (es fs : List Entry) (a b c : Building) → Takes es a b → Takes fs b c → Takes (es ++ fs) a c
takes_then es fs a b c t u pushed given rises s =
    let whole : (pushed ++ es) ++ fs ≡ pushed ++ (es ++ fs) = append_assoc pushed es fs in
    let rising : Rises int_cmp offset_of ((pushed ++ es) ++ fs) = subst (λ p. Rises int_cmp offset_of p) (sym whole) rises in
    let first = t pushed given (Rises_left int_order offset_of (pushed ++ es) fs rising) s in
    let second = u (pushed ++ es) (given ++ first.0) rising first.1 in (
      first.0 ++ second.0,
      stands_as ((pushed ++ es) ++ fs) (pushed ++ (es ++ fs)) ((given ++ first.0) ++ second.0) (given ++ (first.0 ++ second.0)) c.settling whole (append_assoc given first.0 second.0) second.1,
      second.2 ∙ ap (all_entries_applied second.0) first.2 ∙ sym (applied-append first.0 second.0 a.image),
    )

took_then : (es fs : List Entry) (a b c : Building) (p q e f : ℤ) → IsBuiltFrom es p e a b → IsBuiltFrom fs q f b c → IsBuiltFrom (es ++ fs) q f a c
took_then es fs a b c p q e f t u = record { takes = takes_then es fs a b c t.takes u.takes; popped = u.popped; position = u.position; epoch = u.epoch }

-- ---- one entry

emptied : (pushed given : List Entry) (s : SettlerState) → IsStateAfter pushed given s → IsStateAfter pushed (given ++ s.released) (record s { released = [] })
emptied pushed given s h = record { begun = h.begun; kept = h.kept; counted = λ at by. append-nil (given ++ s.released) ∙ h.counted at by }

-- what was handed out for an entry, and then what was released, is applied
pub took_push : (e : Entry) (out : List Entry) (old new : Building) (mid : SettlerState)
    → ((pushed given : List Entry) → Rises int_cmp offset_of (pushed ++ e ∷ []) → IsStateAfter pushed given old.settling → IsStateAfter (pushed ++ e ∷ []) (given ++ out) mid)
    → new.settling ≡ record mid { released = [] } → new.image ≡ all_entries_applied (out ++ mid.released) old.image → new.position ≡ old.position → new.epoch ≡ old.epoch
    → IsBuiltFrom (e ∷ []) old.position old.epoch old new
took_push e out old new mid stands settled image position epoch = record {
  takes = λ pushed given rises s. (
    out ++ mid.released,
    subst (λ n. IsStateAfter (pushed ++ e ∷ []) (given ++ (out ++ mid.released)) n) (sym settled)
        (stands_as (pushed ++ e ∷ []) (pushed ++ e ∷ []) ((given ++ out) ++ mid.released) (given ++ (out ++ mid.released)) (record mid { released = [] }) refl (append_assoc given out mid.released)
        (emptied (pushed ++ e ∷ []) (given ++ out) mid (stands pushed given rises s))),
    image,
  );
  popped = ap (λ (s : SettlerState). s.released) settled;
  position = position;
  epoch = epoch;
}

-- ---- the records of a batch, and batches

numbered-append : (offset epoch : ℤ) (xs ys : List MetaRecord) → entries_at_offsets offset epoch (xs ++ ys) ≡ entries_at_offsets offset epoch xs ++ entries_at_offsets (offset +ℤ pos (length xs)) epoch ys
numbered-append offset epoch [] ys = let same : offset ≡ offset +ℤ pos 0 = omega (arith, ints) in ap (λ o. entries_at_offsets o epoch ys) same
numbered-append offset epoch (x ∷ xs) ys =
    let e : Entry = record { offset = offset; epoch = epoch; item = x } in
    let same : (offset +ℤ pos 1) +ℤ pos (length xs) ≡ offset +ℤ pos (length (x ∷ xs)) = omega (arith, ints) in
    ap (λ es. e ∷ es) (numbered-append (offset +ℤ pos 1) epoch xs ys) ∙ ap (λ o. e ∷ (entries_at_offsets (offset +ℤ pos 1) epoch xs ++ entries_at_offsets o epoch ys)) same

last_epoch-push : (epoch : ℤ) (bs : List BatchRow) (b : BatchRow) → last_epoch epoch (bs ++ b ∷ []) ≡ b.epoch
last_epoch-push epoch [] b = refl
last_epoch-push epoch (x ∷ bs) b = last_epoch-push x.epoch bs b

took_to : (es fs : List Entry) (p q e f : ℤ) (old new : Building) → es ≡ fs → p ≡ q → e ≡ f → IsBuiltFrom es p e old new → IsBuiltFrom fs q f old new
took_to es fs p q e f old new is at by h = record { takes = subst (λ x. Takes x old new) is h.takes; popped = h.popped; position = h.position ∙ at; epoch = h.epoch ∙ by }

-- a record pushed at the next offset, and its offset noted
pub took_next : (position offset put writer epoch now : ℤ) (item : MetaRecord) (old mid new : Building) → offset ≡ position +ℤ pos 1 → put ≡ position +ℤ pos 1 → writer ≡ epoch
    → IsBuiltFrom (record { offset = offset; epoch = writer; item = item } ∷ []) position now old mid → new ≡ record mid { position = put }
    → IsBuiltFrom (record { offset = position +ℤ pos 1; epoch = epoch; item = item } ∷ []) (position +ℤ pos 1) now old new
took_next position offset put writer epoch now item old mid new is same by h made =
    let row : ℤ → ℤ → Entry = λ o e. record { offset = o; epoch = e; item = item } in
    subst (λ n. IsBuiltFrom (row (position +ℤ pos 1) epoch ∷ []) (position +ℤ pos 1) now old n) (sym made) (record {
      takes = subst (λ e. Takes (row (position +ℤ pos 1) e ∷ []) old mid) by (subst (λ o. Takes (row o writer ∷ []) old mid) is h.takes);
      popped = h.popped;
      position = same;
      epoch = h.epoch;
    })

-- one record more of a batch
pub batch_more : (b : BatchRow) (old mid new : Building) (done : List MetaRecord) (x : MetaRecord) (writer : ℤ) → b.first ≡ old.position +ℤ pos 1 → writer ≡ b.epoch
    → IsBuiltFrom (entries_at_offsets b.first b.epoch done) (old.position +ℤ pos (length done)) b.epoch old mid
    → IsBuiltFrom (record { offset = mid.position +ℤ pos 1; epoch = writer; item = x } ∷ []) (mid.position +ℤ pos 1) mid.epoch mid new
    → IsBuiltFrom (entries_at_offsets b.first b.epoch (done ++ x ∷ [])) (old.position +ℤ pos (length (done ++ x ∷ []))) b.epoch old new
batch_more b old mid new done x writer first by h next =
    let row : ℤ → ℤ → Entry = λ o e. record { offset = o; epoch = e; item = x } in
    let at = h.position in
    let count : length (done ++ x ∷ []) ≡ length done + 1 = length-append done (x ∷ []) in
    let here : mid.position +ℤ pos 1 ≡ b.first +ℤ pos (length done) = omega (arith, ints, at, first) in
    let last : mid.position +ℤ pos 1 ≡ old.position +ℤ pos (length (done ++ x ∷ [])) = omega (arith, ints, at, count) in
    took_to (entries_at_offsets b.first b.epoch done ++ row (mid.position +ℤ pos 1) writer ∷ []) (entries_at_offsets b.first b.epoch (done ++ x ∷ []))
    (mid.position +ℤ pos 1) (old.position +ℤ pos (length (done ++ x ∷ []))) mid.epoch b.epoch old new
    (ap (λ o. entries_at_offsets b.first b.epoch done ++ row o writer ∷ []) here ∙ ap (λ e. entries_at_offsets b.first b.epoch done ++ row (b.first +ℤ pos (length done)) e ∷ []) by
    ∙ sym (numbered-append b.first b.epoch done (x ∷ []))) last h.epoch
    (took_then (entries_at_offsets b.first b.epoch done) (row (mid.position +ℤ pos 1) writer ∷ []) old mid new (old.position +ℤ pos (length done)) (mid.position +ℤ pos 1) b.epoch mid.epoch h next)

pub batch_done : (b : BatchRow) (old new : Building) (done : List MetaRecord) → b.first ≡ old.position +ℤ pos 1 → done ≡ b.items
    → IsBuiltFrom (entries_at_offsets b.first b.epoch done) (old.position +ℤ pos (length done)) b.epoch old new → IsBuiltFrom (entries_of_batch b) (last_of b) b.epoch old new
batch_done b old new done first all h =
    let count : length done ≡ length b.items = ap length all in
    took_to (entries_at_offsets b.first b.epoch done) (entries_of_batch b) (old.position +ℤ pos (length done)) (last_of b) b.epoch b.epoch old new (ap (entries_at_offsets b.first b.epoch) all) (omega (arith, ints, first, count)) refl h

pub nothing_left : {A : Type 0} (xs : List A) → length xs ≡ 0 → xs ≡ []
nothing_left [] h = refl
nothing_left (x ∷ xs) h = absurd (omega arith)

-- one batch more
pub all_more : (old mid new : Building) (done : List BatchRow) (b : BatchRow) → IsBuiltFrom (entries done) (last_end old.position done) (last_epoch old.epoch done) old mid
    → IsBuiltFrom (entries_of_batch b) (last_of b) b.epoch mid new
    → IsBuiltFrom (entries (done ++ b ∷ [])) (last_end old.position (done ++ b ∷ [])) (last_epoch old.epoch (done ++ b ∷ [])) old new
all_more old mid new done b h next =
    took_to (entries done ++ entries_of_batch b) (entries (done ++ b ∷ [])) (last_of b) (last_end old.position (done ++ b ∷ [])) b.epoch (last_epoch old.epoch (done ++ b ∷ [])) old new
    (ap (λ es. entries done ++ es) (sym (append-nil (entries_of_batch b))) ∙ sym (entries-append done (b ∷ []))) (sym (last_end-append old.position done (b ∷ []))) (sym (last_epoch-push old.epoch done b))
    (took_then (entries done) (entries_of_batch b) old mid new (last_end old.position done) (last_of b) (last_epoch old.epoch done) b.epoch h next)

pub all_first : (from at : ℤ) (done rest batches : List BatchRow) (b : BatchRow) → Follow from batches → done ++ b ∷ rest ≡ batches → at ≡ last_end from done → b.first ≡ at +ℤ pos 1
all_first from at done rest batches b follow is here =
    let next = Follow-right from done (b ∷ rest) (subst (Follow from) (sym is) follow) in next.0 ∙ ap (λ p. p +ℤ pos 1) (sym here)

pub all_room : (from most : ℤ) (done rest batches : List BatchRow) (b : BatchRow) → Follow from batches → last_end from batches ≤ℤ most → done ++ b ∷ rest ≡ batches → last_of b ≤ℤ most
all_room from most done rest batches b follow room is =
    let next = Follow-right from done (b ∷ rest) (subst (Follow from) (sym is) follow) in
    let end : last_end from batches ≡ last_end (last_of b) rest = ap (last_end from) (sym is) ∙ last_end-append from done (b ∷ rest) in
    let more = chain_end (last_of b) rest (chain_of (last_of b) rest next.2) in
    omega (arith, ints, room, end, more)

pub on_ok : {A E : Type 0} (r : Result A E) (P Q : Type 0) → OnOk r P → (P → Q) → OnOk r Q
on_ok (Ok x) P Q p f = f p
on_ok (Err e) P Q p f = tt

-- ---- the view that is built

stands_new : IsStateAfter [] [] (record { begun = None; kept = []; released = [] })
stands_new = record { begun = refl; kept = refl; counted = λ at by. refl }

pub built_is_at : (l : Log) (b : Building) (given : List Entry) → Chain l.base l.batches → b.position ≡ end_of l → b.settling.released ≡ [] → IsStateAfter (entries l.batches) given b.settling
    → b.image ≡ all_entries_applied given l.base_image → IsAt l (view_of b)
built_is_at l b given chain at popped s image =
    let by : AllBy b.position (entries l.batches) = subst (λ p. AllBy p (entries l.batches)) (sym at) (entries_end l.base l.batches chain) in
    let all : given ≡ counting_records (entries l.batches) b.position = sym (append-nil given) ∙ ap (λ r. given ++ r) (sym popped) ∙ s.counted b.position by in
    of_cut l (view_of b) chain (record {
      bs = l.batches;
      cs = [];
      whole = sym (append-nil l.batches);
      at = sym at;
      image = image ∙ ap (λ es. all_entries_applied es l.base_image) all;
      begun = s.begun;
      kept = s.kept;
    })

pub stands_at : (l : Log) (v : View) → Chain l.base l.batches → IsAt l v → end_of l ≡ v.position → IsStateAfter (entries l.batches) (counting_records (entries l.batches) v.position) (building_of v).settling
stands_at l v chain is at =
    let all : entries_by v.position (entries l.batches) ≡ entries l.batches = by_here l v.position l.batches [] (sym (append-nil l.batches)) at chain in
    let by : AllBy v.position (entries l.batches) = subst (λ p. AllBy p (entries l.batches)) at (entries_end l.base l.batches chain) in
    record {
      begun = is.begun ∙ ap open_begin all;
      kept = is.kept ∙ ap records_of_open all;
      counted = λ to k. append-nil (counting_records (entries l.batches) v.position) ∙ counted_same v.position to (entries l.batches) (entries_rise l.base l.batches chain) by k;
    }

is_at_of : (l : Log) (v : View) (base : Option (ℤ × Image)) (batches : List BatchRow) (b : Building) (epoch : ℤ) → GoesOn l v base → Follow (start_of v base) batches
    → IsBuiltFrom (entries batches) (last_end (start_of v base) batches) epoch (building_from base v) b → IsAt (log_with_feed l base batches) (view_of b)
unfolding image_at
is_at_of l v None batches b epoch on follow took =
    let old = chain_of l.base l.batches on.0 in
    let at = on.2 in
    let whole = log_with_feed l None batches in
    let chain : Chain l.base (l.batches ++ batches) = Chain-append l.base l.batches batches old (subst (λ p. Chain p batches) (sym at) (chain_of v.position batches follow)) in
    let given = counting_records (entries l.batches) v.position in
    let joined = entries-append l.batches batches in
    let rises = subst (λ es. Rises int_cmp offset_of es) joined (entries_rise l.base (l.batches ++ batches) chain) in
    let t = took.takes (entries l.batches) given rises (stands_at l v old on.1 at) in
    built_is_at whole b (given ++ t.0) chain (took.position ∙ ap (λ p. last_end p batches) (sym at) ∙ sym (last_end-append l.base l.batches batches)) took.popped
    (subst (λ es. IsStateAfter es (given ++ t.0) b.settling) (sym joined) t.1)
    (t.2 ∙ ap (all_entries_applied t.0) on.1.image ∙ sym (applied-append given t.0 l.base_image))
is_at_of l v (Some base) batches b epoch on follow took =
    let chain = chain_of base.0 batches follow in
    let t = took.takes [] [] (entries_rise base.0 batches chain) stands_new in
    built_is_at (log_with_feed l (Some base) batches) b t.0 chain took.position took.popped t.1 t.2

-- ---- the log's end

read_is : (l : Log) (v n : View) → IsLog l → IsAt l n → n.position ≡ end_of l → n.epoch ≡ read_epoch l v → n ≡ read_view l v
unfolding image_at
read_is l v n k is at epoch =
    let all : entries_by n.position (entries l.batches) ≡ entries l.batches = by_here l n.position l.batches [] (sym (append-nil l.batches)) (sym at) (chain_of l.base l.batches k.follow) in
    let made : ℤ → ℤ → Image → Option ℤ → List Entry → View = λ p e i b w. record { position = p; epoch = e; image = i; begun = b; kept = w } in
    ap (λ p. made p n.epoch n.image n.begun n.kept) at
    ∙ ap (λ e. made (end_of l) e n.image n.begun n.kept) epoch
    ∙ ap (λ i. made (end_of l) (read_epoch l v) i n.begun n.kept) (is.image ∙ ap (image_at l) at)
    ∙ ap (λ b. made (end_of l) (read_epoch l v) (image_at l (end_of l)) b n.kept) (is.begun ∙ ap open_begin all)
    ∙ ap (made (end_of l) (read_epoch l v) (image_at l (end_of l)) (open_begin (entries l.batches))) (is.kept ∙ ap records_of_open all)

reads_by : (l : Log) (v n : View) (f : Feed) → IsLog l → IsViewOf l v → IsFeed (feed_from l v.position) f
    → ((m : Log) → GoesOn m v f.base → IsAt (log_with_feed m f.base f.batches) n) → n.position ≡ f.end → n.epoch ≡ last_epoch (known_epoch f.base v.epoch) f.batches
    → (t : Bool) → int_lt v.position l.base ≡ t → n ≡ read_view l v
reads_by l v n f k is read at position epoch true below =
    let base = based (int_lt v.position l.base) l f.base read.base below in
    let batches : f.batches ≡ l.batches = read.batches ∙ after_base l v.position k (le_of_lt v.position l.base below) in
    let whole : log_with_feed l f.base f.batches ≡ l = ap (λ b. log_with_feed l b f.batches) base ∙ ap (log_with_feed l (Some (l.base, l.base_image))) batches in
    read_is l v n k (subst (λ m. IsAt m n) whole (at l (subst (GoesOn l v) (sym base) tt))) (position ∙ read.end)
    (epoch ∙ ap (λ b. last_epoch (known_epoch b v.epoch) f.batches) base ∙ ap (last_epoch (pos 0)) read.batches
    ∙ ap (λ t. last_epoch (cond t (pos 0) v.epoch) (filter (begins_after v.position) l.batches)) (sym below))
reads_by l v n f k is read at position epoch false passed =
    let base = baseless (int_lt v.position l.base) l f.base read.base passed in
    let chain = chain_of l.base l.batches k.follow in
    let c = cut_of l v chain (at_of l v is passed) in
    let m : Log = record l { batches = c.bs } in
    let follow : Follow l.base c.bs = Follow-left l.base c.bs c.cs (subst (Follow l.base) c.whole k.follow) in
    let here : IsAt m v = of_cut m v (chain_of l.base c.bs follow) (record { bs = c.bs; cs = []; whole = sym (append-nil c.bs); at = c.at; image = c.image; begun = c.begun; kept = c.kept }) in
    let batches : f.batches ≡ c.cs = read.batches ∙ after_cut l v c k in
    let whole : log_with_feed m f.base f.batches ≡ l = ap (λ b. log_with_feed m b f.batches) base ∙ ap (log_with_feed m None) batches ∙ ap (λ bs. record l { batches = bs }) (sym c.whole) in
    read_is l v n k (subst (λ x. IsAt x n) whole (at m (subst (GoesOn m v) (sym base) (follow, here, c.at)))) (position ∙ read.end)
    (epoch ∙ ap (λ b. last_epoch (known_epoch b v.epoch) f.batches) base ∙ ap (last_epoch v.epoch) read.batches
    ∙ ap (λ t. last_epoch (cond t (pos 0) v.epoch) (filter (begins_after v.position) l.batches)) (sym passed))

-- what is read after a view of a log makes it the view of the log's end
pub reads_of : (v n : View) (f : Feed) → ((m : Log) → GoesOn m v f.base → IsAt (log_with_feed m f.base f.batches) n) → n.position ≡ f.end → n.epoch ≡ last_epoch (known_epoch f.base v.epoch) f.batches
    → (l : Log) → IsLog l → IsViewOf l v → IsFeed (feed_from l v.position) f → n ≡ read_view l v
reads_of v n f at position epoch l k is read = reads_by l v n f k is read at position epoch (int_lt v.position l.base) refl

-- ---- what a feed makes of a view

-- what was built of a view and a feed is a view of the log after it
pub advanced : (v n : View) (f : Feed) (b : Building) → Fits v f → IsBuiltFrom (entries f.batches) f.end (last_epoch (known_epoch f.base v.epoch) f.batches) (building_from f.base v) b → n ≡ view_of b
    → (l : Log) → GoesOn l v f.base → IsAt (log_with_feed l f.base f.batches) n
advanced v n f b fits took is l on =
    let epoch = last_epoch (known_epoch f.base v.epoch) f.batches in
    subst (λ x. IsAt (log_with_feed l f.base f.batches) x) (sym is) (is_at_of l v f.base f.batches b epoch on fits.follow
    (took_to (entries f.batches) (entries f.batches) f.end (last_end (start_of v f.base) f.batches) epoch epoch (building_from f.base v) b refl fits.end refl took))

-- so is the view itself where nothing was read
pub still : (v : View) (f : Feed) → f.base ≡ None → f.batches ≡ [] → (l : Log) → GoesOn l v f.base → IsAt (log_with_feed l f.base f.batches) v
still v f base none l on =
    let goes : GoesOn l v None = subst (GoesOn l v) base on in
    let whole : log_with_feed l f.base f.batches ≡ l = ap (λ b. log_with_feed l b f.batches) base ∙ ap (log_with_feed l None) none ∙ ap (λ bs. record l { batches = bs }) (append-nil l.batches) in
    subst (λ x. IsAt x v) (sym whole) goes.1

pub still_reads : (v : View) (f : Feed) → Fits v f → f.base ≡ None → f.batches ≡ [] → (l : Log) → IsLog l → IsViewOf l v → IsFeed (feed_from l v.position) f → v ≡ read_view l v
still_reads v f fits base none l k is read =
    reads_of v v f (still v f base none)
    (sym (fits.end ∙ ap (λ b. last_end (start_of v b) f.batches) base ∙ ap (last_end v.position) none))
    (sym (ap (λ b. last_epoch (known_epoch b v.epoch) f.batches) base ∙ ap (last_epoch v.epoch) none)) l k is read

-- ---- beside another view

-- a view of the log that stands at the log's end is what the log says there
at_end : (l : Log) (v : View) → IsLog l → IsViewOf l v → v.position ≡ end_of l → IsAt l v
at_end l v k (inl below) at =
    let end = chain_end l.base l.batches (chain_of l.base l.batches k.follow) in
    absurd (omega (arith, ints, below, at, end))
at_end l v k (inr is) at = is

known_by : (t : Bool) (base : ℤ × Image) (epoch : ℤ) → known_epoch (cond t (Some base) None) epoch ≡ cond t (pos 0) epoch
known_by true base epoch = refl
known_by false base epoch = refl

read_epoch_is : (l : Log) (v : View) (f : Feed) → IsFeed (feed_from l v.position) f → last_epoch (known_epoch f.base v.epoch) f.batches ≡ read_epoch l v
read_epoch_is l v f read =
    ap (λ b. last_epoch (known_epoch b v.epoch) f.batches) read.base
    ∙ ap (last_epoch (known_epoch (feed_from l v.position).base v.epoch)) read.batches
    ∙ ap (λ e. last_epoch e (filter (begins_after v.position) l.batches)) (known_by (int_lt v.position l.base) (l.base, l.base_image) v.epoch)

-- where another view stands at the end of what is read after a view of a log, it is the view of the log's end, but for its epoch
pub shared_reads : (v other n : View) (f : Feed) → other.position ≡ f.end → n ≡ record other { epoch = last_epoch (known_epoch f.base v.epoch) f.batches }
    → (l : Log) → IsLog l → IsViewOf l v → IsViewOf l other → IsFeed (feed_from l v.position) f → n ≡ read_view l v
shared_reads v other n f at is l k view beside read =
    let made : View = record other { epoch = last_epoch (known_epoch f.base v.epoch) f.batches } in
    let here = at_end l other k beside (at ∙ read.end) in
    is ∙ read_is l v made k (record { end = here.end; image = here.image; begun = here.begun; kept = here.kept }) (at ∙ read.end) (read_epoch_is l v f read)

last_is : (b x : BatchRow) → b ≡ x → x.epoch ≡ b.epoch
last_is b x is = ap (λ (r : BatchRow). r.epoch) (sym is)

last_at : (epoch : ℤ) (x : BatchRow) (bs : List BatchRow) (b : BatchRow) → b ≡ get_or (x ∷ bs) (length bs) b → last_epoch epoch (x ∷ bs) ≡ b.epoch
last_at epoch x [] b is = last_is b x is
last_at epoch x (y ∷ bs) b is = last_at x.epoch y bs b is

-- the epoch of the last batch
pub last_epoch_at : (epoch : ℤ) (bs : List BatchRow) (b : BatchRow) → 1 ≤ length bs → b ≡ get_or bs (length bs - 1) b → last_epoch epoch bs ≡ b.epoch
last_epoch_at epoch [] b some is = absurd (omega (arith, some))
last_epoch_at epoch (x ∷ bs) b some is =
    let at : length (x ∷ bs) - 1 ≡ length bs = omega arith in
    last_at epoch x bs b (subst (λ n. b ≡ get_or (x ∷ bs) n b) at is)
