-- The metadata of a commit has no more znodes than the translation at its epoch, and no more bytes.
use Rattle.std.proofs.Common.{◌≡◌, ℕ, ◌+◌, ◌≤◌, ℤ, pos, ◌+ℤ◌, ◌≤ℤ◌, Bool, true, false, not, ◌&&◌, cond, List, [], ◌∷◌, ◌++◌, length, map, All, refl, sym, ap, ◌∙◌, subst, arith, append-nil}
use Rattle.std.specs.Prelude.{Result, Ok}
use Rattle.std.proofs.lemmas.Int.{ints}
use Rattle.std.proofs.lemmas.List.Elements.{All-nil, All-cons, All-append, All-tail}
use Rattle.kz_types.specs.declared.codes.TheConstants.{MIGRATION}
use Rattle.kz_types.specs.declared.limits.TheConstants.{MAX_EPOCH, OP_BYTES}
use Rattle.kz_types.specs.declared.driver.Stage.TheVariants as stage
use Rattle.kz_types.specs.declared.image.TopicEntry.{TopicEntry}
use Rattle.kz_types.specs.declared.log.BatchRow.{BatchRow}
use Rattle.kz_types.specs.declared.log.Entry.{Entry}
use Rattle.kz_types.specs.declared.record.MetaRecord.{MetaRecord}
use Rattle.kz_types.specs.declared.record.MetaRecord.TheVariants as meta
use Rattle.kz_types.specs.declared.tree.Rendered.{Rendered}
use Rattle.kz_spec_data.specs.Tree.{migrated_rows}
use Rattle.kz_spec_data.specs.Settlement.{is_begin}
use Rattle.kz_spec_data.specs.Image.{Image, empty_image, all_applied, image_with}
use Rattle.kz_spec_data.specs.Log.{Log, EpochsNeverFall, append, end_of, entries_of_batch, entries_at_offsets, entries, all_entries_applied, image_of}
use Rattle.kz_spec_data.specs.Rendering.{render}
use Rattle.kz_spec_data.specs.Translation.{Unreadable, translate}
use Rattle.kz_spec_machine.specs.Driver.{Shared, Driver, epoch_or_zero, commit_records}
use Rattle.kz_spec_machine.specs.Machine.{znode_size}
use Rattle.kz_spec_machine.specs.Sound.{LogShape, IsSharedSound, IsTranslated, IsSoundDriver}
use Rattle.kz_laws_machine.proofs.Numbers.{at_least_itself, at_most_then, at_most_by}
use Rattle.kz_laws_machine.specs.Limits.{IsBare, item_of}
use Rattle.kz_laws_machine.proofs.Related.{AllRelated}
use Rattle.kz_laws_machine.proofs.Sizes.{IsShorter}
use Rattle.kz_laws_machine.proofs.Migration.{state_applied}
use Rattle.kz_laws_machine.proofs.Begun.{any_closes}
use Rattle.kz_laws_machine.proofs.Counted.{commit_applied}
use Rattle.kz_laws_machine.proofs.Pending.{pending}
use Rattle.kz_laws_machine.proofs.Bare.{image_is_bare}
use Rattle.kz_laws_machine.proofs.Filled.{pending_are, pending_unmarked, pending_translated}
use Rattle.kz_laws_events.proofs.Committed.{IsReady, ready, unmigrated}
use Rattle.kz_laws_commits.specs.Commits.{Copies, CopiesAtStage}
use Rattle.kz_laws_bounds.proofs.Chunks.{sum_cons}
use Rattle.kz_laws_bounds.proofs.Amounts.{Znodes, size_of}
use Rattle.kz_laws_bounds.proofs.Left.{NoMore}
use Rattle.kz_laws_bounds.proofs.Epochs.{TopicRaised, ImageRaised, UpTo, all_raised, rendered_shorter}

-- ---- the epochs of a log's records

numbered_up_to : (E : ℤ) (high : E ≤ℤ MAX_EPOCH) (offset epoch : ℤ) (items : List MetaRecord) → pos 0 ≤ℤ epoch → epoch ≤ℤ E → All (UpTo E high) (entries_at_offsets offset epoch items)
numbered_up_to E high offset epoch [] least most = All-nil (UpTo E high)
numbered_up_to E high offset epoch (r ∷ rs) least most =
    All-cons (UpTo E high) (record { offset = offset; epoch = epoch; item = r }) (entries_at_offsets (offset +ℤ pos 1) epoch rs) (record { least = least; most = most }) (numbered_up_to E high (offset +ℤ pos 1) epoch rs least most)

entries_up_to : (E : ℤ) (high : E ≤ℤ MAX_EPOCH) (least most : ℤ) (bs : List BatchRow) → pos 0 ≤ℤ least → most ≤ℤ E → EpochsNeverFall least most bs → All (UpTo E high) (entries bs)
entries_up_to E high least most [] low top fall = All-nil (UpTo E high)
entries_up_to E high least most (b ∷ bs) low top fall =
    let own = at_most_then (pos 0) least b.epoch low fall.0 in
    All-append (UpTo E high) (entries_of_batch b) (entries bs) (numbered_up_to E high b.first b.epoch b.items own (at_most_then b.epoch most E fall.1 top)) (entries_up_to E high b.epoch most bs own top fall.2)

either_all : (P : Entry → Type 0) (b : Bool) (xs ys : List Entry) → All P xs → All P ys → All P (cond b xs ys)
either_all P true xs ys one other = one
either_all P false xs ys one other = other

pending_all : (P : Entry → Type 0) (es : List Entry) → All P es → All P (pending es)
pending_all P [] all = All-nil P
pending_all P (e ∷ es) all = either_all P (is_begin e.item && not (any_closes es)) es (pending es) (All-tail P e es all) (pending_all P es (All-tail P e es all))

pending_up_to : (E : ℤ) (high : E ≤ℤ MAX_EPOCH) (l : Log) → l.epoch ≤ℤ E → LogShape l → All (UpTo E high) (pending (entries l.batches))
pending_up_to E high l low shape = pending_all (UpTo E high) (entries l.batches) (entries_up_to E high (pos 1) l.epoch l.batches (omega (arith, ints)) low shape.log.epochs)

bare_raised : (E : ℤ) (high : E ≤ℤ MAX_EPOCH) (i : Image) → IsBare i → ImageRaised E high i empty_image
bare_raised E high i is = record { each = subst (λ (topics : List TopicEntry). AllRelated (TopicRaised E high) topics []) (sym is.topics) tt; configs = is.configs; entities = is.quotas; credentials = is.users; entries = is.acls; next = is.next }

-- ---- shorter znodes are no more

size_cons : (r : Rendered) (rs : Znodes) → size_of (r ∷ rs) ≡ znode_size r + size_of rs
size_cons r rs = sum_cons (znode_size r) (map znode_size rs)

shorter_size : (r s : Rendered) → IsShorter r s → znode_size r ≤ znode_size s
shorter_size r s shorter = by OP_BYTES (length r.path) (length s.path) (length r.body) (length s.body) (ap length shorter.paths) shorter.bodies
  where
    by : (o p q b c : ℕ) → p ≡ q → b ≤ c → o + p + b ≤ o + q + c
    by o p q b c same low = omega (arith, same, low)

more_by : (r s : Rendered) (rs ss : Znodes) → IsShorter r s → NoMore rs ss → NoMore (r ∷ rs) (s ∷ ss)
more_by r s rs ss shorter rest = record {
  counts = let low = rest.counts in omega (arith, low);
  weighs = sums (size_of (r ∷ rs)) (znode_size r) (size_of rs) (size_of (s ∷ ss)) (znode_size s) (size_of ss) (size_cons r rs) (size_cons s ss) (shorter_size r s shorter) rest.weighs;
}
  where
    sums : (a x m b y n : ℕ) → a ≡ x + m → b ≡ y + n → x ≤ y → m ≤ n → a ≤ b
    sums a x m b y n one other first rest = omega (arith, one, other, first, rest)

no_more : (rs ss : Znodes) → AllRelated IsShorter rs ss → NoMore rs ss
no_more [] [] all = record { counts = omega arith; weighs = omega arith }
no_more [] (s ∷ ss) all = absurd all
no_more (r ∷ rs) [] all = absurd all
no_more (r ∷ rs) (s ∷ ss) all = more_by r s rs ss all.0 (no_more rs ss all.1)

-- ---- the commit

render_state : (s : ℤ) (i : Image) → render (record i { state = s }) ≡ render i
unfolding render
render_state s i = refl

state_renders : (epoch : ℤ) (i : Image) → render (image_with epoch (meta.ZkMigrationState MIGRATION) i) ≡ render i
state_renders epoch i = ap render (state_applied epoch MIGRATION i) ∙ render_state MIGRATION i

same_records : (xs ys : List MetaRecord) → ◌≡◌ {A = Result (List MetaRecord) Unreadable} (Ok xs) (Ok ys) → xs ≡ ys
same_records xs ys is = cc

pub commit_no_more : (s : Shared) (now : ℤ) (d : Driver) (new : Log) (all : List MetaRecord) → IsSharedSound s → IsSoundDriver s d → Copies s d → d.stage ≡ stage.AppendRecords [] → append s.log (epoch_or_zero d.epoch) now commit_records ≡ Ok new
    → translate (migrated_rows s.tree) ≡ Ok all → NoMore (render (image_of new)) (render (all_applied (epoch_or_zero d.epoch) all empty_image))
commit_no_more s now d new all kept fine copies at made translated =
    let epoch = epoch_or_zero d.epoch in
    let both = ready s now d new kept fine at made in
    let k : IsReady s d epoch now = both.1 in
    let l : Log = s.log in
    let f = k.fills in
    let es : List Entry = pending (entries l.batches) in
    let copied : CopiesAtStage s.tree s.log d (stage.AppendRecords []) = subst (CopiesAtStage s.tree s.log d) at copies in
    let nothing : f.records ++ [] ≡ f.records = append-nil f.records in
    let same : f.records ≡ all = sym nothing ∙ same_records (f.records ++ []) all (sym (copied k.lead.current k.lead.leads f.from f.records f.begun f.so_far).translated ∙ translated) in
    let own : All IsTranslated f.records = subst (All IsTranslated) nothing f.translated in
    let are : map item_of es ≡ f.records = pending_are l f.from f.records kept.log f.begun f.so_far in
    let high : epoch ≤ℤ MAX_EPOCH = subst (λ (e : ℤ). e ≤ℤ MAX_EPOCH) (sym k.same) kept.log.epoch in
    let bare : IsBare (image_of l) = image_is_bare l (end_of l) kept.log (kept.before (unmigrated s d epoch now k)) (at_least_itself (end_of l)) in
    let raised : ImageRaised epoch high (all_entries_applied es (image_of l)) (all_applied epoch (map item_of es) empty_image) =
    all_raised epoch high es (image_of l) empty_image (pending_translated l f.records are own) (pending_up_to epoch high l (at_most_by l.epoch epoch (sym k.same)) kept.log) (bare_raised epoch high (image_of l) bare) in
    let less : NoMore (render (all_entries_applied es (image_of l))) (render (all_applied epoch (map item_of es) empty_image)) = no_more _ _ (rendered_shorter epoch high _ _ raised) in
    let is : render (image_of new) ≡ render (all_entries_applied es (image_of l)) =
    ap (λ (x : Log). render (image_of x)) (sym both.0.made) ∙ ap render (commit_applied l epoch now kept.log (pending_unmarked l f.records are own)) ∙ state_renders epoch (all_entries_applied es (image_of l)) in
    subst (λ (znodes : Znodes). NoMore znodes (render (all_applied epoch all empty_image))) (sym is)
    (subst (λ (rs : List MetaRecord). NoMore (render (all_entries_applied es (image_of l))) (render (all_applied epoch rs empty_image))) (are ∙ same) less)
