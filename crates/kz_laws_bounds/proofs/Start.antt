-- The number of steps that a turn may have suffices.
use Rattle.std.proofs.Common.{◌≡◌, inr, ℕ, suc, ◌+◌, ◌*◌, ◌/◌, ◌≤◌, ◌<◌, ℤ, Bool, true, false, ◌||◌, if◌then◌else◌, List, [], ◌∷◌, ◌++◌, length, Some, refl, sym, ap, ◌∙◌, subst, arith, length-append}
use Rattle.std.proofs.lemmas.List.{length-map}
use Rattle.std.specs.Prelude.{Result, Ok}
use Rattle.std.specs.Ordering.{int_eq}
use Rattle.std.specs.List.{list_any}
use Rattle.std.proofs.Math.Nat.{lt-mul-div-succ}
use Rattle.std.proofs.lemmas.Bool.Decides.{Decides-int_eq}
use Rattle.kz_types.specs.declared.tree.Row.{Row}
use Rattle.kz_types.specs.declared.tree.Op.{Op}
use Rattle.kz_types.specs.declared.driver.Stage.{Stage}
use Rattle.kz_types.specs.declared.driver.Stage.TheVariants as stage
use Rattle.kz_types.specs.declared.machine.Recorded.{Recorded}
use Rattle.kz_types.specs.declared.record.MetaRecord.{MetaRecord}
use Rattle.kz_spec_data.specs.Tree.{migrated_rows, area, rendered_row}
use Rattle.kz_spec_data.specs.Log.{Log, batch_ends, image_at, image_of, is_migrated_log}
use Rattle.kz_spec_data.specs.Rendering.{render}
use Rattle.kz_spec_data.specs.Translation.{Unreadable, translate}
use Rattle.kz_spec_data.specs.Difference.{diff}
use Rattle.kz_spec_machine.specs.Driver.{Shared, Driver, epoch_or_zero, is_one_of, remaining_at, last_path}
use Rattle.kz_spec_machine.specs.Machine.{Amount, amount_of_znodes, amount_of_ops, no_amount, translated_count, final_znodes, amount_at, remaining_amount, most_steps, work}
use Rattle.kz_spec_machine.specs.Sound.{IsBatchEnd, IsSharedSound, IsCurrent, IsAtRest, AtStage, IsSoundDriver}
use Rattle.kz_laws_machine.proofs.Area.{area_rises}
use Rattle.kz_laws_machine.proofs.Render.{render_rises}
use Rattle.kz_laws_commits.specs.Commits.{Copies, CopiesAtStage}
use Rattle.kz_laws_bounds.proofs.Chunks.{bytes_of, WritesIn, most_writes, written_within, writes_add, counted_add, weighed_add}
use Rattle.kz_laws_bounds.proofs.Amounts.{Znodes, size_of, AtMost, diff_most, FewZnodes, want_few}
use Rattle.kz_laws_bounds.proofs.Pages.{behind, some_behind}
use Rattle.kz_laws_bounds.proofs.Left.{Reaches, no_more_itself, Ahead, Starts, ScansMigration, Appends, Resyncs, WritesUpTo, ScansResync, RestsAfter, LeftAt, Left}
use Rattle.kz_laws_bounds.proofs.Waiting.{area_at_rest}
use Rattle.kz_laws_bounds.proofs.Claimed.{final_known}
use Rattle.kz_laws_bounds.proofs.Begun.{final_is}

-- ---- what the number of steps counts

abbrev count_of_area : Shared → ℕ
count_of_area s = length (area s.tree)

abbrev bytes_of_area : Shared → ℕ
bytes_of_area s = size_of (area s.tree)

-- the znodes that a turn ends with
abbrev final_of : Shared → Driver → Znodes
final_of s d = final_znodes (is_migrated_log s.log) s.log (epoch_or_zero d.epoch) (translate (migrated_rows s.tree))

abbrev records_of : Shared → ℕ
records_of s = if is_migrated_log s.log then 0 else translated_count (translate (migrated_rows s.tree))

-- the most steps of a turn of a driver at this stage
abbrev work_at : Shared → Driver → Stage → ℕ
work_at s d x = most_steps (amount_of_znodes (area s.tree)) (records_of s) (amount_of_znodes (final_of s d)) (remaining_amount s.log x)

-- the same, by its numbers
abbrev steps_of : ℕ → ℕ → ℕ → ℕ → ℕ
steps_of pages records counts weights = 20 + 2 * pages + records + counts / 64 + (2 * weights) / 1048576

abbrev steps_at : Shared → Driver → Amount → ℕ
steps_at s d left = steps_of (count_of_area s / 256) (records_of s / 1000) (count_of_area s + length (final_of s d) + 2 * left.count) (bytes_of_area s + size_of (final_of s d) + 2 * left.bytes)

-- ---- pages and records

rows_within : (s : Shared) → length (migrated_rows s.tree) < 256 * suc (count_of_area s / 256)
rows_within s = above (length (migrated_rows s.tree)) (count_of_area s) (count_of_area s / 256) (length-map (migrated_rows s.tree) rendered_row) (lt-mul-div-succ (count_of_area s) {b = 256} (omega arith))
  where
    above : (n a q : ℕ) → a ≡ n → a < 256 * (q + 1) → n < 256 * suc q
    above n a q is low = omega (arith, is, low)

count_is : (b : Bool) (t : Result (List MetaRecord) Unreadable) (records : List MetaRecord) → b ≡ false → t ≡ Ok records → (if b then 0 else translated_count t) ≡ length records
count_is true t records unmigrated is = absurd (cc)
count_is false t records unmigrated is = ap translated_count is

records_within : (s : Shared) (records : List MetaRecord) → is_migrated_log s.log ≡ false → translate (migrated_rows s.tree) ≡ Ok records → length records ≤ 1000 * suc (records_of s / 1000)
records_within s records unmigrated is =
    within (length records) (records_of s) (records_of s / 1000) (count_is (is_migrated_log s.log) (translate (migrated_rows s.tree)) records unmigrated is) (lt-mul-div-succ (records_of s) {b = 1000} (omega arith))
  where
    within : (n r q : ℕ) → r ≡ n → r < 1000 * (q + 1) → n ≤ 1000 * suc q
    within n r q is low = omega (arith, is, low)

-- ---- from the start

sum_most : (a x y b : ℕ) → a ≤ x + y → y ≤ b → a ≤ x + b
sum_most a x y b one other = omega (arith, one, other)

reaches_final : (s : Shared) (want : Znodes) → Reaches (area s.tree) want (most_writes (count_of_area s + length want) (bytes_of_area s + size_of want))
reaches_final s want some few =
    let d = diff_most (area s.tree) some in
    written_within (diff (area s.tree) some) (count_of_area s + length want) (bytes_of_area s + size_of want)
    (sum_most (length (diff (area s.tree) some)) (count_of_area s) (length some) (length want) d.counts few.counts)
    (sum_most (bytes_of (diff (area s.tree) some)) (bytes_of_area s) (size_of some) (size_of want) d.weighs few.weighs)

ahead_at_work : (s : Shared) (d : Driver) (left : Amount) (before : ℕ) → before ≤ count_of_area s / 256 + 6 → Ahead (migrated_rows s.tree) s.log (epoch_or_zero d.epoch) before (steps_at s d left)
ahead_at_work s d left before low =
    let a = count_of_area s in
    let b = bytes_of_area s in
    let n = length (final_of s d) in
    let m = size_of (final_of s d) in
    record {
      appends = suc (records_of s / 1000);
      pages = suc (a / 256);
      writes = most_writes (a + n) (b + m);
      append = λ unmigrated records is. records_within s records unmigrated is;
      read = rows_within s;
      write = reaches_final s (final_of s d);
      enough = by (a / 256) (records_of s / 1000) ((a + n) / 64) ((2 * (b + m)) / 1048576) ((2 * left.count) / 64) ((2 * (2 * left.bytes)) / 1048576) ((a + n + 2 * left.count) / 64) ((2 * (b + m + 2 * left.bytes)) / 1048576) low
          (counted_add (a + n) (2 * left.count) (a + n + 2 * left.count) (itself (a + n + 2 * left.count)))
          (weighed_add (b + m) (2 * left.bytes) (b + m + 2 * left.bytes) (itself (b + m + 2 * left.bytes)));
    }
  where
    itself : (k : ℕ) → k ≤ k
    itself k = omega arith

    by : (q r c w x y counts weights : ℕ) → before ≤ q + 6 → c + x ≤ counts → w + y ≤ weights → before + suc r + suc q + suc (c + w) + 6 ≤ 20 + 2 * q + r + counts + weights
    by q r c w x y counts weights low one other = omega (arith, low, one, other)

starts_at_work : (s : Shared) (d : Driver) (left : Amount) (before : ℕ) → before ≤ 5 → Starts (migrated_rows s.tree) s.log (epoch_or_zero d.epoch) before (steps_at s d left)
starts_at_work s d left before low = record {
  first = suc (count_of_area s / 256);
  scanned = rows_within s;
  ahead = ahead_at_work s d left (suc (count_of_area s / 256) + before) (by (count_of_area s / 256));
}
  where
    by : (q : ℕ) → suc q + before ≤ q + 6
    by q = omega (arith, low)

-- what is left to be read is read in so many pages
page_within : (s : Shared) (rows : List Row) → behind s.tree (last_path rows) < 256 * suc (count_of_area s / 256)
page_within s rows = less (behind s.tree (last_path rows)) (length (migrated_rows s.tree)) (256 * suc (count_of_area s / 256)) (some_behind s.tree (last_path rows)) (rows_within s)
  where
    less : (x y z : ℕ) → x ≤ y → y < z → x < z
    less x y z one other = omega (arith, one, other)

pages_at_work : (s : Shared) (d : Driver) (left : Amount) → suc (count_of_area s / 256) + 1 ≤ steps_at s d left
pages_at_work s d left = by (count_of_area s / 256) (records_of s / 1000) ((count_of_area s + length (final_of s d) + 2 * left.count) / 64) ((2 * (bytes_of_area s + size_of (final_of s d) + 2 * left.bytes)) / 1048576)
  where
    by : (q r c w : ℕ) → suc q + 1 ≤ 20 + 2 * q + r + c + w
    by q r c w = omega arith

scans_at_work : (s : Shared) (d : Driver) (left : Amount) (rows : List Row) → ScansMigration s.tree s.log d rows (steps_at s d left)
scans_at_work s d left rows = record {
  pages = suc (count_of_area s / 256);
  left = page_within s rows;
  least = pages_at_work s d left;
  current = λ c. ahead_at_work s d left (suc (count_of_area s / 256)) (six (count_of_area s / 256));
}
  where
    six : (q : ℕ) → suc q ≤ q + 6
    six q = omega arith

-- ---- within the migration

length_left : (xs ys : List MetaRecord) (n : ℕ) → length (xs ++ ys) ≤ n → length ys ≤ n
length_left xs ys n low = by (length (xs ++ ys)) (length xs) (length ys) (length-append xs ys) low
  where
    by : (all x y : ℕ) → all ≡ x + y → all ≤ n → y ≤ n
    by all x y is low = omega (arith, is, low)

appends_at_work : (s : Shared) (d : Driver) (left : Amount) (rest : List MetaRecord) → IsSoundDriver s d → Copies s d → d.stage ≡ stage.AppendRecords rest
    → IsCurrent s.tree d.claim → d.epoch ≡ Some s.log.epoch → (all : List MetaRecord) → translate (migrated_rows s.tree) ≡ Ok all → Appends (migrated_rows s.tree) (epoch_or_zero d.epoch) rest all (steps_at s d left)
appends_at_work s d left rest fine copies at c leads all is =
    let a : Ahead (migrated_rows s.tree) s.log (epoch_or_zero d.epoch) 0 (steps_at s d left) = ahead_at_work s d left 0 (omega arith) in
    let held : AtStage s.tree s.log d (stage.AppendRecords rest) = subst (AtStage s.tree s.log d) at fine.stage in
    let copied : CopiesAtStage s.tree s.log d (stage.AppendRecords rest) = subst (CopiesAtStage s.tree s.log d) at copies in
    let f = held.1 c leads in
    let unmigrated = held.0.unmigrated c in
    record {
      appends = a.appends;
      pages = a.pages;
      writes = a.writes;
      append = length_left f.records rest (1000 * a.appends) (a.append unmigrated (f.records ++ rest) (copied c leads f.from f.records f.begun f.so_far).translated);
      read = a.read;
      write = subst (λ (want : Znodes). Reaches (area s.tree) want a.writes) (final_is (is_migrated_log s.log) s.log (epoch_or_zero d.epoch) (translate (migrated_rows s.tree)) all unmigrated is) a.write;
      enough = by a.appends a.pages a.writes (steps_at s d left) a.enough;
    }
  where
    by : (x y z n : ℕ) → 0 + x + y + z + 6 ≤ n → x + y + z + 5 ≤ n
    by x y z n enough = omega (arith, enough)

-- ---- on a migrated log

-- the writes of a whole resync to the log's end
writes_at_work : (s : Shared) (d : Driver) (left : Amount) → is_migrated_log s.log ≡ true
    → (pages writes : ℕ) × (length (migrated_rows s.tree) < 256 * pages) × WritesIn writes (diff (area s.tree) (render (image_of s.log))) × (pages + writes + 6 ≤ steps_at s d left)
writes_at_work s d left migrated =
    let a : Ahead (migrated_rows s.tree) s.log (epoch_or_zero d.epoch) 0 (steps_at s d left) = ahead_at_work s d left 0 (omega arith) in (
      a.pages,
      a.writes,
      a.read,
      subst (λ (want : Znodes). Reaches (area s.tree) want a.writes) (final_known (is_migrated_log s.log) s.log (epoch_or_zero d.epoch) (migrated_rows s.tree) migrated) a.write (render (image_of s.log)) (no_more_itself (render (image_of s.log))),
      by a.appends a.pages a.writes (steps_at s d left) a.enough,
    )
  where
    by : (x y z n : ℕ) → 0 + x + y + z + 6 ≤ n → y + z + 6 ≤ n
    by x y z n enough = omega (arith, enough)

resyncs_at_work : (s : Shared) (d : Driver) (left : Amount) → is_migrated_log s.log ≡ true → Resyncs s.tree s.log d (steps_at s d left)
resyncs_at_work s d left migrated =
    let w = writes_at_work s d left migrated in
    record { pages = w.0; read = w.2; least = least w.0 w.1 (steps_at s d left) w.4; current = λ c. (w.1, w.3, by w.0 w.1 (steps_at s d left) w.4) }
  where
    least : (x y n : ℕ) → x + y + 6 ≤ n → x + 2 ≤ n
    least x y n enough = omega (arith, enough)

    by : (x y n : ℕ) → x + y + 6 ≤ n → x + y + 4 ≤ n
    by x y n enough = omega (arith, enough)

rests_at_work : (s : Shared) (d : Driver) (left : Amount) (before : ℕ) → before ≤ 3 → IsSharedSound s → is_migrated_log s.log ≡ true → IsAtRest s.tree d.view d.recorded → RestsAfter s.log d.recorded before (steps_at s d left)
rests_at_work s d left before low kept migrated rests =
    let w = writes_at_work s d left migrated in
    let offset : ℤ = d.view.position in (
      offset,
      rests.view,
      inr (
        w.1,
        subst (λ (have : Znodes). WritesIn w.1 (diff have (render (image_of s.log)))) (area_at_rest s d offset kept migrated rests rests.view) w.3,
        by w.0 w.1 (steps_at s d left) w.4,
      ),
    )
  where
    by : (x y n : ℕ) → x + y + 6 ≤ n → before + y + 3 ≤ n
    by x y n enough = omega (arith, low, enough)

-- ---- writes up to a target

writes_up_to : (s : Shared) (target : Recorded) (before n c1 b1 c2 b2 : ℕ) → AtMost (remaining_at s.tree s.log target.offset) c1 b1 → AtMost (diff (render (image_at s.log target.offset)) (render (image_of s.log))) c2 b2
    → before + most_writes c1 b1 + most_writes c2 b2 + 3 ≤ n → WritesUpTo s.tree s.log target before n
writes_up_to s target before n c1 b1 c2 b2 first later enough = (
  most_writes c1 b1,
  written_within (remaining_at s.tree s.log target.offset) c1 b1 first.counts first.weighs,
  inr (
    most_writes c2 b2,
    written_within (diff (render (image_at s.log target.offset)) (render (image_of s.log))) c2 b2 later.counts later.weighs,
    enough,
  ),
)

enough_up_to : (before q r c1 b1 c2 b2 counts weights : ℕ) → before ≤ q + 2 → c1 + c2 ≤ counts → b1 + b2 ≤ weights → before + most_writes c1 b1 + most_writes c2 b2 + 3 ≤ steps_of q r counts weights
enough_up_to before q r c1 b1 c2 b2 counts weights low few light = by (most_writes c1 b1) (most_writes c2 b2) (counts / 64) ((2 * weights) / 1048576) (writes_add c1 b1 c2 b2 counts weights few light)
  where
    by : (x y c w : ℕ) → x + y ≤ suc (suc (c + w)) → before + x + y + 3 ≤ 20 + 2 * q + r + c + w
    by x y c w both = omega (arith, low, both)

-- the znodes of the end are those that the number counts
end_is : (s : Shared) (d : Driver) → is_migrated_log s.log ≡ true → final_of s d ≡ render (image_of s.log)
end_is s d migrated = final_known (is_migrated_log s.log) s.log (epoch_or_zero d.epoch) (migrated_rows s.tree) migrated

between : (s : Shared) (d : Driver) (target : Recorded) → is_migrated_log s.log ≡ true
    → AtMost (diff (render (image_at s.log target.offset)) (render (image_of s.log))) (length (render (image_at s.log target.offset)) + length (final_of s d)) (size_of (render (image_at s.log target.offset)) + size_of (final_of s d))
between s d target migrated =
    let want : Znodes = render (image_at s.log target.offset) in
    subst (λ (end : Znodes). AtMost (diff want (render (image_of s.log))) (length want + length end) (size_of want + size_of end)) (sym (end_is s d migrated)) (diff_most want (render (image_of s.log)))

-- where the number counts the znodes at the target
to_znodes : (s : Shared) (d : Driver) (target : Recorded) (before : ℕ) → before ≤ count_of_area s / 256 + 2 → is_migrated_log s.log ≡ true → WritesUpTo s.tree s.log target before (steps_at s d (amount_of_znodes (render (image_at s.log target.offset))))
to_znodes s d target before low migrated =
    let a = count_of_area s in
    let b = bytes_of_area s in
    let n = length (final_of s d) in
    let m = size_of (final_of s d) in
    let want : Znodes = render (image_at s.log target.offset) in
    writes_up_to s target before (steps_at s d (amount_of_znodes want)) (a + length want) (b + size_of want) (length want + n) (size_of want + m) (diff_most (area s.tree) want) (between s d target migrated)
    (enough_up_to before (a / 256) (records_of s / 1000) (a + length want) (b + size_of want) (length want + n) (size_of want + m) (a + n + 2 * length want) (b + m + 2 * size_of want) low (sums a (length want) n) (sums b (size_of want) m))
  where
    sums : (x y z : ℕ) → (x + y) + (y + z) ≤ x + z + 2 * y
    sums x y z = omega arith

at_most_moved : (ops : List Op) (c b d e : ℕ) → c ≤ d → b ≤ e → AtMost ops c b → AtMost ops d e
at_most_moved ops c b d e few light most = record { counts = then_most (length ops) c d most.counts few; weighs = then_most (bytes_of ops) b e most.weighs light }
  where
    then_most : (x y z : ℕ) → x ≤ y → y ≤ z → x ≤ z
    then_most x y z one other = omega (arith, one, other)

-- where it counts the operations that are left
to_operations : (s : Shared) (d : Driver) (target : Recorded) (ops : List Op) (before : ℕ) → before ≤ count_of_area s / 256 + 2 → IsSharedSound s → is_migrated_log s.log ≡ true → ops ≡ remaining_at s.tree s.log target.offset
    → WritesUpTo s.tree s.log target before (steps_at s d (amount_of_ops ops))
to_operations s d target ops before low kept migrated same =
    let a = count_of_area s in
    let b = bytes_of_area s in
    let n = length (final_of s d) in
    let m = size_of (final_of s d) in
    let want : Znodes = render (image_at s.log target.offset) in
    let few : FewZnodes want (a + length ops) (b + bytes_of ops) = subst (λ (os : List Op). FewZnodes want (a + length os) (b + bytes_of os)) (sym same)
    (want_few (area s.tree) want (area_rises s.tree.rows kept.tree.rise) (render_rises (image_at s.log target.offset))) in
    let itself : AtMost ops (length ops) (bytes_of ops) = record { counts = at_most_itself (length ops); weighs = at_most_itself (bytes_of ops) } in
    writes_up_to s target before (steps_at s d (amount_of_ops ops)) (length ops) (bytes_of ops) (a + length ops + n) (b + bytes_of ops + m)
    (subst (λ (os : List Op). AtMost os (length ops) (bytes_of ops)) same itself)
    (at_most_moved (diff want (render (image_of s.log))) (length want + n) (size_of want + m) (a + length ops + n) (b + bytes_of ops + m) (more (length want) (a + length ops) n few.counts) (more (size_of want) (b + bytes_of ops) m few.weighs) (between s d target migrated))
    (enough_up_to before (a / 256) (records_of s / 1000) (length ops) (bytes_of ops) (a + length ops + n) (b + bytes_of ops + m) (a + n + 2 * length ops) (b + m + 2 * bytes_of ops) low (sums a (length ops) n) (sums b (bytes_of ops) m))
  where
    at_most_itself : (k : ℕ) → k ≤ k
    at_most_itself k = omega arith

    more : (x y z : ℕ) → x ≤ y → x + z ≤ y + z
    more x y z low = omega (arith, low)

    sums : (x y z : ℕ) → y + (x + y + z) ≤ x + z + 2 * y
    sums x y z = omega arith

-- ---- the target of a current driver

among_by : (before after : List ℤ) (offset : ℤ) → list_any (λ (i : ℤ). int_eq i offset) (before ++ offset ∷ after) ≡ true
among_by [] after offset = ap (λ (b : Bool). b || list_any (λ (i : ℤ). int_eq i offset) after) ((Decides-int_eq offset offset).1 refl)
among_by (x ∷ before) after offset = by (int_eq x offset) (list_any (λ (i : ℤ). int_eq i offset) (before ++ offset ∷ after)) (among_by before after offset)
  where
    by : (a b : Bool) → b ≡ true → (a || b) ≡ true
    by true b is = refl
    by false b is = is

is_end : (l : Log) (offset : ℤ) → IsBatchEnd l offset → is_one_of (batch_ends l) offset ≡ true
is_end l offset e = ap (list_any (λ (i : ℤ). int_eq i offset)) e.among ∙ among_by e.before e.after offset

amount_is : (l : Log) (target : Recorded) → IsBatchEnd l target.offset → amount_of_znodes (render (image_at l target.offset)) ≡ amount_at l target
amount_is l target e = sym (ap (λ (b : Bool). if b then amount_of_znodes (render (image_at l target.offset)) else no_amount) (is_end l target.offset e))

to_target : (s : Shared) (d : Driver) (target : Recorded) (before : ℕ) → before ≤ count_of_area s / 256 + 2 → is_migrated_log s.log ≡ true → IsBatchEnd s.log target.offset → WritesUpTo s.tree s.log target before (steps_at s d (amount_at s.log target))
to_target s d target before low migrated end = subst (λ (left : Amount). WritesUpTo s.tree s.log target before (steps_at s d left)) (amount_is s.log target end) (to_znodes s d target before low migrated)

-- ---- by the stage

many : (s : Shared) (d : Driver) (left : Amount) → 20 ≤ steps_at s d left
many s d left = by (count_of_area s / 256) (records_of s / 1000) ((count_of_area s + length (final_of s d) + 2 * left.count) / 64) ((2 * (bytes_of_area s + size_of (final_of s d) + 2 * left.bytes)) / 1048576)
  where
    by : (q r c w : ℕ) → 20 ≤ 20 + 2 * q + r + c + w
    by q r c w = omega arith

least_of : (k n : ℕ) → k ≤ 20 → 20 ≤ n → k ≤ n
least_of k n low high = omega (arith, low, high)

scan_at_work : (s : Shared) (d : Driver) (target : Recorded) (rows : List Row) → IsSharedSound s → IsSoundDriver s d → d.stage ≡ stage.ScanForResync target rows → ScansResync s.tree s.log d target rows (steps_at s d (amount_at s.log target))
scan_at_work s d target rows kept fine at =
    let held : AtStage s.tree s.log d (stage.ScanForResync target rows) = subst (AtStage s.tree s.log d) at fine.stage in
    record {
      pages = suc (count_of_area s / 256);
      left = page_within s rows;
      least = pages_at_work s d (amount_at s.log target);
      current = λ c. to_target s d target (suc (count_of_area s / 256) + 1) (two (count_of_area s / 256)) held.0.migrated (held.2 c).0.end;
    }
  where
    two : (q : ℕ) → suc q + 1 ≤ q + 2
    two q = omega arith

write_at_work : (s : Shared) (d : Driver) (target : Recorded) (ops : List Op) → IsSharedSound s → IsSoundDriver s d → d.stage ≡ stage.WriteResync target ops → IsCurrent s.tree d.claim
    → WritesUpTo s.tree s.log target 1 (steps_at s d (remaining_amount s.log (stage.WriteResync target ops)))
write_at_work s d target [] kept fine at c =
    let held : AtStage s.tree s.log d (stage.WriteResync target []) = subst (AtStage s.tree s.log d) at fine.stage in
    to_target s d target 1 (omega arith) held.0.migrated (held.2 c).targets.end
write_at_work s d target (o ∷ os) kept fine at c =
    let held : AtStage s.tree s.log d (stage.WriteResync target (o ∷ os)) = subst (AtStage s.tree s.log d) at fine.stage in
    to_operations s d target (o ∷ os) 1 (omega arith) kept held.0.migrated (held.2 c).remaining

left_at : (s : Shared) (d : Driver) (x : Stage) → d.stage ≡ x → IsSharedSound s → IsSoundDriver s d → Copies s d → LeftAt s.tree s.log d x (steps_at s d (remaining_amount s.log x))
left_at s d stage.Uninitialized at kept fine copies = least_of 2 (steps_at s d no_amount) (omega arith) (many s d no_amount)
left_at s d stage.Inactive at kept fine copies = tt
left_at s d stage.WaitForControllerQuorum at kept fine copies = starts_at_work s d no_amount 5 (omega arith)
left_at s d stage.WaitForBrokers at kept fine copies = starts_at_work s d no_amount 4 (omega arith)
left_at s d stage.ListBrokers at kept fine copies = starts_at_work s d no_amount 3 (omega arith)
left_at s d stage.ReadControlZnodes at kept fine copies = starts_at_work s d no_amount 2 (omega arith)
left_at s d (stage.ClaimLeadership seen) at kept fine copies = inr (starts_at_work s d no_amount 3 (omega arith))
left_at s d (stage.ScanForMigration rows) at kept fine copies = scans_at_work s d no_amount rows
left_at s d (stage.BeginMigration rows) at kept fine copies = λ c. ahead_at_work s d no_amount 0 (omega arith)
left_at s d (stage.AppendRecords records) at kept fine copies = appends_at_work s d no_amount records fine copies at
left_at s d stage.ReadLogForResync at kept fine copies =
    let held : AtStage s.tree s.log d stage.ReadLogForResync = subst (AtStage s.tree s.log d) at fine.stage in
    resyncs_at_work s d no_amount held.migrated
left_at s d (stage.ScanForResync target rows) at kept fine copies = scan_at_work s d target rows kept fine at
left_at s d (stage.WriteResync target ops) at kept fine copies = λ c. write_at_work s d target ops kept fine at c
left_at s d stage.KraftControllerToBrokerComm at kept fine copies =
    let held : AtStage s.tree s.log d stage.KraftControllerToBrokerComm = subst (AtStage s.tree s.log d) at fine.stage in
    (least_of 3 (steps_at s d no_amount) (omega arith) (many s d no_amount), λ c. rests_at_work s d no_amount 1 (omega arith) kept held.0.migrated (held.1 c))
left_at s d stage.DualWrite at kept fine copies =
    let held : AtStage s.tree s.log d stage.DualWrite = subst (AtStage s.tree s.log d) at fine.stage in
    (least_of 2 (steps_at s d no_amount) (omega arith) (many s d no_amount), λ c. rests_at_work s d no_amount 0 (omega arith) kept held.0.migrated (held.1 c))
left_at s d (stage.WriteDelta target ops) at kept fine copies = λ c.
    let held : AtStage s.tree s.log d (stage.WriteDelta target ops) = subst (AtStage s.tree s.log d) at fine.stage in
    to_operations s d target ops 0 (omega arith) kept held.0.migrated (held.2 c).remaining

pub left_at_work : (s : Shared) (d : Driver) → IsSharedSound s → IsSoundDriver s d → Copies s d → Left s d (work s d)
left_at_work s d kept fine copies = record {
  some = least_of 1 (work s d) (omega arith) (many s d (remaining_amount s.log d.stage));
  at = left_at s d d.stage refl kept fine copies;
}
