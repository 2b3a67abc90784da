-- The lines that tell what stands in a tree and a log: compact JSON, with the members of an object in the order of their names' bytes.
use Rattle.std.specs.Prelude.{ℕ, ℤ, List, [], ◌++◌, length, map, Option, Some, None, option_map, codes, decimal}
use Rattle.std.specs.Fmt.{signed_decimal}
use Rattle.std.specs.List.{flat_map}
use Rattle.json.specs.Print.{quoted}
use Rattle.serde_json.specs.Data.{Data, array, object, no_members, put}
use Rattle.serde_json.specs.View.{items_of}
use Rattle.serde_json.specs.Written.{compact_text}
use Rattle.kz_types.specs.declared.log.BatchRow.{BatchRow}
use Rattle.kz_types.specs.declared.machine.AheadPath.{AheadPath}
use Rattle.kz_types.specs.declared.machine.Recorded.{Recorded}
use Rattle.kz_types.specs.declared.machine.Verdict.{Verdict}
use Rattle.kz_types.specs.declared.machine.Verdict.TheVariants.{Unmigrated, Unrecorded, Closed, Ahead, Disagrees}
use Rattle.kz_types.specs.declared.tree.Rendered.{Rendered}
use Rattle.kz_types.specs.declared.tree.Row.{Row}
use Rattle.kz_spec_data.specs.Members.{whole_data, with_text, with_whole, with_bytes}
use Rattle.kz_spec_data.specs.Replies.{word_and_count, word_and_number, verdict_text, offset_or_none}
use Rattle.kz_spec_data.specs.Written.{with_owner}
use Rattle.kz_spec_data.specs.WrittenRecords.{record_data}
use Rattle.kz_spec_data.specs.Tree.{Tree, migration_record}
use Rattle.kz_spec_data.specs.Log.{Log, end_of, image_at}
use Rattle.kz_spec_data.specs.Rendering.{render}
use Rattle.kz_spec_machine.specs.declared.dumps.Figures.{Figures}

-- a value as a line
abbrev pub line_of : Data → List ℕ
line_of d = compact_text d ++ codes "\n"

-- ---- a tree

-- the live sessions and the last zxid
abbrev pub tree_head_data : List ℤ → ℤ → Data
tree_head_data sessions zxid = object (with_whole (codes "zxid") zxid (put (codes "sessions") (array (items_of (map whole_data sessions))) no_members))

-- A znode: its body in base64; its owner is left out where there is none.
abbrev pub row_data : Row → Data
row_data r = object (with_whole (codes "version") r.version (with_whole (codes "pzxid") r.pzxid (with_text (codes "path") r.path
    (with_owner r.owner (with_whole (codes "mzxid") r.mzxid (with_whole (codes "czxid") r.czxid (with_bytes (codes "bytes") r.body no_members)))))))

unfoldable pub tree_head_line : List ℤ → ℤ → List ℕ
tree_head_line sessions zxid = line_of (tree_head_data sessions zxid)

unfoldable pub row_line : Row → List ℕ
row_line r = line_of (row_data r)

-- the lines of a tree: its sessions and its zxid, and then each znode but the root, in the order of their paths
abbrev pub tree_text : Tree → List ℕ
tree_text t = tree_head_line t.sessions t.zxid ++ flat_map row_line t.rows

-- ---- a log

abbrev pub log_head_data : ℤ → ℤ → ℤ → Data
log_head_data base end epoch = object (with_whole (codes "epoch") epoch (with_whole (codes "end") end (with_whole (codes "base") base no_members)))

-- a batch: its epoch, its first offset, its records and its time
abbrev pub batch_data : BatchRow → Data
batch_data b = object (with_whole (codes "time") b.time (put (codes "records") (array (items_of (map record_data b.items)))
    (with_whole (codes "first") b.first (with_whole (codes "epoch") b.epoch no_members))))

unfoldable pub log_head_line : ℤ → ℤ → ℤ → List ℕ
log_head_line base end epoch = line_of (log_head_data base end epoch)

unfoldable pub batch_line : BatchRow → List ℕ
batch_line b = line_of (batch_data b)

-- the lines of a log: its base, end and epoch, and then each batch after the base
abbrev pub log_text : Log → List ℕ
log_text l = log_head_line l.base (end_of l) l.epoch ++ flat_map batch_line l.batches

-- ---- a rendering

-- a znode that is rendered, whose body is a text
abbrev pub rendered_data : Rendered → Data
rendered_data z = object (with_text (codes "path") z.path (with_text (codes "body") z.body no_members))

unfoldable pub rendered_line : Rendered → List ℕ
rendered_line z = line_of (rendered_data z)

-- the znodes that the metadata at an offset is rendered as
abbrev pub rendering_text : Log → ℤ → List ℕ
rendering_text l offset = flat_map rendered_line (render (image_at l offset))

-- ---- a check

-- a path that is ahead of the recorded offset, and the first later batch end at which it agrees
abbrev pub ahead_line : AheadPath → List ℕ
ahead_line a = quoted a.path ++ (codes " " ++ (signed_decimal a.offset ++ codes "\n"))

-- the verdict as one line
abbrev pub verdict_line : Verdict → List ℕ
verdict_line v = verdict_text v ++ codes "\n"

-- How the tree and the log agree: a line, and one for each path that is ahead. Of a path that disagrees nothing is printed.
unfoldable pub check_lines : Verdict → List ℕ
check_lines Unmigrated = verdict_line Unmigrated
check_lines Unrecorded = verdict_line Unrecorded
check_lines (Closed offset) = verdict_line (Closed offset)
check_lines (Ahead offset paths) = verdict_line (Ahead offset paths) ++ flat_map ahead_line paths
check_lines (Disagrees path) = []

-- ---- figures

abbrev pub figures_of : Tree → Log → Figures
figures_of t l = record {
  zxid = t.zxid;
  znodes = length t.rows;
  epoch = l.epoch;
  base = l.base;
  end = end_of l;
  migration = (image_at l (end_of l)).state;
  recorded = option_map (λ (r : Recorded). r.offset) (migration_record t);
}

-- a word and a number, as a line
abbrev pub number_line : List ℕ → ℤ → List ℕ
number_line word n = word_and_number word n ++ codes "\n"

unfoldable pub figure_lines : Figures → List ℕ
figure_lines f = number_line (codes "zxid") f.zxid ++ ((word_and_count (codes "znodes") f.znodes ++ codes "\n") ++ (number_line (codes "epoch") f.epoch ++ (number_line (codes "base") f.base
    ++ (number_line (codes "end") f.end ++ (number_line (codes "migration") f.migration ++ (codes "recorded " ++ (offset_or_none f.recorded ++ codes "\n")))))))
