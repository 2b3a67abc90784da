-- The operations that make one rendering of another.
use Rattle.std.specs.Prelude.{ℕ, zero, suc, ◌+◌, Bool, nat_le, negsuc, List, length, map, sum, take, drop, None, if◌then◌else◌}
use Rattle.std.specs.Str.{bytes_eq}
use Rattle.kz_types.specs.declared.limits.TheConstants.{MAX_CHUNK, MAX_CHUNK_BYTES, OP_BYTES}
use Rattle.kz_types.specs.declared.tree.Op.{Op}
use Rattle.kz_types.specs.declared.tree.Op.TheVariants.{Create, Set, Delete, Check}
use Rattle.kz_types.specs.declared.tree.Rendered.{Rendered}
use Rattle.kz_types.specs.Order.{bytes_cmp}
use Rattle.kz_types.specs.Difference.{Edit, drop_key, make, alter, difference}
use Rattle.kz_spec_data.specs.Tree.{path_of_rendered}

abbrev pub same_body : Rendered → Rendered → Bool
same_body x y = bytes_eq x.body y.body

-- the operation of an edit, at any version
abbrev pub op_of : Edit Rendered (List ℕ) → Op
op_of (drop_key path) = Delete path (negsuc 0)
op_of (make r) = Create r.path r.body None
op_of (alter r) = Set r.path r.body (negsuc 0)

-- The operations that make `want` of `have`: deletes by falling path, then creates and sets by rising path.
unfoldable pub diff : List Rendered → List Rendered → List Op
diff have want = map op_of (difference bytes_cmp path_of_rendered same_body have want)

-- ---- the operations of one write

-- the size of an operation in a write
abbrev pub op_size : Op → ℕ
op_size (Create path body owner) = OP_BYTES + length path + length body
op_size (Set path body version) = OP_BYTES + length path + length body
op_size (Delete path version) = OP_BYTES + length path
op_size (Check path version) = OP_BYTES + length path

-- whether the first so many of these operations keep the limit on bytes
abbrev pub keeps_bytes : ℕ → List Op → Bool
keeps_bytes n ops = nat_le (sum (map op_size (take n ops))) MAX_CHUNK_BYTES

-- the most operations, at most so many, that keep the limit on bytes, and one where there are none
abbrev pub chunk_length : ℕ → List Op → ℕ
chunk_length zero ops = 0
chunk_length (suc zero) ops = 1
chunk_length (suc (suc n)) ops = if keeps_bytes (suc (suc n)) ops then suc (suc n) else chunk_length (suc n) ops

-- The operations of the next write: the first 64, or fewer, that keep the limit on bytes; the first alone where it doesn't.
abbrev pub chunk : List Op → List Op
chunk ops = take (chunk_length MAX_CHUNK ops) ops

-- the operations that remain after the next write
abbrev pub after_chunk : List Op → List Op
after_chunk ops = drop (chunk_length MAX_CHUNK ops) ops
