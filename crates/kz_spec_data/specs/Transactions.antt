-- The bytes of a tree's transactions: which transaction bytes are, at which byte they stop being one, and what is written.
use Rattle.std.specs.Prelude.{◌≡◌, ℕ, zero, suc, ◌+◌, ◌-◌, ◌*◌, ◌^◌, ◌<◌, ◌≤◌, ℤ, pos, negsuc, ◌≤ℤ◌, ⊤, Bool, true, false, nat_le, ◌==◌, ◌&&◌, List, [], ◌∷◌, ◌++◌, length, Option, Some, None, Result, Ok, Err, if◌then◌else◌}
use Rattle.std.specs.Int.{Width, w8, w32, w64, byte_len, to_be_bytes, cast_signed, cast_unsigned}
use Rattle.std.specs.Int.RustNames.{FitsSigned}
use Rattle.std.specs.Ordering.{int_cmp}
use mir.Val.{bits}
use Rattle.kz_types.specs.Ordered.{Rises}
use Rattle.kz_types.specs.Faults.{IsFaultPlace}
use Rattle.kz_types.specs.PathRule.{is_path, BeginsPath}
use Rattle.kz_types.specs.declared.tree.Row.{Row}
use Rattle.kz_types.specs.declared.tree.Op.{Op}
use Rattle.kz_types.specs.declared.tree.Op.TheVariants.{Create, Set, Delete, Check}
use Rattle.kz_types.specs.declared.record.ByteFault.{ByteFault}
use Rattle.kz_types.specs.declared.record.ByteFault.TheVariants as bytes
use Rattle.kz_spec_data.specs.Fields.{Reading, Format, format_through, ◌>>=◌, start, front}
use Rattle.kz_spec_data.specs.Forms.{◌⊗◌, Each, items_at, items_written, AllFit}
use Rattle.kz_spec_data.specs.declared.files.Txn.{Txn}
use Rattle.kz_spec_data.specs.declared.files.Txn.TheVariants.{Multi, LoadRows, LoadEnd, Begin, End}

-- ---- where bytes stop being a transaction

-- Why bytes are no transaction: with this byte none goes on, or the bytes end there; or a text that begins at this place is no
-- path. A path is judged once its bytes are taken.
pub data Flaw : Type 0 where
  at_byte : ℕ → Flaw
  in_path : ℕ → List ℕ → Flaw

-- the first bad byte of a flaw
abbrev pub IsAt : Flaw → ℕ → Type 0
IsAt (at_byte at) place = place ≡ at
IsAt (in_path from text) place = (at : ℕ) × (place ≡ from + at) × IsFaultPlace BeginsPath text at

-- ---- fields

-- Some number of at most n bytes more, after those that make this one, is from `least` to `most`.
abbrev pub goes_on : ℕ → ℕ → ℕ → ℕ → Bool
goes_on n so_far least most = nat_le least (so_far * 256 ^ n + (256 ^ n - 1)) && nat_le (so_far * 256 ^ n) most

-- n bytes more of a number from `least` to `most`, after those that make this one
unfoldable pub digits_at : ℕ → ℕ → ℕ → ℕ → ℕ → List ℕ → Result (ℕ × Reading) Flaw
digits_at zero so_far least most at left = Ok (so_far, record { at = at; left = left })
digits_at (suc n) so_far least most at [] = Err (at_byte at)
digits_at (suc n) so_far least most at (b ∷ left) =
    if goes_on n (so_far * 256 + b) least most then digits_at n (so_far * 256 + b) least most (at + 1) left
    else Err (at_byte at)

-- a number from `least` to `most`, the highest byte first
abbrev pub within : Width → ℕ → ℕ → Format Flaw ℕ
within w least most = record {
  spells = λ n bytes. (least ≤ n) × (n ≤ most) × (bytes ≡ to_be_bytes w n);
  read = λ r. digits_at (byte_len w) 0 least most r.at r.left;
  written = to_be_bytes w;
  fits = λ n. (least ≤ n) × (n ≤ most);
}

-- any number of this width in two's complement
abbrev pub int : Width → Format Flaw ℤ
int w = record {
  spells = λ z bytes. FitsSigned w z × (bytes ≡ to_be_bytes w (cast_unsigned w z));
  read = λ r. (within w 0 (2 ^ bits w - 1)).read r >>= λ x. Ok (cast_signed w x.0, x.1);
  written = λ z. to_be_bytes w (cast_unsigned w z);
  fits = FitsSigned w;
}

-- a count of what follows
abbrev pub count : Format Flaw ℕ
count = within w32 0 (2 ^ 32 - 1)

-- a field of so many bytes, or the flaw that the bytes end too early
abbrev pub field_or_flaw : {A : Type 0} → Result A ByteFault → Result A Flaw
field_or_flaw (Ok x) = Ok x
field_or_flaw (Err (bytes.Short at)) = Err (at_byte at)
field_or_flaw (Err (bytes.Overlong at)) = Err (at_byte at)
field_or_flaw (Err (bytes.NotUtf8 at)) = Err (at_byte at)

-- a length, and so many bytes
abbrev pub byte_field : Format Flaw (List ℕ)
byte_field = record {
  spells = λ x bytes. (length x < 2 ^ 32) × (bytes ≡ to_be_bytes w32 (length x) ++ x);
  read = λ r. count.read r >>= λ n. field_or_flaw ((front n.0).read n.1);
  written = λ x. to_be_bytes w32 (length x) ++ x;
  fits = λ x. length x < 2 ^ 32;
}

-- a text that was read, where it is a path
abbrev pub path_or_flaw : List ℕ × Reading → Result (List ℕ × Reading) Flaw
path_or_flaw x = if is_path x.0 then Ok x else Err (in_path (x.1.at - length x.0) x.0)

-- the path of a znode
abbrev pub path : Format Flaw (List ℕ)
path = record {
  spells = λ x bytes. (is_path x ≡ true) × byte_field.spells x bytes;
  read = λ r. byte_field.read r >>= path_or_flaw;
  written = byte_field.written;
  fits = λ x. (is_path x ≡ true) × byte_field.fits x;
}

-- the greatest session and owner
abbrev pub max_session : ℕ
max_session = 2 ^ 63 - 1

-- a session: at least 1
abbrev pub session : Format Flaw ℤ
session = record {
  spells = λ s bytes. (pos 1 ≤ℤ s) × (s ≤ℤ pos max_session) × (bytes ≡ to_be_bytes w64 (cast_unsigned w64 s));
  read = λ r. (within w64 1 max_session).read r >>= λ x. Ok (pos x.0, x.1);
  written = λ s. to_be_bytes w64 (cast_unsigned w64 s);
  fits = λ s. (pos 1 ≤ℤ s) × (s ≤ℤ pos max_session);
}

abbrev pub owner_of : ℕ → Option ℤ
owner_of zero = None
owner_of (suc n) = Some (pos (suc n))

abbrev pub owner_bytes : Option ℤ → List ℕ
owner_bytes None = to_be_bytes w64 0
owner_bytes (Some s) = session.written s

abbrev pub MayBeOwner : Option ℤ → Type 0
MayBeOwner None = ⊤
MayBeOwner (Some s) = session.fits s

-- the session that a znode ends with, or 0 for none
abbrev pub owner : Format Flaw (Option ℤ)
owner = record {
  spells = λ o bytes. MayBeOwner o × (bytes ≡ owner_bytes o);
  read = λ r. (within w64 0 max_session).read r >>= λ x. Ok (owner_of x.0, x.1);
  written = owner_bytes;
  fits = MayBeOwner;
}

-- a byte 0 or 1
abbrev pub flag_byte : Bool → ℕ
flag_byte false = 0
flag_byte true = 1

abbrev pub flag : Format Flaw Bool
flag = record {
  spells = λ b bytes. bytes ≡ flag_byte b ∷ [];
  read = λ r. (within w8 0 1).read r >>= λ x. Ok (x.0 == 1, x.1);
  written = λ b. flag_byte b ∷ [];
  fits = λ b. ⊤;
}

-- a count, and so many items
abbrev pub list_of : {X : Type 0} → Format Flaw X → Format Flaw (List X)
list_of f = record {
  spells = λ xs bytes. (length xs < 2 ^ 32) × ((rest : List ℕ) × (bytes ≡ to_be_bytes w32 (length xs) ++ rest) × Each f.spells xs rest);
  read = λ r. count.read r >>= λ n. items_at f.read n.0 n.1;
  written = λ xs. to_be_bytes w32 (length xs) ++ items_written f.written xs;
  fits = λ xs. (length xs < 2 ^ 32) × AllFit f.fits xs;
}

-- So many sessions that rise. After each of them there is room for those that follow.
unfoldable pub sessions_at : ℕ → ℕ → Reading → Result (List ℤ × Reading) Flaw
sessions_at zero least r = Ok ([], r)
sessions_at (suc n) least r = (within w64 least (max_session - n)).read r >>= λ s. sessions_at n (s.0 + 1) s.1 >>= λ ss. Ok (pos s.0 ∷ ss.0, ss.1)

-- a list of sessions that rise
abbrev pub sessions : Format Flaw (List ℤ)
sessions = record {
  spells = λ ss bytes. Rises int_cmp (λ s. s) ss × (list_of session).spells ss bytes;
  read = λ r. count.read r >>= λ n. sessions_at n.0 1 n.1;
  written = (list_of session).written;
  fits = λ ss. Rises int_cmp (λ s. s) ss × (list_of session).fits ss;
}

-- ---- operations

abbrev pub create : Format Flaw (List ℕ × (List ℕ × Option ℤ))
create = path ⊗ byte_field ⊗ owner

abbrev pub set : Format Flaw (List ℕ × (ℤ × List ℕ))
set = path ⊗ int w32 ⊗ byte_field

-- of a delete and of a check: path, version
abbrev pub at_version : Format Flaw (List ℕ × ℤ)
at_version = path ⊗ int w32

-- a kind byte of this number, and then fields
abbrev pub IsKind : {X : Type 0} → ℕ → (X → List ℕ → Type 0) → X → List ℕ → Type 0
IsKind kind spells x bytes = (rest : List ℕ) × (bytes ≡ kind ∷ rest) × spells x rest

abbrev pub SpellsOp : Op → List ℕ → Type 0
SpellsOp (Create p body o) bytes = IsKind 1 create.spells (p, (body, o)) bytes
SpellsOp (Set p body version) bytes = IsKind 2 set.spells (p, (version, body)) bytes
SpellsOp (Delete p version) bytes = IsKind 3 at_version.spells (p, version) bytes
SpellsOp (Check p version) bytes = IsKind 4 at_version.spells (p, version) bytes

abbrev pub op_at : ℕ × Reading → Result (Op × Reading) Flaw
op_at (kind, r) =
    if kind == 1 then (create.read r >>= λ x. Ok (Create x.0.0 x.0.1.0 x.0.1.1, x.1))
    else (if kind == 2 then (set.read r >>= λ x. Ok (Set x.0.0 x.0.1.1 x.0.1.0, x.1))
    else (if kind == 3 then (at_version.read r >>= λ x. Ok (Delete x.0.0 x.0.1, x.1))
    else (at_version.read r >>= λ x. Ok (Check x.0.0 x.0.1, x.1))))

abbrev pub op_written : Op → List ℕ
op_written (Create p body o) = 1 ∷ create.written (p, (body, o))
op_written (Set p body version) = 2 ∷ set.written (p, (version, body))
op_written (Delete p version) = 3 ∷ at_version.written (p, version)
op_written (Check p version) = 4 ∷ at_version.written (p, version)

abbrev pub OpFits : Op → Type 0
OpFits (Create p body o) = create.fits (p, (body, o))
OpFits (Set p body version) = set.fits (p, (version, body))
OpFits (Delete p version) = at_version.fits (p, version)
OpFits (Check p version) = at_version.fits (p, version)

-- an operation of a multi: its kind byte and its fields
abbrev pub op : Format Flaw Op
op = record {
  spells = SpellsOp;
  read = λ r. (within w8 1 4).read r >>= op_at;
  written = op_written;
  fits = OpFits;
}

-- ---- znodes that are loaded

-- path, body, version, owner, czxid, mzxid, pzxid
abbrev pub RowFields : Type 0
RowFields = List ℕ × (List ℕ × (ℤ × (Option ℤ × (ℤ × (ℤ × ℤ)))))

abbrev pub row_of : RowFields → Row
row_of x = record { path = x.0; body = x.1.0; version = x.1.1.0; owner = x.1.1.1.0; czxid = x.1.1.1.1.0; mzxid = x.1.1.1.1.1.0; pzxid = x.1.1.1.1.1.1 }

abbrev pub fields_of : Row → RowFields
fields_of r = (r.path, (r.body, (r.version, (r.owner, (r.czxid, (r.mzxid, r.pzxid))))))

abbrev pub row : Format Flaw Row
row = format_through row_of fields_of (path ⊗ byte_field ⊗ int w32 ⊗ owner ⊗ int w64 ⊗ int w64 ⊗ int w64)

-- ---- transactions

abbrev pub multi : Format Flaw (ℤ × List Op)
multi = int w64 ⊗ list_of op

abbrev pub load_rows : Format Flaw (Bool × List Row)
load_rows = flag ⊗ list_of row

abbrev pub load_end : Format Flaw (ℤ × List ℤ)
load_end = int w64 ⊗ sessions

-- of the beginning and of the end of a session: zxid, session
abbrev pub move : Format Flaw (ℤ × ℤ)
move = int w64 ⊗ session

-- These bytes spell this transaction: its kind byte and its fields, and nothing after them.
abbrev pub Spells : Txn → List ℕ → Type 0
Spells (Multi zxid ops) bytes = IsKind 1 multi.spells (zxid, ops) bytes
Spells (LoadRows first rows) bytes = IsKind 2 load_rows.spells (first, rows) bytes
Spells (LoadEnd zxid live) bytes = IsKind 3 load_end.spells (zxid, live) bytes
Spells (Begin zxid s) bytes = IsKind 4 move.spells (zxid, s) bytes
Spells (End zxid s) bytes = IsKind 5 move.spells (zxid, s) bytes

abbrev pub fields_at : ℕ × Reading → Result (Txn × Reading) Flaw
fields_at (kind, r) =
    if kind == 1 then (multi.read r >>= λ x. Ok (Multi x.0.0 x.0.1, x.1))
    else (if kind == 2 then (load_rows.read r >>= λ x. Ok (LoadRows x.0.0 x.0.1, x.1))
    else (if kind == 3 then (load_end.read r >>= λ x. Ok (LoadEnd x.0.0 x.0.1, x.1))
    else (if kind == 4 then (move.read r >>= λ x. Ok (Begin x.0.0 x.0.1, x.1))
    else (move.read r >>= λ x. Ok (End x.0.0 x.0.1, x.1)))))

-- what was read, where no byte is left
abbrev pub txn_alone : {X : Type 0} → X × Reading → Result X Flaw
txn_alone x = if length x.1.left == 0 then Ok x.0 else Err (at_byte x.1.at)

-- the transaction that these bytes are, or the first flaw
unfoldable pub txn_of : List ℕ → Result Txn Flaw
txn_of bytes = (within w8 1 5).read (start bytes) >>= fields_at >>= txn_alone

-- the bytes of a transaction
unfoldable pub txn_written : Txn → List ℕ
txn_written (Multi zxid ops) = 1 ∷ multi.written (zxid, ops)
txn_written (LoadRows first rows) = 2 ∷ load_rows.written (first, rows)
txn_written (LoadEnd zxid live) = 3 ∷ load_end.written (zxid, live)
txn_written (Begin zxid s) = 4 ∷ move.written (zxid, s)
txn_written (End zxid s) = 5 ∷ move.written (zxid, s)

-- Each length, count and number fits its field.
abbrev pub TxnFits : Txn → Type 0
TxnFits (Multi zxid ops) = multi.fits (zxid, ops)
TxnFits (LoadRows first rows) = load_rows.fits (first, rows)
TxnFits (LoadEnd zxid live) = load_end.fits (zxid, live)
TxnFits (Begin zxid s) = move.fits (zxid, s)
TxnFits (End zxid s) = move.fits (zxid, s)
