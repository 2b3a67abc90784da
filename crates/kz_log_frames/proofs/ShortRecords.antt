-- A record that was read of a value of a batch has fewer than 2^32 bytes.
use Rattle.std.proofs.Common.{◌≡◌, ◌≤◌, ℕ, List, [], ◌∷◌, length, Result, Ok, Err, subst, All, arith}
use Rattle.std.proofs.lemmas.List.Elements.{All-nil, All-cons, All-head, All-tail}
use Rattle.kz_types.specs.declared.record.MetaRecord.{MetaRecord}
use Rattle.kz_types.specs.declared.record.CodecFault.{CodecFault}
use Rattle.kz_types.specs.declared.fault.LogWhy.TheVariants.{Value}
use Rattle.kz_spec_data.specs.Fields.{◌>>=◌}
use Rattle.kz_spec_data.specs.Records.{bytes_of_record, record_of}
use Rattle.kz_spec_data.specs.LogFile.{with_why, read_values}
use Rattle.kz_laws_values.specs.Texts.{AreBytes}
use Rattle.kz_laws_values.proofs.Exact.{came, ok_same}
use Rattle.kz_laws_values.specs.Lengths.{IsShortValue}
use Rattle.kz_log_frames.specs.Pieces.{IsShortRecord}

value_read : (m : Result MetaRecord CodecFault) (r : MetaRecord) → with_why Value m ≡ Ok r → m ≡ Ok r
value_read (Ok x) r h = cc
value_read (Err e) r h = absurd (cc)

-- Each record that is read of bytes has at most as many.
abbrev pub AreShortest : Type 0
AreShortest = (text : List ℕ) (r : MetaRecord) → AreBytes text → record_of text ≡ Ok r → length (bytes_of_record r) ≤ length text

record_short : (v : List ℕ) (r : MetaRecord) → AreShortest → IsShortValue v → record_of v ≡ Ok r → IsShortRecord r
record_short v r least short read =
    let few = short.size in
    let le = least v r short.bytes read in
    omega (arith, few, le)

pub records_short : (vs : List (List ℕ)) (rs : List MetaRecord) → AreShortest → All IsShortValue vs → read_values vs ≡ Ok rs → All IsShortRecord rs
records_short [] rs least short h = subst (All IsShortRecord) (ok_same [] rs h) (All-nil IsShortRecord)
records_short (v ∷ vs) rs least short h =
    let c = came (with_why Value (record_of v)) (λ (r : MetaRecord). read_values vs >>= λ (more : List MetaRecord). Ok (r ∷ more)) rs h in
    let d = came (read_values vs) (λ (more : List MetaRecord). Ok (c.value ∷ more)) rs c.second in
    let first = record_short v c.value least (All-head IsShortValue v vs short) (value_read (record_of v) c.value c.first) in
    let rest = records_short vs d.value least (All-tail IsShortValue v vs short) d.first in
    subst (All IsShortRecord) (ok_same (c.value ∷ d.value) rs d.second) (All-cons IsShortRecord c.value d.value first rest)
