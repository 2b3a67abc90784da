use Rattle.std.proofs.Common.{◌≡◌, true, refl}
use Rattle.std.specs.Str.{is_utf8}
use lib.Chars.{codes}
use Rattle.kz_spec_data.specs.Fields.{groups_at}
use Rattle.kz_spec_data.specs.Forms.{items_at, tags_at}
use Rattle.kz_spec_data.specs.Records.{record_of, record_at, fields_at}
use Rattle.kz_spec_data.proofs.Ascii.{ascii_text}
use Rattle.kz_spec_data.proofs.records.a_quota.Goals as goal

pub returns : goal.returns
unfolding record_of record_at fields_at items_at tags_at groups_at
returns c =
    let t0 : is_utf8 (codes "client-id") ≡ true = ascii_text (codes "client-id") refl in
    let t1 : is_utf8 (codes "user") ≡ true = ascii_text (codes "user") refl in
    let t2 : is_utf8 (codes "a") ≡ true = ascii_text (codes "a") refl in
    let t3 : is_utf8 (codes "k") ≡ true = ascii_text (codes "k") refl in
    rw (t0, t1, t2, t3) refl
