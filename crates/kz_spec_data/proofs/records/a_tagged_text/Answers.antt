use Rattle.std.proofs.Common.{◌≡◌, true, refl}
use Rattle.std.specs.Str.{is_utf8}
use lib.Chars.{codes}
use Rattle.kz_spec_data.specs.Fields.{groups_at}
use Rattle.kz_spec_data.specs.Forms.{items_at, tags_at}
use Rattle.kz_spec_data.specs.Records.{record_of, record_at, fields_at}
use Rattle.kz_spec_data.proofs.Ascii.{ascii_text}
use Rattle.kz_spec_data.proofs.records.a_tagged_text.Goals as goal

pub returns-clause-read : goal.returns-clause-read
unfolding record_of record_at fields_at items_at tags_at groups_at
returns-clause-read c =
    let t0 : is_utf8 (codes "ZK Migration") ≡ true = ascii_text (codes "ZK Migration") refl in
    rw (t0) refl
