-- What a proof unfolds to compute the definitions of this crate on a literal.
use Rattle.std.specs.Prelude.{⊤}
use Rattle.kz_spec_data.proofs.StoresOnLiterals.{stores_on_literals}
use Rattle.kz_spec_data.specs.Checksum.{after_bits, after_bytes}
use Rattle.kz_spec_data.specs.Fields.{groups_at, groups_of}
use Rattle.kz_spec_data.specs.Forms.{items_at, tags_at}
use Rattle.kz_spec_data.specs.Batches.{batch_of}
use Rattle.kz_spec_data.specs.Records.{record_of, record_at, fields_at}
use Rattle.kz_spec_data.specs.Tree.{begin_session, end_session}
use Rattle.kz_spec_data.specs.Frames.{found_at, journal_within, journal_of}
use Rattle.kz_spec_data.specs.Transactions.{digits_at, sessions_at, txn_of, txn_written}
use Rattle.kz_spec_data.specs.Loads.{is_loadable}
use Rattle.kz_spec_data.specs.TreeFile as tree_file
use Rattle.kz_spec_data.specs.LogFile as log_file

unfoldable pub files_on_literals : ⊤
unfolding stores_on_literals after_bits after_bytes groups_at groups_of items_at tags_at batch_of record_of record_at fields_at begin_session end_session found_at journal_within journal_of digits_at sessions_at txn_of txn_written is_loadable tree_file.after_txn tree_file.after_frames log_file.after_payload log_file.after_frames
files_on_literals = tt
