-- A batch that leaves a migrated log so, and no transaction open.
use Rattle.std.proofs.Common.{◌≡◌, ◌⊎◌, inl, inr, ℤ, true, false, List, None, sym, ap, ◌∙◌}
use Rattle.kz_types.specs.declared.machine.Recorded.{Recorded}
use Rattle.kz_types.specs.declared.record.MetaRecord.{MetaRecord}
use Rattle.kz_spec_data.specs.Settlement.{is_open}
use Rattle.kz_spec_data.specs.Tree.{Tree}
use Rattle.kz_spec_data.specs.Log.{Log, end_of, entries, image_at, image_of, with_batch, is_migrated_log, is_open_log, commit_of}
use Rattle.kz_spec_data.specs.Rendering.{render, excess}
use Rattle.kz_spec_machine.specs.Sound.{LogShape, IsBatchEnd, IsPastCommit, RecordAgrees, Agreement}
use Rattle.kz_laws_machine.specs.Effects.{IsLonger}
use Rattle.kz_laws_machine.proofs.Ends.{end_is_batch_end, batch_end_within}
use Rattle.kz_laws_machine.proofs.TreeCommits.{end_is_past, past_before}
use Rattle.kz_laws_machine.proofs.BatchEnds.{old_or_end, open_at_old}

-- what is known of such a batch
pub record IsSettledBatch (l : Log) (epoch now : ℤ) (items : List MetaRecord) : Type 0 where
  pub longer : IsLonger l (with_batch l epoch now items)
  pub commit : commit_of (with_batch l epoch now items) ≡ commit_of l
  pub closed : is_open_log (with_batch l epoch now items) ≡ false
  pub fits : excess (image_of (with_batch l epoch now items)) ≡ None

-- no transaction is open in a migrated log
pub migrated_settled : (t : Tree) (l : Log) → LogShape l → Agreement t l → is_open_log l ≡ false
migrated_settled t l shape old = old.ended (end_of l) (end_is_batch_end l) (end_is_past l shape)

ended_at : (t : Tree) (l : Log) (epoch now : ℤ) (items : List MetaRecord) (k : ℤ) → LogShape l → IsSettledBatch l epoch now items → Agreement t l → IsPastCommit l k → IsBatchEnd l k ⊎ (k ≡ end_of (with_batch l epoch now items)) → is_open (entries (with_batch l epoch now items).batches) k ≡ false
ended_at t l epoch now items k shape b old past (inl e) = open_at_old l epoch now items k shape e ∙ old.ended k e past
ended_at t l epoch now items k shape b old past (inr last) = ap (is_open (entries (with_batch l epoch now items).batches)) last ∙ b.closed

fits_at : (t : Tree) (l : Log) (epoch now : ℤ) (items : List MetaRecord) (k : ℤ) → LogShape l → IsSettledBatch l epoch now items → Agreement t l → IsBatchEnd l k ⊎ (k ≡ end_of (with_batch l epoch now items)) → excess (image_at (with_batch l epoch now items) k) ≡ None
fits_at t l epoch now items k shape b old (inl e) = ap excess (b.longer.image k (batch_end_within l k shape e)) ∙ old.fits k e
fits_at t l epoch now items k shape b old (inr last) = ap (λ (o : ℤ). excess (image_at (with_batch l epoch now items) o)) last ∙ b.fits

record_agrees : (t : Tree) (l : Log) (epoch now : ℤ) (items : List MetaRecord) (r : Recorded) → LogShape l → is_migrated_log l ≡ true → IsSettledBatch l epoch now items → RecordAgrees t l r → RecordAgrees t (with_batch l epoch now items) r
record_agrees t l epoch now items r shape migrated b old = record {
  least = old.least;
  first = λ is. let was = old.first is in (was.0, λ none. was.1 (sym b.commit ∙ none));
  end = λ low. b.longer.batch_end r.offset (old.end low);
  past = λ low. b.longer.past migrated r.offset (old.past low);
  same = λ low closed. old.same low closed ∙ ap render (sym (b.longer.image r.offset (batch_end_within l r.offset shape (old.end low))));
}

pub agrees_more : (t : Tree) (l : Log) (epoch now : ℤ) (items : List MetaRecord) → LogShape l → is_migrated_log l ≡ true → IsSettledBatch l epoch now items → Agreement t l → Agreement t (with_batch l epoch now items)
agrees_more t l epoch now items shape migrated b old = record {
  holds = old.holds;
  ended = λ k e past. ended_at t l epoch now items k shape b old (past_before l epoch now items k shape past) (old_or_end l epoch now items k e);
  fits = λ k e. fits_at t l epoch now items k shape b old (old_or_end l epoch now items k e);
  record_there = old.record_there;
  recorded = λ r found. record_agrees t l epoch now items r shape migrated b (old.recorded r found);
}
