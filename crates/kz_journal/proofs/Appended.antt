-- What a file says in which a frame is appended.
use Rattle.std.proofs.Common.{◌≡◌, inl, ℕ, ◌+◌, ◌^◌, ◌<◌, Bool, true, false, List, ◌∷◌, ◌++◌, length, take, Option, Some, sym, ap, ◌∙◌, subst, arith}
use Rattle.std.specs.Prelude.{option_map}
use Rattle.kz_disk.specs.Disks.{NothingPends}
use Rattle.kz_spec_data.specs.Frames.{journal_of, open_gate, seal_mark, frame_written, journal_with_frame, LeftByAppend}
use Rattle.kz_laws_values.specs.Fronts.{sum_of}
use Rattle.kz_laws_values.proofs.Fronts.{Grows, frame_is_read}
use Rattle.kz_journal.specs.Appends.{with_open_gate, IsCutAppend, IsResting, IsAppended, after_gate, next_gate_of}
use Rattle.kz_journal.proofs.Crashes.{told_after}
use Rattle.kz_journal.proofs.Files.{resting_file, left_by_writing, says_done, front_done, rests_done, long_done, left_alone}

next_gate_is : (gate : ℕ) (summed : Bool) (payload : List ℕ) → next_gate_of gate summed payload ≡ gate + 1 + length (frame_written summed payload)
next_gate_is gate true payload = omega arith
next_gate_is gate false payload = omega arith

module _ (letter gate : ℕ) (summed : Bool) (file payload : List ℕ) (rest : IsResting letter gate summed file) (few : length payload < seal_mark) (fits : summed ≡ true → sum_of payload < 2 ^ 32) where
  grown : Grows letter (take gate file ++ open_gate ∷ frame_written summed payload) summed (journal_with_frame payload (journal_of letter file))
  grown =
      let read = frame_is_read letter (take gate file) payload summed rest.front few fits in
      record { front_is = read.0; is = read.1 ∙ ap (journal_with_frame payload) (sym (resting_file letter gate summed file rest)) }

  pub append_done : (old new : Option (List ℕ)) (piece : List ℕ) → piece ≡ after_gate summed payload → new ≡ option_map (with_open_gate gate piece) old → old ≡ Some file → IsAppended letter gate summed payload file new
  append_done old new piece same is told = record {
    new = with_open_gate gate (after_gate summed payload) file;
    is = told_after old new (with_open_gate gate piece) file is told ∙ ap (λ (b : List ℕ). Some (with_open_gate gate b file)) same;
    journal = says_done letter gate summed summed (frame_written summed payload) file (journal_with_frame payload (journal_of letter file)) rest grown;
    rests = rests_done letter gate summed summed (frame_written summed payload) file (journal_with_frame payload (journal_of letter file)) rest grown (next_gate_of gate summed payload) (next_gate_is gate summed payload);
    bytes = front_done letter gate summed summed (frame_written summed payload) file (journal_with_frame payload (journal_of letter file)) rest grown (next_gate_of gate summed payload) (next_gate_is gate summed payload);
    long = long_done letter gate summed summed (frame_written summed payload) file (journal_with_frame payload (journal_of letter file)) rest grown (next_gate_of gate summed payload) (next_gate_is gate summed payload);
  }

  pub append_cut : (piece left : List ℕ) → piece ≡ after_gate summed payload → IsCutAppend gate piece file left → LeftByAppend letter payload (journal_of letter file) left
  append_cut piece left same cut =
      left_by_writing letter gate summed summed (frame_written summed payload) file (journal_with_frame payload (journal_of letter file)) rest grown left
      (subst (λ (b : List ℕ). IsCutAppend gate b file left) same cut)

-- before any call, a stop leaves the file
pub untouched : (told : Option (List ℕ)) (leaves : List ℕ → Type 0) (letter : ℕ) (payload file left : List ℕ) → NothingPends told leaves → told ≡ Some file → leaves left → LeftByAppend letter payload (journal_of letter file) left
untouched told leaves letter payload file left none is now = inl (left_alone told leaves letter file left none is now)
