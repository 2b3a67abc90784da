-- What a stop leaves of the files that `init` makes.
use Rattle.std.proofs.Common.{◌≡◌, ◌⊎◌, inl, ℕ, ◌+◌, ◌<◌, ◌≤◌, ◌^◌, Bool, true, false, List, length, max, Option, Some, sym, ap, ◌∙◌, subst, arith}
use Rattle.std.proofs.lemmas.Bool.{le-leb, leb-true}
use Rattle.kz_types.specs.declared.outside.Status.{Status}
use Rattle.kz_disk.specs.Disks.{NothingPends, LeavesNoMore}
use Rattle.kz_spec_data.specs.Frames.{journal_of}
use Rattle.kz_spec_machine.specs.Init.{is_short}
use Rattle.kz_commands.specs.declared.making.Found.{Found}
use Rattle.kz_commands.specs.declared.making.Found.TheVariants as found
use Rattle.kz_commands.specs.Making.{IsFound, MakingLeaves}
use Rattle.kz_commands.specs.Stops.{LeavesByInit, StaysSettled}
use Rattle.kz_commands.proofs.Disks.{one_file, says}

-- ---- a disk that was only read

pub read_leaves : (letter : ℕ) (told : Option (List ℕ)) (leaves left : List ℕ → Type 0) → LeavesNoMore leaves left → LeavesByInit letter told leaves left
read_leaves letter told leaves left no_more = λ none file is few bytes may.
    let same : bytes ≡ file = one_file told file bytes is (none bytes (no_more bytes may)) in
    record { short = λ h. ap is_short same ∙ h; kept = λ _. ap (journal_of letter) same }

pub read_settled : (told now : Option (List ℕ)) (leaves left : List ℕ → Type 0) → now ≡ told → LeavesNoMore leaves left → StaysSettled told leaves now left
read_settled told now leaves left same no_more = λ none bytes may. same ∙ none bytes (no_more bytes may)

pub after_read : (letter : ℕ) (told now : Option (List ℕ)) (leaves mid left : List ℕ → Type 0) → now ≡ told → LeavesNoMore leaves mid → LeavesByInit letter now mid left → LeavesByInit letter told leaves left
after_read letter told now leaves mid left same no_more further = λ none file is few bytes may. further (read_settled told now leaves mid same no_more none) file (same ∙ is) few bytes may

-- ---- a longer file, which is opened

pub opened_leaves : (letter : ℕ) (before now : Option (List ℕ)) (leaves left : List ℕ → Type 0) → ((file : List ℕ) → before ≡ Some file → is_short file ≡ false)
    → ((file : List ℕ) → before ≡ Some file → (s : List ℕ) × (now ≡ Some s) × (journal_of letter s ≡ journal_of letter file)) → NothingPends now left → LeavesByInit letter before leaves left
opened_leaves letter before now leaves left long same settled = λ none file is few bytes may. record {
  short = λ h. absurd (cc (h, long file is));
  kept = λ _. says letter file bytes now (same file is) (settled bytes may);
}

pub unopened_leaves : (letter : ℕ) (before : Option (List ℕ)) (leaves left : List ℕ → Type 0) (syncs syncs_now : ℕ) → ((file : List ℕ) → before ≡ Some file → is_short file ≡ false)
    → ((NothingPends before leaves ⊎ (syncs < syncs_now)) → (file : List ℕ) → before ≡ Some file → length file < 2 ^ 32 → (bytes : List ℕ) → left bytes → journal_of letter bytes ≡ journal_of letter file) → LeavesByInit letter before leaves left
unopened_leaves letter before leaves left syncs syncs_now long stop = λ none file is few bytes may. record {
  short = λ h. absurd (cc (h, long file is));
  kept = λ _. stop (inl none) file is few bytes may;
}

-- ---- a file that is made

short_after : (bytes was : List ℕ) → length was ≤ 17 → length bytes ≤ max (length was) (0 + 17) → is_short bytes ≡ true
short_after bytes was short no_longer = le-leb (length bytes) 17 (grind (arith, short, no_longer))

pub made_leaves : (letter : ℕ) (refusal : List ℕ → Option Status) (has : List ℕ → Bool) (P : List ℕ → Type 0) (told mid_told : Option (List ℕ)) (leaves mid left : List ℕ → Type 0) (f : Found)
    → StaysSettled told leaves mid_told mid → LeavesByInit letter told leaves mid → ((file new : List ℕ) → told ≡ Some file → mid_told ≡ Some new → IsFound letter refusal has P file new f)
    → MakingLeaves f mid left → LeavesByInit letter told leaves left
made_leaves letter refusal has P told mid_told leaves mid left found.Unmade settled before is making = λ none file told_file few bytes may.
    let torn = making bytes may in
    let h = is file torn.0 told_file (settled none torn.0 torn.1) in
    let same : torn.0 ≡ file = h.2.left h.3 in
    let short : length torn.0 ≤ 17 = subst (λ (b : List ℕ). length b ≤ 17) (sym same) (leb-true (length file) 17 h.3) in
    record { short = λ _. short_after bytes torn.0 short torn.2.no_longer; kept = λ long. absurd (cc (h.3, long)) }
made_leaves letter refusal has P told mid_told leaves mid left found.Empty settled before is making = λ none file told_file few bytes may. before none file told_file few bytes (making bytes may)
made_leaves letter refusal has P told mid_told leaves mid left found.Taken settled before is making = λ none file told_file few bytes may. before none file told_file few bytes (making bytes may)
