use Rattle.std.proofs.Common.{◌≡◌, map, take, vec_len}
use Rattle.kz_paths.proofs.paths.paths.Given as goal

abbrev pub invariant-loop-text : goal.invariant-loop-text
invariant-loop-text l = record {
  paths : l.paths.items ≡ map (λ t. t.now) (take l.text-index l.texts);
  count : vec_len l.paths ≡ l.text-index;
}
