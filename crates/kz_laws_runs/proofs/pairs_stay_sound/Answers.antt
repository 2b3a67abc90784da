use Rattle.kz_laws_runs.proofs.Pairs.{empty_pair, run_leaves_pair, moments_sound}
use Rattle.kz_laws_runs.proofs.pairs_stay_sound.Goals as goal

pub returns-clause-empty : goal.returns-clause-empty
returns-clause-empty c = empty_pair

pub returns-clause-run : goal.returns-clause-run
returns-clause-run c = run_leaves_pair

pub returns-clause-moments : goal.returns-clause-moments
returns-clause-moments c = moments_sound
