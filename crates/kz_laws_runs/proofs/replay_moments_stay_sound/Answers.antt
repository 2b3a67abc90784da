use Rattle.kz_laws_runs.proofs.Moments.{replay_moments_are_pairs, replay_moments_sound}
use Rattle.kz_laws_runs.proofs.replay_moments_stay_sound.Goals as goal

pub returns-clause-pairs : goal.returns-clause-pairs
returns-clause-pairs c = replay_moments_are_pairs

pub returns-clause-sound : goal.returns-clause-sound
returns-clause-sound c = replay_moments_sound
