use Rattle.kz_laws_events.proofs.Writing.{write_leads}
use Rattle.kz_laws_events.proofs.Written.{write_keeps}
use Rattle.kz_laws_events.proofs.Recording.{recording_step}
use Rattle.kz_laws_events.proofs.Resting.{resting_step}
use Rattle.kz_laws_events.proofs.steps.writes_lead.Goals as goal

pub returns-clause-write : goal.returns-clause-write
returns-clause-write c = write_leads

pub returns-clause-recording : goal.returns-clause-recording
returns-clause-recording c = recording_step

pub returns-clause-keeps : goal.returns-clause-keeps
returns-clause-keeps c = write_keeps

pub returns-clause-resting : goal.returns-clause-resting
returns-clause-resting c = resting_step
