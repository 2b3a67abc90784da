use Rattle.kz_view_delta.proofs.read.view_beside.Goals as goal

pub returns : goal.returns
returns c = λ l is_log view beside feed. c.in_ok-made.ensures.made l is_log view feed
