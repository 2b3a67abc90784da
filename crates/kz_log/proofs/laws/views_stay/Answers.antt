use Rattle.kz_log.proofs.Appended.{appended_is_view}
use Rattle.kz_log.proofs.Views.{new_is_view, feed_fits, append_leaves_views, elect_leaves_views, open_is_begun}
use Rattle.kz_log.proofs.laws.views_stay.Goals as goal

pub returns-clause-first : goal.returns-clause-first
returns-clause-first c = new_is_view

pub returns-clause-fits : goal.returns-clause-fits
returns-clause-fits c = feed_fits

pub returns-clause-append : goal.returns-clause-append
returns-clause-append c = append_leaves_views

pub returns-clause-elect : goal.returns-clause-elect
returns-clause-elect c = elect_leaves_views

pub returns-clause-open : goal.returns-clause-open
returns-clause-open c = open_is_begun

pub returns-clause-appended : goal.returns-clause-appended
returns-clause-appended c = appended_is_view
