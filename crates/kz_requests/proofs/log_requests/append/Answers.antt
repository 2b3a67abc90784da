use Rattle.std.proofs.Common.{rules, ◌≡◌, w64, to_z, of_z, true, Ok}
use Rattle.std.specs.Prelude.{if◌then◌else◌}
use Rattle.kz_spec_data.specs.Log.{append, end_of}
use Rattle.kz_spec_machine.specs.Driver.{reaches}
use Rattle.kz_requests.specs.Appends.{log_after}
use Rattle.kz_requests.proofs.Answers.{views_after}
use Rattle.kz_requests.proofs.log_requests.append.Goals as goal

pub returns-in-Ok-clause-said : goal.returns-in-Ok-clause-said
returns-in-Ok-clause-said g c =
    let new = g.L.MetaLog.log c.append.new.self.inner in
    let made : append (g.L.MetaLog.log c.args.log.now.inner) c.args.epoch c.args.now c.args.items.now ≡ Ok new = search rules in
    let end : to_z w64 (of_z w64 c.in-Ok.end) ≡ end_of new = search rules in
    (new, made, end)

pub returns-in-Ok-clause-views : goal.returns-in-Ok-clause-views
returns-in-Ok-clause-views g c v is =
    let old = g.L.MetaLog.log c.args.log.now.inner in
    let new = g.L.MetaLog.log c.append.new.self.inner in
    let after : new ≡ (if reaches c.args.log.now.plan true then log_after (append old c.args.epoch c.args.now c.args.items.now) old else old) = search rules in
    views_after (reaches c.args.log.now.plan true) old new v c.args.epoch c.args.now c.args.items.now (g.met.L.MetaLog.is_log c.args.log.now.inner) after is

pub returns-in-Err-Lost-clause-views : goal.returns-in-Err-Lost-clause-views
returns-in-Err-Lost-clause-views g c v is =
    let old = g.L.MetaLog.log c.args.log.now.inner in
    let new = g.L.MetaLog.log c.append.new.self.inner in
    let after : new ≡ (if reaches c.args.log.now.plan true then log_after (append old c.args.epoch c.args.now c.args.items.now) old else old) = search rules in
    views_after (reaches c.args.log.now.plan true) old new v c.args.epoch c.args.now c.args.items.now (g.met.L.MetaLog.is_log c.args.log.now.inner) after is
