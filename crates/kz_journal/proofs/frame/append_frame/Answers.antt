use Rattle.std.proofs.Common.{◌∙◌, ◌<◌, length, arith}
use Rattle.kz_disk.proofs.Moments.{started, weaker}
use Rattle.kz_spec_data.specs.Frames.{journal_of, LeftByAppend}
use Rattle.kz_journal.specs.Appends.{IsCutAppend}
use Rattle.kz_journal.proofs.Appended.{append_done, append_cut, untouched}
use Rattle.kz_journal.proofs.frame.append_frame.Goals as goal

pub write_after-requires-clause-fits : goal.write_after-requires-clause-fits
write_after-requires-clause-fits g c = omega arith

pub returns-in_default-clause-any_moment : goal.returns-in_default-clause-any_moment
returns-in_default-clause-any_moment g c = λ letter file told rest.
    started g.D.Disk.moment g.D.Disk.left_since c.args.disk.now (LeftByAppend letter c.args.payload.now (journal_of letter file))
    (λ left since. untouched (g.D.Disk.told c.args.disk.now) (g.D.Disk.may_leave c.args.disk.now) letter c.args.payload.now file left c.requires.settled told (g.met.D.Disk.only_now c.args.disk.now left since))

pub returns-in-Ok-write_after-clause-any_moment : goal.returns-in-Ok-write_after-clause-any_moment
returns-in-Ok-write_after-clause-any_moment g c = λ letter file told rest.
    let few : length c.args.payload.now < 4294967295 = omega arith in
    weaker g.D.Disk.moment g.D.Disk.left_since _ _ (IsCutAppend c.args.gate c.deref.result.now file) (LeftByAppend letter c.args.payload.now (journal_of letter file)) (c.write_after.ensures.any_moment file told)
    (λ left cut. append_cut letter c.args.gate c.args.summed file c.args.payload.now rest few c.in-Ok.ensures.sum c.deref.result.now left (c.deref.ensures.value ∙ c.in-Ok.ensures.bytes) cut)

pub returns-clause-any_moment : goal.returns-clause-any_moment
returns-clause-any_moment g c = λ letter file told rest.
    let few : length c.args.payload.now < 4294967295 = omega arith in
    weaker g.D.Disk.moment g.D.Disk.left_since _ _ (IsCutAppend c.args.gate c.deref.result.now file) (LeftByAppend letter c.args.payload.now (journal_of letter file)) (c.write_after.ensures.any_moment file told)
    (λ left cut. append_cut letter c.args.gate c.args.summed file c.args.payload.now rest few c.in-Ok.ensures.sum c.deref.result.now left (c.deref.ensures.value ∙ c.in-Ok.ensures.bytes) cut)

pub returns-in-Ok-write_after-clause-appended : goal.returns-in-Ok-write_after-clause-appended
returns-in-Ok-write_after-clause-appended g c = λ letter file told rest.
    let few : length c.args.payload.now < 4294967295 = omega arith in
    append_done letter c.args.gate c.args.summed file c.args.payload.now rest few c.in-Ok.ensures.sum (g.D.Disk.told c.args.disk.now) _ c.deref.result.now (c.deref.ensures.value ∙ c.in-Ok.ensures.bytes) c.in-Ok-write_after.ensures.written told
