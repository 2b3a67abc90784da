-- An answer tells of a failure exactly where its event failed.
use Rattle.std.proofs.Common.{◌≡◌, true, false, ◌||◌, List, [], ◌∷◌, Option, Some, None, refl, sym, ap, ◌∙◌}
use Rattle.std.specs.Prelude.{is_some}
use Rattle.std.specs.List.{list_any}
use Rattle.kz_types.specs.declared.fault.TreeFault.{TreeFault}
use Rattle.kz_types.specs.declared.fault.TreeFault.TheVariants as tree_fault
use Rattle.kz_types.specs.declared.fault.LogFault.{LogFault}
use Rattle.kz_types.specs.declared.fault.LogFault.TheVariants as log_fault
use Rattle.kz_types.specs.declared.machine.Reply.{Reply}
use Rattle.kz_types.specs.declared.machine.Reply.TheVariants as reply
use Rattle.kz_types.specs.declared.machine.Answer.{Answer}
use Rattle.kz_types.specs.declared.machine.Answer.TheVariants as answer
use Rattle.kz_spec_machine.specs.Failures.{is_tree_failure, is_log_failure, is_failed_step, is_failure}
use Rattle.kz_stream.specs.declared.failure.Failure.{Failure}
use Rattle.kz_stream.specs.Failures.{failure_of_tree, failure_of_log, failure_of_reply, first_failure, failure_of_replies, failure_of}

pub differ : false ≡ true → ⊥
differ is = cc

-- ---- there is a failure exactly where the answer tells of one

tree_tells : (f : TreeFault) → is_tree_failure f ≡ is_some (failure_of_tree f)
tree_tells (tree_fault.Refused index code) = refl
tree_tells (tree_fault.Limit index number) = refl
tree_tells tree_fault.NoMemory = refl
tree_tells tree_fault.Device = refl
tree_tells tree_fault.Down = refl
tree_tells (tree_fault.Full length) = refl

log_tells : (f : LogFault) → is_log_failure f ≡ is_some (failure_of_log f)
log_tells (log_fault.Stale epoch) = refl
log_tells log_fault.Failed = refl
log_tells (log_fault.Limit number) = refl
log_tells log_fault.NoMemory = refl
log_tells log_fault.Down = refl
log_tells (log_fault.Full length) = refl

reply_tells : (r : Reply) → is_failed_step r ≡ is_some (failure_of_reply r)
reply_tells (reply.TreeFailed f) = tree_tells f
reply_tells (reply.LogFailed f) = log_tells f
reply_tells r = refl

either_tells : (a b : Option Failure) → (is_some a || is_some b) ≡ is_some (first_failure a b)
either_tells (Some f) b = refl
either_tells None b = refl

replies_tell : (rs : List Reply) → list_any is_failed_step rs ≡ is_some (failure_of_replies rs)
replies_tell [] = refl
replies_tell (r ∷ rs) = rw (reply_tells r, replies_tell rs) (either_tells (failure_of_reply r) (failure_of_replies rs))

pub tells : (a : Answer) → is_failure a ≡ is_some (failure_of a)
tells (answer.TreeFailed f) = tree_tells f
tells (answer.LogFailed f) = log_tells f
tells (answer.Step r) = reply_tells r
tells (answer.Turn replies) = replies_tell replies
tells a = refl

-- ---- the same by the test and by the failure

some_of : {A : Type 0} (x : Option A) → is_some x ≡ true → (a : A) × (x ≡ Some a)
some_of (Some a) is = (a, refl)
some_of None is = absurd (differ is)

none_of : {A : Type 0} (x : Option A) → is_some x ≡ false → x ≡ None
none_of (Some a) is = absurd (differ (sym is))
none_of None is = refl

-- an answer that tells of a failure has one
pub fails : (a : Answer) → is_failure a ≡ true → (f : Failure) × (failure_of a ≡ Some f)
fails a is = some_of (failure_of a) (sym (tells a) ∙ is)

-- an answer that tells of none has none
pub works : (a : Answer) → is_failure a ≡ false → failure_of a ≡ None
works a is = none_of (failure_of a) (sym (tells a) ∙ is)

pub is_failed : (a : Answer) (f : Failure) → failure_of a ≡ Some f → is_failure a ≡ true
is_failed a f is = tells a ∙ ap is_some is

pub is_done : (a : Answer) → failure_of a ≡ None → is_failure a ≡ false
is_done a is = tells a ∙ ap is_some is

-- a reply that tells of no failure has none
pub reply_works : (r : Reply) → is_failed_step r ≡ false → failure_of_reply r ≡ None
reply_works r is = none_of (failure_of_reply r) (sym (reply_tells r) ∙ is)

pub replies_work : (rs : List Reply) → list_any is_failed_step rs ≡ false → failure_of_replies rs ≡ None
replies_work rs is = none_of (failure_of_replies rs) (sym (replies_tell rs) ∙ is)
