-- What `replay` writes for its input, how it ends, and the world in which it ends.
use Rattle.std.specs.Prelude.{ℕ, ◌+◌, ◌==◌, Bool, ℤ, List, [], ◌∷◌, ◌++◌, length, Option, Some, None, option_map, if◌then◌else◌}
use Rattle.std.specs.List.{filter_map, list_any}
use Rattle.kz_types.specs.declared.limits.Limit.TheVariants as limits
use Rattle.kz_types.specs.Limits.{number_of_limit}
use Rattle.kz_types.specs.declared.limits.TheConstants.{MAX_INPUT_BYTES, MAX_LINE_BYTES, MAX_RECORDS}
use Rattle.kz_types.specs.declared.machine.Event.{Event}
use Rattle.kz_types.specs.declared.machine.Answer.{Answer}
use Rattle.kz_types.specs.declared.machine.Answer.TheVariants as answer
use Rattle.kz_types.specs.declared.machine.Reply.{Reply}
use Rattle.kz_types.specs.declared.machine.Reply.TheVariants as reply
use Rattle.kz_types.specs.declared.machine.Recorded.{Recorded}
use Rattle.kz_types.specs.declared.fault.LogFault.{LogFault}
use Rattle.kz_types.specs.declared.fault.TreeFault.{TreeFault}
use Rattle.kz_types.specs.declared.fault.TreeFault.TheVariants as tree_fault
use Rattle.kz_types.specs.declared.fault.LogFault.TheVariants as fault
use Rattle.kz_types.specs.declared.outside.Status.{Status}
use Rattle.kz_types.specs.declared.outside.Status.TheVariants as status
use Rattle.kz_spec_data.specs.Lines.{Item, line, long, much, items, is_passed_over}
use Rattle.kz_spec_data.specs.Events.{line_event}
use Rattle.kz_spec_data.specs.Replies.{reply_lines, summary_line}
use Rattle.kz_spec_data.specs.Tree.{Tree, migration_record}
use Rattle.kz_spec_data.specs.Log.{end_of}
use Rattle.kz_spec_machine.specs.Machine.{World, next}

-- A text, and how the run that writes it ends, and in which world.
pub record Outcome : Type 0 where
  pub text : List ℕ
  pub status : Status
  pub world : World

abbrev pub written_and_status : Outcome → List ℕ × Status
written_and_status o = (o.text, o.status)

-- what is written before the rest of a run
abbrev pub after : List ℕ → Outcome → Outcome
after text o = record o { text = text ++ o.text }

-- the end of a run that writes nothing more
abbrev pub end_of_run : World → Status → Outcome
end_of_run w s = record { text = []; status = s; world = w }

-- ---- places

-- Where a run stands between two lines: the lines and events read so far, the steps that drivers made, and the world.
pub record Place : Type 0 where
  pub lines : ℕ
  pub events : ℕ
  pub steps : ℕ
  pub world : World

-- the place before the first line, of a run that begins in this world
abbrev pub place_of : World → Place
place_of w = record { lines = 0; events = 0; steps = 0; world = w }

-- the place after a line that is passed over
abbrev pub place_after_line : Place → Place
place_after_line p = record p { lines = p.lines + 1 }

-- the steps that an event took
abbrev pub steps_of : Answer → ℕ
steps_of (answer.Turn replies) = length replies
steps_of (answer.Step r) = 1
steps_of a = 0

-- the place after a line that is this event
abbrev pub place_after_event : Place → Event → Place
place_after_event p e = record { lines = p.lines + 1; events = p.events + 1; steps = p.steps + steps_of (next p.world e).1; world = (next p.world e).0 }

-- the lines that are written for it
abbrev pub written_for : Place → Event → List ℕ
written_for p e = reply_lines (p.lines + 1) (next p.world e).1

-- ---- endings

-- the status of a limit of the log: on the records after its base, or on its offsets
abbrev pub limit_status : ℕ → Status
limit_status number = if number == number_of_limit limits.Records then status.Limit number MAX_RECORDS else status.Limit number 9223372036854775807

abbrev pub ending_of_fault : LogFault → Option Status
ending_of_fault (fault.Limit number) = Some (limit_status number)
ending_of_fault f = None

-- the status with which a step ends the run: stores in memory fail by a limit of the log alone
abbrev pub ending_of_reply : Reply → Option Status
ending_of_reply (reply.LogFailed f) = ending_of_fault f
ending_of_reply r = None

abbrev pub first_ending : List Status → Option Status
first_ending [] = None
first_ending (s ∷ ss) = Some s

-- a tree in memory refuses the operations of a rollback only where there is no further transaction, which is a limit
abbrev pub ending_of_tree_fault : TreeFault → Option Status
ending_of_tree_fault (tree_fault.Limit index number) = Some (limit_status number)
ending_of_tree_fault f = None

-- the status with which an event ends the run
abbrev pub ending : Answer → Option Status
ending (answer.Turn replies) = first_ending (filter_map ending_of_reply replies)
ending (answer.Step r) = ending_of_reply r
ending (answer.TreeFailed f) = ending_of_tree_fault f
ending a = None

-- ---- outcomes

abbrev pub unless_ended : Option Status → World → Outcome → Outcome
unless_ended (Some s) w rest = end_of_run w s
unless_ended None w rest = rest

-- an event's lines and what follows them, or the end of the run where the line is no event
abbrev pub on_event : Place → Option Event → (Place → Outcome) → Outcome
on_event p None go = end_of_run p.world (status.Script (p.lines + 1))
on_event p (Some e) go = after (written_for p e) (unless_ended (ending (next p.world e).1) (next p.world e).0 (go (place_after_event p e)))

abbrev pub recorded_offset : Tree → Option ℤ
recorded_offset t = option_map (λ (r : Recorded). r.offset) (migration_record t)

-- the last line of a run that reads its input to the end
abbrev pub summary : Place → List ℕ
summary p = summary_line p.events p.steps p.world.shared.tree.zxid (end_of p.world.shared.log) (recorded_offset p.world.shared.tree)

-- The outcome of these lines from a place on: each event's lines, up to the first line that is no event, or the event
-- that ends the run, or a limit; and the summary at the end of the input.
unfoldable pub outcome : Place → List Item → Outcome
outcome p [] = record { text = summary p; status = status.Done; world = p.world }
outcome p (long ∷ is) = end_of_run p.world (status.Limit (number_of_limit limits.LineBytes) MAX_LINE_BYTES)
outcome p (much ∷ is) = end_of_run p.world (status.Limit (number_of_limit limits.InputBytes) MAX_INPUT_BYTES)
outcome p (line l ∷ is) = if is_passed_over l then outcome (place_after_line p) is else on_event p (line_event l) (λ q. outcome q is)

-- ---- what is written while the input goes on

abbrev pub has_line_end : List ℕ → Bool
has_line_end bytes = list_any (λ b. b == 10) bytes

-- the bytes up to and with the last line feed
abbrev pub whole_lines : List ℕ → List ℕ
whole_lines [] = []
whole_lines (b ∷ bs) = if has_line_end (b ∷ bs) then b ∷ whole_lines bs else []

-- A text that is written, and the world after the lines that it answers.
pub record Progress : Type 0 where
  pub text : List ℕ
  pub world : World

abbrev pub progress_after : List ℕ → Progress → Progress
progress_after text q = record q { text = text ++ q.text }

-- nothing more is written
abbrev pub no_further : World → Progress
no_further w = record { text = []; world = w }

abbrev pub unless_over : Option Status → World → Progress → Progress
unless_over (Some s) w rest = no_further w
unless_over None w rest = rest

abbrev pub progress_on_event : Place → Option Event → (Place → Progress) → Progress
progress_on_event p None go = no_further p.world
progress_on_event p (Some e) go = progress_after (written_for p e) (unless_over (ending (next p.world e).1) (next p.world e).0 (go (place_after_event p e)))

-- the lines that are written for these items from a place on, without the summary
unfoldable pub progress_of : Place → List Item → Progress
progress_of p [] = no_further p.world
progress_of p (long ∷ is) = no_further p.world
progress_of p (much ∷ is) = no_further p.world
progress_of p (line l ∷ is) = if is_passed_over l then progress_of (place_after_line p) is else progress_on_event p (line_event l) (λ q. progress_of q is)

-- What a replay that began in this world has written once it has taken these bytes, and before it knows what follows: all lines
-- of the events whose lines have ended.
abbrev pub written_so_far : World → List ℕ → Progress
written_so_far w bytes = progress_of (place_of w) (items (whole_lines bytes))

-- What a replay that begins in this world makes of its input.
abbrev pub outcome_of_replay : World → List ℕ → Outcome
outcome_of_replay w bytes = outcome (place_of w) (items bytes)
