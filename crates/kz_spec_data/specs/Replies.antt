-- The lines that are printed: the replies to events, and the summary at the end.
use Rattle.std.specs.Prelude.{ℕ, Bool, true, false, ℤ, List, [], ◌++◌, length, Option, Some, None, option_map, codes, decimal}
use Rattle.std.specs.Fmt.{signed_decimal}
use Rattle.std.specs.List.{flat_map}
use Rattle.json.specs.Print.{quoted}
use Rattle.kz_types.specs.declared.machine.DriverState.{DriverState}
use Rattle.kz_types.specs.declared.machine.DriverState.TheVariants as state
use Rattle.kz_types.specs.declared.fault.BodyFault.{BodyFault}
use Rattle.kz_types.specs.declared.fault.BodyFault.TheVariants as fault
use Rattle.kz_types.specs.declared.fault.ReadWhy.{ReadWhy}
use Rattle.kz_types.specs.declared.fault.ReadWhy.TheVariants as why
use Rattle.kz_types.specs.declared.machine.Reply.{Reply}
use Rattle.kz_types.specs.declared.machine.Reply.TheVariants as reply
use Rattle.kz_types.specs.declared.machine.Verdict.{Verdict}
use Rattle.kz_types.specs.declared.machine.Verdict.TheVariants as verdict
use Rattle.kz_types.specs.declared.machine.Answer.{Answer}
use Rattle.kz_types.specs.declared.machine.Answer.TheVariants as answer

-- a word, a space and a number
abbrev pub word_and_count : List ℕ → ℕ → List ℕ
word_and_count word n = word ++ (codes " " ++ decimal n)

-- a word, a space and a signed number
abbrev pub word_and_number : List ℕ → ℤ → List ℕ
word_and_number word n = word ++ (codes " " ++ signed_decimal n)

-- a word, a space and a text as a JSON string
abbrev pub word_and_text : List ℕ → List ℕ → List ℕ
word_and_text word text = word ++ (codes " " ++ quoted text)

-- the name of a driver's state
abbrev pub state_name : DriverState → List ℕ
state_name state.Uninitialized = codes "UNINITIALIZED"
state_name state.Inactive = codes "INACTIVE"
state_name state.WaitForControllerQuorum = codes "WAIT_FOR_CONTROLLER_QUORUM"
state_name state.WaitForBrokers = codes "WAIT_FOR_BROKERS"
state_name state.BecomeController = codes "BECOME_CONTROLLER"
state_name state.ZkMigration = codes "ZK_MIGRATION"
state_name state.SyncKraftToZk = codes "SYNC_KRAFT_TO_ZK"
state_name state.KraftControllerToBrokerComm = codes "KRAFT_CONTROLLER_TO_BROKER_COMM"
state_name state.DualWrite = codes "DUAL_WRITE"

-- why a body can't be read; running out of memory is no reason
abbrev pub body_text : BodyFault → Option (List ℕ)
body_text fault.NotJson = Some (codes "not-json")
body_text (fault.Missing field) = Some (word_and_text (codes "missing") field)
body_text (fault.BadField field) = Some (word_and_text (codes "bad-field") field)
body_text fault.NoTopicId = Some (codes "no-topic-id")
body_text (fault.UnknownKey name) = Some (word_and_text (codes "unknown-key") name)
body_text fault.NoMemory = None

-- why a path can't be translated
abbrev pub why_text : ReadWhy → Option (List ℕ)
why_text why.Stray = Some (codes "stray")
why_text (why.Body f) = body_text f
why_text why.SameId = Some (codes "same-id")
why_text (why.Over number) = Some (word_and_count (codes "over") number)

-- what a step of a driver prints; a store that fails and running out of memory print nothing, and end the run
abbrev pub reply_text : Reply → Option (List ℕ)
reply_text reply.Idle = Some (codes "idle")
reply_text (reply.WaitQuorum id) = Some (word_and_number (codes "wait-quorum") id)
reply_text (reply.WaitBroker id) = Some (word_and_number (codes "wait-broker") id)
reply_text (reply.Moved s) = Some (codes "moved " ++ state_name s)
reply_text reply.Looked = Some (codes "looked")
reply_text (reply.Claimed zk_epoch) = Some (word_and_number (codes "claimed") zk_epoch)
reply_text (reply.Read rows) = Some (word_and_count (codes "read") rows)
reply_text (reply.Appended offset) = Some (word_and_number (codes "appended") offset)
reply_text (reply.Wrote ops) = Some (word_and_count (codes "wrote") ops)
reply_text (reply.Recorded offset) = Some (word_and_number (codes "recorded") offset)
reply_text (reply.FencedEpoch epoch) = Some (word_and_number (codes "fenced-epoch") epoch)
reply_text (reply.FencedWrite claim) = Some (word_and_number (codes "fenced-write") claim)
reply_text (reply.Stale epoch) = Some (word_and_number (codes "stale") epoch)
reply_text (reply.Untranslatable path w) = option_map (λ text. word_and_text (codes "untranslatable") path ++ (codes " " ++ text)) (why_text w)
reply_text (reply.Limit path) = Some (word_and_text (codes "limit") path)
reply_text reply.Lost = Some (codes "lost")
reply_text reply.Expired = Some (codes "expired")
reply_text (reply.TreeFailed f) = None
reply_text (reply.LogFailed f) = None
reply_text reply.NoMemory = None

-- how the tree and the log agree; `ahead` has the offset, and the number of paths that differ from it
abbrev pub verdict_text : Verdict → List ℕ
verdict_text verdict.Unmigrated = codes "unmigrated"
verdict_text verdict.Unrecorded = codes "unrecorded"
verdict_text (verdict.Closed offset) = word_and_number (codes "closed") offset
verdict_text (verdict.Ahead offset paths) = word_and_number (codes "ahead") offset ++ (codes " " ++ decimal (length paths))
verdict_text (verdict.Disagrees path) = word_and_text (codes "disagrees") path

-- an answer of a session or of a multi of a ZooKeeper client
abbrev pub is_client_answer : Answer → Bool
is_client_answer answer.Known = true
is_client_answer answer.Unknown = true
is_client_answer (answer.Reserved path) = true
is_client_answer (answer.KraftHolds path) = true
is_client_answer (answer.Refused index code) = true
is_client_answer (answer.OverOp index number) = true
is_client_answer a = false

-- two numbers after a word
abbrev pub numbers : List ℕ → ℤ → ℤ → List ℕ
numbers word a b = word_and_number word a ++ (codes " " ++ signed_decimal b)

-- an index and a number after a word
abbrev pub word_and_place : List ℕ → ℕ → List ℕ → List ℕ
word_and_place word index rest = word_and_count word index ++ (codes " " ++ rest)

-- what an event prints, where it prints one line; a turn prints a line for each step, and a store that fails and want of
-- memory end the run
abbrev pub answer_text : Answer → Option (List ℕ)
answer_text answer.Done = Some (codes "done")
answer_text (answer.DoneAt zxid) = Some (word_and_number (codes "done") zxid)
answer_text (answer.Elected epoch offset) = Some (numbers (codes "elected") epoch offset)
answer_text (answer.Step r) = reply_text r
answer_text (answer.Turn replies) = None
answer_text (answer.Appended offset) = Some (word_and_number (codes "appended") offset)
answer_text answer.RolledBack = Some (codes "rolled-back")
answer_text (answer.Check v) = Some (verdict_text v)
answer_text (answer.Running id) = Some (word_and_number (codes "running") id)
answer_text answer.UnknownController = Some (codes "unknown-controller")
answer_text answer.AlreadyRunning = Some (codes "already-running")
answer_text answer.NotRunning = Some (codes "not-running")
answer_text answer.NotLeader = Some (codes "not-leader")
answer_text (answer.Stale epoch) = Some (word_and_number (codes "stale") epoch)
answer_text (answer.InTransaction offset) = Some (word_and_number (codes "in-transaction") offset)
answer_text answer.NotMigrated = Some (codes "not-migrated")
answer_text answer.Finalised = Some (codes "finalised")
answer_text (answer.NotDualWrite s) = Some (codes "not-dual-write " ++ state_name s)
answer_text (answer.Unclosed path) = Some (word_and_text (codes "unclosed") path)
answer_text (answer.Behind recorded end) = Some (numbers (codes "behind") recorded end)
answer_text answer.TooEarly = Some (codes "too-early")
answer_text (answer.BadRecord index why) = Some (word_and_place (codes "bad-record") index (decimal why))
answer_text (answer.Over number) = Some (word_and_count (codes "over") number)
answer_text answer.Known = Some (codes "known")
answer_text answer.Unknown = Some (codes "unknown")
answer_text (answer.Reserved path) = Some (word_and_text (codes "reserved") path)
answer_text (answer.KraftHolds path) = Some (word_and_text (codes "kraft-holds") path)
answer_text (answer.Refused index code) = Some (word_and_place (codes "refused") index (signed_decimal code))
answer_text (answer.OverOp index number) = Some (word_and_place (codes "over-op") index (decimal number))
answer_text (answer.TreeFailed f) = None
answer_text (answer.LogFailed f) = None
answer_text answer.NoMemory = None

-- a reply line: the number of the input line, a space, a text, a line feed; or nothing, where there is no text
abbrev pub reply_line : ℕ → Option (List ℕ) → List ℕ
reply_line line None = []
reply_line line (Some text) = decimal line ++ (codes " " ++ (text ++ codes "\n"))

-- the lines that an answer to the event of an input line prints
unfoldable pub reply_lines : ℕ → Answer → List ℕ
reply_lines line (answer.Turn replies) = flat_map (λ r. reply_line line (reply_text r)) replies
reply_lines line a = reply_line line (answer_text a)

-- an offset, or `none`
abbrev pub offset_or_none : Option ℤ → List ℕ
offset_or_none None = codes "none"
offset_or_none (Some offset) = signed_decimal offset

-- The last line of a run: the events that were read, the steps that drivers made, the last transaction of the tree, the
-- end of the log, and the offset that the tree records, if it records one.
unfoldable pub summary_line : ℕ → ℕ → ℤ → ℤ → Option ℤ → List ℕ
summary_line events steps zxid offset recorded =
    codes "end events=" ++ (decimal events
    ++ (codes " steps=" ++ (decimal steps
    ++ (codes " zxid=" ++ (signed_decimal zxid
    ++ (codes " offset=" ++ (signed_decimal offset
    ++ (codes " recorded=" ++ (offset_or_none recorded ++ codes "\n")))))))))
