-- What a debugger is answered about an execution, and what its session is then.
use Rattle.std.specs.Prelude.{◌≡◌, ℕ, ◌+◌, ◌-◌, ◌==◌, Bool, not, min, nat_le, false, if◌then◌else◌, List, [], ◌∷◌, ◌++◌, codes, filter, slice_get, slice_set, is_some, Option, Some, None}
use Rattle.hex.specs.Hex.{encode_lower}
use Rattle.hart_step.specs.declared.hart.Hart.{Hart}
use Rattle.execution_moments.specs.Looked.{Looked, bytes_shown}
use Rattle.execution_moments.specs.Shown.{hart_at}
use Rattle.gdb_packets.specs.Writing.{packet_text}
use Rattle.gdb_packets.specs.declared.request.Request.{Request}
use Rattle.gdb_packets.specs.declared.request.Request.TheVariants as requests
use Rattle.gdb_talk.specs.Stops.{Stopping, changed_by}
use Rattle.gdb_replies.specs.Description.{target_text}
use Rattle.gdb_replies.specs.Replies.{features_text, part_of, stop_text}
use Rattle.gdb_replies.specs.Words.{numbers_of, register_text, registers_text, thread_text, threads_text}
use Rattle.gdb_replies.specs.declared.registers.Registers.{Registers}
use Rattle.gdb_talk.specs.Told.{done_if, hart_of_thread, stop_reply_of}
use Rattle.execution_session.specs.declared.session.Standing.{Standing}
use Rattle.execution_session.specs.Sessions.{State, position_at}
use Rattle.execution_session.specs.Moving.{goes_back, goes_on, steps, steps_alone, steps_back}
use Rattle.execution_session.specs.Threads.{thread_list}

-- ---- texts

abbrev pub missing : List ℕ
missing = codes "E01"

abbrev pub done : List ℕ
done = codes "OK"

-- where the execution stands, and why
abbrev pub stop_answer : Standing → Option Hart → List ℕ
stop_answer t None = missing
stop_answer t (Some h) = stop_text (stop_reply_of t.reason t.told h)

abbrev pub stands_text : Looked → Standing → List ℕ
stands_text r t = stop_answer t (hart_at r.course t.point.time t.told)

-- registers: those of the hart, of which x0 reads 0, and where its next operation stands in the order
abbrev pub registers_of : Hart → ℕ → Registers
registers_of h position = record { x = slice_set h.x 0 0; pc = h.pc; round = position; place = h.done; phase = 0 }

abbrev pub number_text : Option ℕ → List ℕ
number_text None = missing
number_text (Some v) = register_text v

abbrev pub registers_said : Option ℕ → Registers → List ℕ
registers_said None r = registers_text r
registers_said (Some number) r = number_text (slice_get (numbers_of r) number)

abbrev pub registers_answer : Option ℕ → ℕ → Option Hart → List ℕ
registers_answer number position None = missing
registers_answer number position (Some h) = registers_said number (registers_of h position)

abbrev pub registers_at : Looked → Standing → Option ℕ → List ℕ
registers_at r t number = registers_answer number (position_at r t.point.time t.general) (hart_at r.course t.point.time t.general)

-- memory: as many bytes as there are, and 32,000 at most
abbrev pub bytes_answer : List ℕ → List ℕ
bytes_answer [] = missing
bytes_answer (b ∷ bs) = encode_lower (b ∷ bs)

abbrev pub memory_at : Looked → Standing → ℕ → ℕ → List ℕ
memory_at r t address count = bytes_answer (bytes_shown r t.point.time t.general address (min count 32000))

-- ---- requests that change nothing: those that aren't about the time, and those that are. Others are answered by nothing

abbrev pub fixed_text : Looked → Standing → Request → Option (List ℕ)
fixed_text r t requests.Features = Some (features_text false)
fixed_text r t (requests.Description offset count) = Some (part_of target_text offset count)
fixed_text r t requests.FirstThreads = Some (threads_text r.harts)
fixed_text r t requests.MoreThreads = Some (codes "l")
fixed_text r t requests.PresentThread = Some (codes "QC" ++ thread_text (t.general + 1))
fixed_text r t requests.Attached = Some (codes "1")
fixed_text r t requests.Change = Some (codes "E.the past of an execution cannot be changed")
fixed_text r t requests.Actions = Some (codes "vCont;c;C;s;S;r")
fixed_text r t requests.Detach = Some done
fixed_text r t request = None

abbrev pub moment_text : Looked → Standing → Request → List ℕ
moment_text r t requests.WhyStopped = stands_text r t
moment_text r t (requests.ThreadList offset count) = part_of (thread_list r t.point.time) offset count
moment_text r t (requests.IsAlive thread) = done_if (is_some (hart_of_thread r.harts thread))
moment_text r t requests.ReadRegisters = registers_at r t None
moment_text r t (requests.ReadRegister number) = registers_at r t (Some number)
moment_text r t (requests.ReadMemory address count) = memory_at r t address count
moment_text r t request = []

abbrev pub or_else : Option (List ℕ) → List ℕ → List ℕ
or_else None text = text
or_else (Some text) other = text

abbrev pub reply_at : Looked → Standing → Request → List ℕ
reply_at r t request = or_else (fixed_text r t request) (moment_text r t request)

-- ---- requests that resume the execution: where it stands then; none where there is no such thread

abbrev pub by_thread : (ℕ → Standing) → Option ℕ → Option Standing
by_thread to None = None
by_thread to (Some h) = Some (to h)

abbrev pub standing_after : Looked → State → Request → Option Standing
standing_after r s (requests.Step thread) = by_thread (steps r s) (hart_of_thread r.harts thread)
-- a step in a range ends behind its first step: gdb asks for the next one
standing_after r s (requests.StepIn thread low high) = by_thread (steps r s) (hart_of_thread r.harts thread)
standing_after r s (requests.StepAlone thread) = by_thread (steps_alone r s) (hart_of_thread r.harts thread)
standing_after r s requests.StepBack = Some (steps_back r s)
standing_after r s requests.ContinueBack = Some (goes_back r s)
standing_after r s request = Some (goes_on r s)

-- ---- each request: the reply, and the session then

pub record Answer : Type 0 where
  pub text : List ℕ
  pub state : State

abbrev pub says : State → List ℕ → Answer
says s text = record { text = text; state = s }

abbrev pub stands_by : Looked → State → Option Standing → Answer
stands_by r s None = says s missing
stands_by r s (Some t) = record { text = stands_text r t; state = record s { standing = t } }

abbrev pub resumed : Looked → State → Request → Answer
resumed r s request = stands_by r s (standing_after r s request)

abbrev pub general_by : State → Option ℕ → Answer
general_by s None = says s missing
general_by s (Some h) = record { text = done; state = record s { standing = record s.standing { general = h } } }

abbrev pub selects_general : Looked → State → Option ℕ → Answer
selects_general r s None = says s done
selects_general r s (Some thread) = general_by s (hart_of_thread r.harts thread)

abbrev pub moving_by : State → Option ℕ → Answer
moving_by s None = says s missing
moving_by s (Some h) = record { text = done; state = record s { standing = record s.standing { moving = Some h } } }

abbrev pub selects_moving : Looked → State → Option ℕ → Answer
selects_moving r s None = record { text = done; state = record s { standing = record s.standing { moving = None } } }
selects_moving r s (Some thread) = moving_by s (hart_of_thread r.harts thread)

-- a request that changes breakpoints or watchpoints, or nothing
abbrev pub changes_by : Looked → State → Request → Option Stopping → Answer
changes_by r s request None = says s (reply_at r s.standing request)
changes_by r s request (Some stops) = record { text = done; state = record s { stops = stops } }

abbrev pub answer_to : Looked → State → Request → Answer
answer_to r s (requests.SelectGeneral thread) = selects_general r s thread
answer_to r s (requests.SelectMoving thread) = selects_moving r s thread
answer_to r s requests.Continue = resumed r s requests.Continue
answer_to r s (requests.Step thread) = resumed r s (requests.Step thread)
answer_to r s (requests.StepIn thread low high) = resumed r s (requests.StepIn thread low high)
answer_to r s (requests.StepAlone thread) = resumed r s (requests.StepAlone thread)
answer_to r s requests.StepBack = resumed r s requests.StepBack
answer_to r s requests.ContinueBack = resumed r s requests.ContinueBack
answer_to r s request = changes_by r s request (changed_by s.stops request)

-- it is one packet
abbrev pub IsAnswer : Answer → List ℕ → State → Type 0
IsAnswer a written t = (written ≡ packet_text a.text) × (t ≡ a.state)

abbrev pub Answers : Looked → State → Request → List ℕ → State → Type 0
Answers r s request written t = IsAnswer (answer_to r s request) written t
