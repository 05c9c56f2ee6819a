-- What a debugger is answered, and what its session is then.
use Rattle.std.specs.Prelude.{◌≡◌, ℕ, ◌+◌, ◌-◌, ◌==◌, ◌&&◌, ◌||◌, not, nat_le, nat_lt, if◌then◌else◌, Bool, true, false, List, [], ◌∷◌, ◌++◌, filter, codes, is_some, Option, Some, None}
use Rattle.watching.specs.declared.watchpoint.Way.TheVariants.{On, Back}
use Rattle.gdb_packets.specs.Writing.{packet_text}
use Rattle.hex.specs.Hex.{encode_lower}
use Rattle.machine.specs.Machine.{after_rounds}
use Rattle.gdb_packets.specs.Files.{image_name}
use Rattle.gdb_packets.specs.declared.command.Command.{Command}
use Rattle.gdb_packets.specs.declared.command.Command.TheVariants as commands
use Rattle.gdb_packets.specs.declared.request.Request.{Request}
use Rattle.gdb_packets.specs.declared.request.Request.TheVariants as requests
use Rattle.gdb_talk.specs.Stops.{Stopping, changed_by}
use Rattle.gdb_talk.specs.Told.{done_if, hart_of_thread}
use Rattle.gdb_replies.specs.Description.{target_text}
use Rattle.gdb_replies.specs.CommandTexts.{ahead_text, behind_text, elsewhere_text, harts_text, help_text, here_text, hits_text, rounds_text}
use Rattle.gdb_replies.specs.Replies.{features_text, part_of, payload_of}
use Rattle.gdb_replies.specs.Words.{thread_text, threads_text}
use Rattle.gdb_replies.specs.declared.reply.Reply.TheVariants as replies
use Rattle.gdb_replies.specs.declared.stop_reply.Reason.{Reason}
use Rattle.gdb_replies.specs.declared.stop_reply.Reason.TheVariants as reasons
use Rattle.gdb_answers.specs.Answers.{checksum_answer, memory_answer, note_answer, note_at, register_answer, registers_answer, thread_list_answer}
use Rattle.gdb_events.specs.Stops.{stop_answer}
use Rattle.timelines.specs.Shown.{seen}
use Rattle.gdb_events.specs.Buffers.{buffer_answer}
use Rattle.gdb_answers.specs.Commands.{harts_answer, plan_answer, where_answer}
use Rattle.gdb_events.specs.Output.{output_answer}
use Rattle.gdb_events.specs.Events.{event_answer, event_packet}
use Rattle.gdb_answers.specs.Files.{file_answer}
use Rattle.gdb_events.specs.Reserved.{reservations_answer}
use Rattle.past_harts.specs.declared.point.Point.{Point}
use Rattle.past_harts.specs.Moments.{is_before}
use Rattle.past_harts.specs.Points.{same_moment}
use Rattle.gdb_resumes.specs.declared.goals.Goal.{Goal}
use Rattle.gdb_resumes.specs.declared.goals.Goal.TheVariants as goals
use Rattle.gdb_runs.specs.declared.session.Standing.{Standing}
use Rattle.gdb_resumes.specs.Goals.{IsPlaceOf, goal_at_round}
use Rattle.gdb_runs.specs.Sessions.{Recorded, State}
use Rattle.gdb_resumes.specs.Resumes.{Continues}
use Rattle.gdb_steps.specs.Steps.{Steps, StepsAlone, StepsBack, StepsIn}

-- ---- requests that change nothing

abbrev pub stands_text : Recorded → Standing → List ℕ
stands_text r t = stop_answer t.reason t.told (seen r.run t.point t.told)

abbrev pub note_text_of : Recorded → Standing → Option ℕ → List ℕ
note_text_of r t None = codes "E01"
note_text_of r t (Some hart) = note_answer (note_at r.run t.point hart)

-- the name of the image, where it is handed
abbrev pub name_answer : Option (List ℕ) → ℕ → ℕ → List ℕ
name_answer None offset count = []
name_answer (Some image) offset count = part_of image_name offset count

-- what isn't about the moment
abbrev pub fixed_text : ℕ → Option (List ℕ) → Standing → Request → Option (List ℕ)
fixed_text harts image t requests.Features = Some (features_text (is_some image))
fixed_text harts image t (requests.Description offset count) = Some (part_of target_text offset count)
fixed_text harts image t requests.FirstThreads = Some (threads_text harts)
fixed_text harts image t requests.MoreThreads = Some (codes "l")
fixed_text harts image t requests.PresentThread = Some (codes "QC" ++ thread_text (t.general + 1))
fixed_text harts image t requests.Attached = Some (codes "1")
fixed_text harts image t requests.Change = Some (payload_of replies.PastStands)
fixed_text harts image t requests.Actions = Some (codes "vCont;c;C;s;S;r")
fixed_text harts image t requests.Detach = Some (codes "OK")
fixed_text harts image t requests.Unknown = Some []
fixed_text harts image t (requests.ImageName offset count) = Some (name_answer image offset count)
fixed_text harts image t (requests.File request) = Some (file_answer image request)
fixed_text harts image t request = None

-- what a command of the user's says
abbrev pub command_text : Recorded → Standing → Command → List ℕ
command_text r t commands.Where = where_answer t.point.moment (seen r.run t.point t.point.moment.place.hart)
command_text r t commands.Harts = harts_answer r.run t.point r.harts
command_text r t commands.Buffer = buffer_answer r.run t.point t.general (seen r.run t.point t.general)
command_text r t commands.Event = event_answer r.rounds r.run t.point (seen r.run t.point t.point.moment.place.hart)
command_text r t commands.Reservations = reservations_answer r.run t.point r.harts (seen r.run t.point t.point.moment.place.hart)
command_text r t commands.Plan = plan_answer r.run.plan (t.point.moment.rounds + 1)
command_text r t commands.Output = output_answer (after_rounds t.point.moment.rounds r.run).state.console.output
command_text r t commands.Help = encode_lower help_text
command_text r t command = encode_lower (codes "no such command: monitor help\n")

-- the others change the session: they say where the next run is to stop
abbrev pub is_goto : Command → Bool
is_goto (commands.GotoRound round) = true
is_goto (commands.GotoPlace round hart place) = true
is_goto commands.GotoEnd = true
is_goto command = false

-- or whether stops at watchpoints tell the access
abbrev pub is_hits : Command → Bool
is_hits commands.HitsOn = true
is_hits commands.HitsOff = true
is_hits command = false

abbrev pub is_setting : Command → Bool
is_setting command = is_goto command || is_hits command

-- what is
abbrev pub text_at : Recorded → Standing → Request → Option (List ℕ)
text_at r t requests.WhyStopped = Some (stands_text r t)
text_at r t (requests.ThreadList offset count) = Some (thread_list_answer r.run t.point r.harts offset count)
text_at r t (requests.Note thread) = Some (note_text_of r t (hart_of_thread r.harts thread))
text_at r t (requests.IsAlive thread) = Some (done_if (is_some (hart_of_thread r.harts thread)))
text_at r t requests.ReadRegisters = Some (registers_answer t.point.moment (seen r.run t.point t.general))
text_at r t (requests.ReadRegister number) = Some (register_answer number t.point.moment (seen r.run t.point t.general))
text_at r t (requests.ReadMemory address count) = Some (memory_answer address count (seen r.run t.point t.general))
text_at r t (requests.Checksum address count) = Some (checksum_answer address count (seen r.run t.point t.general))
text_at r t (requests.Command command) = if is_setting command then None else Some (command_text r t command)
text_at r t request = None

abbrev pub or_else : Option (List ℕ) → Option (List ℕ) → Option (List ℕ)
or_else None y = y
or_else (Some x) y = Some x

abbrev pub reply_at : Recorded → Standing → Request → Option (List ℕ)
reply_at r t request = or_else (fixed_text r.harts r.image t request) (text_at r t request)

-- this is the reply to such a request
pub record Replied (r : Recorded) (t : Standing) (request : Request) (written : List ℕ) : Type 0 where
  pub said : List ℕ
  pub is : reply_at r t request ≡ Some said
  pub wrote : written ≡ packet_text said

-- ---- requests that change the session

-- this is said, in one packet, and so the session is then
abbrev pub Says : List ℕ → State → List ℕ → State → Type 0
Says said s written t = (written ≡ packet_text said) × (t ≡ s)

-- it is selected of which hart registers and memory are asked
abbrev pub selects_general : State → Option ℕ → State
selects_general s None = s
selects_general s (Some hart) = record s { standing = record s.standing { general = hart } }

abbrev pub SelectsGeneral : Recorded → State → Option ℕ → List ℕ → State → Type 0
SelectsGeneral r s None written t = Says (codes "OK") s written t
SelectsGeneral r s (Some thread) written t =
    let hart = hart_of_thread r.harts thread in
    Says (done_if (is_some hart)) (selects_general s hart) written t

-- and which hart is to step back alone
abbrev pub moves_alone : State → Option ℕ → State
moves_alone s hart = record s { standing = record s.standing { moving = hart } }

abbrev pub SelectsMoving : State → Option ℕ → List ℕ → State → Type 0
SelectsMoving s None written t = Says (codes "E01") s written t
SelectsMoving s (Some hart) written t = Says (codes "OK") (moves_alone s (Some hart)) written t

abbrev pub SelectsMovingBy : Recorded → State → Option ℕ → List ℕ → State → Type 0
SelectsMovingBy r s None written t = Says (codes "OK") (moves_alone s None) written t
SelectsMovingBy r s (Some thread) written t = SelectsMoving s (hart_of_thread r.harts thread) written t

-- where the next run that goes on or back is to stop once; it can't where there is no such moment
abbrev pub IsGoal : Recorded → Command → Goal → Type 0
IsGoal r (commands.GotoRound round) goal = goal ≡ goal_at_round r.rounds round
IsGoal r (commands.GotoPlace round hart place) goal = IsPlaceOf r round hart place goal
IsGoal r commands.GotoEnd goal = goal ≡ goals.End
IsGoal r command goal = ⊥

abbrev pub side_text : Bool → Bool → List ℕ
side_text is_here is_ahead = if is_here then here_text else (if is_ahead then ahead_text else behind_text)

abbrev pub goal_text : Recorded → Standing → Goal → List ℕ
goal_text r t (goals.At at) = side_text (same_moment t.point.moment at.moment) (is_before t.point.moment at.moment)
goal_text r t goals.End = side_text (nat_le r.rounds t.point.moment.rounds) true
goal_text r t goals.NoRound = rounds_text r.rounds
goal_text r t goals.NoHart = harts_text r.harts
goal_text r t goals.NoPlace = elsewhere_text

-- behind the last round a run stops by itself
abbrev pub goal_then : Standing → Goal → Option Point
goal_then t (goals.At at) = if same_moment t.point.moment at.moment then None else Some at
goal_then t goals.End = None
goal_then t goals.NoRound = t.goal
goal_then t goals.NoHart = t.goal
goal_then t goals.NoPlace = t.goal

abbrev pub with_goal : State → Option Point → State
with_goal s goal = record s { standing = record s.standing { goal = goal } }

pub record GoesTo (r : Recorded) (s : State) (command : Command) (written : List ℕ) (t : State) : Type 0 where
  pub goal : Goal
  pub is : IsGoal r command goal
  pub says : Says (encode_lower (goal_text r s.standing goal)) (with_goal s (goal_then s.standing goal)) written t

abbrev pub with_hits : State → Bool → State
with_hits s on = record s { standing = record s.standing { hits = on } }

abbrev pub Sets : Recorded → State → Command → List ℕ → State → Type 0
Sets r s commands.HitsOn written t = Says (encode_lower (hits_text true)) (with_hits s true) written t
Sets r s commands.HitsOff written t = Says (encode_lower (hits_text false)) (with_hits s false) written t
Sets r s command written t = GoesTo r s command written t

-- the run is resumed: where it stands then; none where there is no such thread
abbrev pub MovesTo : (Standing → Type 0) → Option Standing → Type 0
MovesTo To None = ⊥
MovesTo To (Some t) = To t

abbrev pub MovesBy : (ℕ → Standing → Type 0) → Option ℕ → Option Standing → Type 0
MovesBy To None x = x ≡ None
MovesBy To (Some hart) x = MovesTo (To hart) x

abbrev pub Moves : Recorded → State → Request → Option Standing → Type 0
Moves r s requests.Continue x = MovesTo (Continues r s On) x
Moves r s (requests.Step thread) x = MovesBy (Steps r s) (hart_of_thread r.harts thread) x
Moves r s (requests.StepIn low high thread) x = MovesBy (λ hart. StepsIn r low high hart s) (hart_of_thread r.harts thread) x
Moves r s (requests.StepAlone thread) x = MovesBy (StepsAlone r s) (hart_of_thread r.harts thread) x
Moves r s requests.StepBack x = MovesTo (StepsBack r s) x
Moves r s requests.ContinueBack x = MovesTo (Continues r s Back) x
Moves r s request x = ⊥

-- at a watchpoint the access is told on the debugger's terminal, if that was asked for
abbrev pub is_hit : Reason → Bool
is_hit (reasons.Watch address) = true
is_hit (reasons.ReadWatch address) = true
is_hit (reasons.AccessWatch address) = true
is_hit reason = false

abbrev pub hit_packet : Recorded → Standing → List ℕ
hit_packet r t = if t.hits && is_hit t.reason then event_packet r.rounds r.run t.point (seen r.run t.point t.point.moment.place.hart) else []

-- and then it is told where it stands
abbrev pub stands_packets : Recorded → Standing → List ℕ
stands_packets r t = hit_packet r t ++ packet_text (stands_text r t)

abbrev pub Stands : Recorded → State → Option Standing → List ℕ → State → Type 0
Stands r s None written t = Says (codes "E01") s written t
Stands r s (Some standing) written t = (written ≡ stands_packets r standing) × (t ≡ record s { standing = standing })

pub record Resumes (r : Recorded) (s : State) (request : Request) (written : List ℕ) (t : State) : Type 0 where
  pub to : Option Standing
  pub moves : Moves r s request to
  pub stands : Stands r s to written t

-- breakpoints or watchpoints are changed, or the run is resumed
abbrev pub ChangesBy : Option Stopping → Recorded → State → Request → List ℕ → State → Type 0
ChangesBy None r s request written t = Resumes r s request written t
ChangesBy (Some stops) r s request written t = Says (codes "OK") (record s { stops = stops }) written t

abbrev pub Changes : Recorded → State → Request → List ℕ → State → Type 0
Changes r s (requests.SelectGeneral thread) written t = SelectsGeneral r s thread written t
Changes r s (requests.SelectMoving thread) written t = SelectsMovingBy r s thread written t
Changes r s (requests.Command command) written t = Sets r s command written t
Changes r s request written t = ChangesBy (changed_by s.stops request) r s request written t

abbrev pub AnswersBy : Option (List ℕ) → Recorded → State → Request → List ℕ → State → Type 0
AnswersBy None r s request written t = Changes r s request written t
AnswersBy (Some said) r s request written t = Says said s written t

-- what is written, and the session then
abbrev pub Answers : Recorded → State → Request → List ℕ → State → Type 0
Answers r s request written t = AnswersBy (reply_at r s.standing request) r s request written t
