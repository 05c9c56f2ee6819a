-- What a debugger asks for by what it says, and when it has left.
use Rattle.std.specs.Prelude.{Bool, true, false, Option, Some, None}
use Rattle.gdb_packets.specs.Stream.{Told, Accepted, Again, Interrupt, Packet, Spoilt}
use Rattle.gdb_packets.specs.Grammar.{request_of}
use Rattle.gdb_packets.specs.declared.request.Request.{Request}
use Rattle.gdb_packets.specs.declared.request.Request.TheVariants as requests

-- what is asked for where the reply to a request is to be told again: what was resumed stands where it stands
abbrev pub again_of : Request → Request
again_of requests.Continue = requests.WhyStopped
again_of (requests.Step thread) = requests.WhyStopped
again_of (requests.StepIn low high thread) = requests.WhyStopped
again_of (requests.StepAlone thread) = requests.WhyStopped
again_of requests.StepBack = requests.WhyStopped
again_of requests.ContinueBack = requests.WhyStopped
again_of request = request

abbrev pub again_after : Option Request → Option Request
again_after None = None
again_after (Some request) = Some (again_of request)

-- what is asked for: by a packet, or by the wish to be told the reply to the last request again
abbrev pub asked_by : Told → Option Request → Option Request
asked_by (Packet payload) last = Some (request_of payload)
asked_by Again last = again_after last
asked_by Accepted last = None
asked_by Interrupt last = None
asked_by Spoilt last = None

abbrev pub is_accepted : Told → Bool
is_accepted Accepted = true
is_accepted x = false

-- the debugger has left: what it looked at was to end, or the reply to its leave was acknowledged
abbrev pub ends : Told → Option Request → Bool
ends x (Some requests.Kill) = true
ends x (Some requests.Detach) = is_accepted x
ends x last = false

-- what is to end isn't answered
abbrev pub UnlessKill : Request → Type 0 → Type 0 → Type 0
UnlessKill requests.Kill Ends Is_answered = Ends
UnlessKill request Ends Is_answered = Is_answered
