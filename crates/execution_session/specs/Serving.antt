-- A debugger is served: what it says, and what is written for it.
use Rattle.std.specs.Prelude.{◌≡◌, ◌⊎◌, ℕ, Bool, true, false, List, [], ◌∷◌, ◌++◌, Option, Some, None}
use Rattle.gdb_packets.specs.Stream.{Told, Accepted, Again, Interrupt, Packet, Spoilt, next_of}
use Rattle.gdb_packets.specs.declared.request.Request.{Request}
use Rattle.gdb_talk.specs.Asking.{UnlessKill, asked_by, ends}
use Rattle.gdb_talk.specs.Saying.{refused_text}
use Rattle.gdb_talk.specs.Serving.{Answered, IsLost, Served as ServedBy}
use Rattle.gdb_talk.specs.Stops.{no_stops}
use Rattle.execution_moments.specs.Looked.{Looked}
use Rattle.execution_session.specs.Answers.{Answers}
use Rattle.execution_session.specs.Sessions.{State, opening_standing, state_of}
use Rattle.execution_session.specs.declared.talk.Talk.{Talk}

-- a debugger's session, and what it asked for last
pub record Talking : Type 0 where
  pub state : State
  pub last : Option Request

abbrev pub talking : Talk → Talking
talking t = record { state = state_of t.session; last = t.last }

-- it stands at the first moment, and there are no breakpoints and watchpoints
abbrev pub begun : Talking
begun = record { state = record { standing = opening_standing; stops = no_stops }; last = None }

-- ---- what is written for it

-- a request is answered; or it is said that it found no memory, and the session stays as it was
abbrev pub Replies : Looked → State → Request → List ℕ → State → Type 0
Replies r s request said t = Answers r s request said t ⊎ ((said ≡ refused_text) × (t ≡ s))

-- an execution that is to end is not answered
abbrev pub RepliesTo : Looked → State → Request → List ℕ → State → Type 0
RepliesTo r s request said t = UnlessKill request ((said ≡ []) × (t ≡ s)) (Replies r s request said t)

-- there is a reply to what is asked for
abbrev pub HearsBy : Looked → Talking → Option Request → List ℕ → Talking → Type 0
HearsBy r s None said t = (said ≡ []) × (t ≡ s)
HearsBy r s (Some request) said t = RepliesTo r s.state request said t.state × (t.last ≡ Some request)

-- what is heard is acknowledged, and that is said; or it found no memory itself
abbrev pub Hears : Looked → Talking → Told → List ℕ → Talking → Type 0
Hears r s x written t = Answered x written (λ said. HearsBy r s (asked_by x s.last) said t) ⊎ IsLost s written t

-- ---- the whole

-- what was read says this, and that was written
abbrev pub Served : Looked → List ℕ → List ℕ → List ℕ → List ℕ → List ℕ → Talking → Type 0
Served r gave gave_then took took_then rest t = ServedBy begun (Hears r) gave gave_then took took_then rest t

-- it has left, or its input ends with bytes that say nothing
abbrev pub HasEnded : Talking → List ℕ → Type 0
HasEnded t rest = ((x : Told) × (ends x t.last ≡ true)) ⊎ (next_of rest ≡ None)

-- the debugger is served further, or it has ended
abbrev pub ServesOn : Looked → List ℕ → List ℕ → List ℕ → List ℕ → List ℕ → Talking → Bool → Type 0
ServesOn r gave gave_then took took_then held t true = Served r gave gave_then took took_then held t
ServesOn r gave gave_then took took_then held t false = (rest : List ℕ) × Served r gave gave_then took took_then rest t × HasEnded t rest
