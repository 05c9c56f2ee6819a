-- A debugger is served: what it says, and what is written for it.
use Rattle.std.specs.Prelude.{◌≡◌, ◌⊎◌, ℕ, Bool, true, false, List, [], ◌∷◌, ◌++◌, Option, Some, None}
use Rattle.gdb_packets.specs.Stream.{Told, Accepted, Again, Interrupt, next_of}
use Rattle.gdb_packets.specs.declared.request.Request.{Request}
use Rattle.gdb_packets.specs.declared.request.Request.TheVariants as requests
use Rattle.gdb_talk.specs.Asking.{UnlessKill, asked_by, ends}
use Rattle.gdb_talk.specs.Stops.{no_stops}
use Rattle.gdb_talk.specs.Saying.{asks_text, refused_text}
use Rattle.gdb_talk.specs.Serving.{Answered, IsLost, Served as ServedBy}
use Rattle.gdb_replies.specs.declared.stop_reply.Reason.TheVariants.{Step}
use Rattle.watching.specs.declared.watchpoint.Way.{Way}
use Rattle.watching.specs.declared.watchpoint.Way.TheVariants.{On, Back}
use Rattle.gdb_session.specs.Answers.{Answers, stands_packets}
use Rattle.gdb_resumes.specs.declared.searching.Search.{Search}
use Rattle.gdb_runs.specs.declared.session.Standing.{Standing}
use Rattle.gdb_resumes.specs.Resumes.{interrupted}
use Rattle.gdb_resumes.specs.Searches.{HasCome}
use Rattle.gdb_runs.specs.Sessions.{Recorded, State, start_of, state_of}
use Rattle.gdb_session.specs.declared.talk.Talk.{Talk}

-- a debugger's session, what it asked for last, and the search for the answer that is under way
pub record Talking : Type 0 where
  pub state : State
  pub last : Option Request
  pub searching : Option Search

abbrev pub talking : Talk → Talking
talking t = record { state = state_of t.session; last = t.last; searching = t.searching }

-- it stands at the first moment, and there are no breakpoints and watchpoints
abbrev pub begun : Talking
begun = record {
  state = record {
    standing = record { point = start_of 0; reason = Step; told = 0; general = 0; moving = None; goal = None; hits = false };
    stops = no_stops;
  };
  last = None;
  searching = None;
}

-- ---- what is written for it

-- a request is answered; or it is said that it found no memory, and the session stays as it was
abbrev pub Replies : Recorded → State → Request → List ℕ → State → Type 0
Replies r s request said t = Answers r s request said t ⊎ ((said ≡ refused_text) × (t ≡ s))

-- a run that is to end is not answered
abbrev pub RepliesTo : Recorded → State → Request → List ℕ → State → Type 0
RepliesTo r s request said t = UnlessKill request ((said ≡ []) × (t ≡ s)) (Replies r s request said t)

-- which way a run is to go until something is told
abbrev pub way_of : Request → Option Way
way_of requests.Continue = Some On
way_of requests.ContinueBack = Some Back
way_of request = None

abbrev pub request_for : Way → Request
request_for On = requests.Continue
request_for Back = requests.ContinueBack

-- the search for the answer has come so far, and nothing was told; the run stands where it stood
pub record GoesOn (r : Recorded) (s : State) (request : Request) (x : Search) (said : List ℕ) (t : State) : Type 0 where
  pub way : way_of request ≡ Some x.reach.way
  pub come : HasCome r s x
  pub is : said ≡ asks_text
  pub stays : t ≡ s

abbrev pub RepliesOrGoesOn : Recorded → State → Request → List ℕ → State → Option Search → Type 0
RepliesOrGoesOn r s request said t None = RepliesTo r s request said t
RepliesOrGoesOn r s request said t (Some x) = GoesOn r s request x said t

-- a request is taken up: there is a reply, or the search for it goes on
abbrev pub TakesUp : Recorded → State → Request → List ℕ → Talking → Type 0
TakesUp r s request said t = RepliesOrGoesOn r s request said t.state t.searching × (t.last ≡ Some request)

abbrev pub HearsBy : Recorded → Talking → Option Request → List ℕ → Talking → Type 0
HearsBy r s None said t = (said ≡ []) × (t ≡ s)
HearsBy r s (Some request) said t = TakesUp r s.state request said t

-- it is told where the run stands now; or that this found no memory, and the run stays where it stood
abbrev pub StandsOrLost : Recorded → State → Standing → List ℕ → State → Type 0
StandsOrLost r s standing said t =
    ((said ≡ stands_packets r standing) × (t ≡ record s { standing = standing }))
    ⊎ ((said ≡ refused_text) × (t ≡ s))

-- a search that is interrupted ends where it has come to
abbrev pub IsInterrupted : Recorded → Talking → Search → List ℕ → Talking → Type 0
IsInterrupted r s y said t =
    StandsOrLost r s.state (interrupted s.state.standing y.reach.rounds) said t.state × (t.searching ≡ None) × (t.last ≡ s.last)

-- while a search is under way its acknowledgement lets it go on, and what asks for that is told again
abbrev pub HearsWhile : Recorded → Talking → Told → Option Search → List ℕ → Talking → Type 0
HearsWhile r s Accepted (Some y) said t = TakesUp r s.state (request_for y.reach.way) said t
HearsWhile r s Interrupt (Some y) said t = IsInterrupted r s y said t
HearsWhile r s Again (Some y) said t = (said ≡ asks_text) × (t ≡ s)
HearsWhile r s x y said t = HearsBy r s (asked_by x s.last) said t

-- what is heard is acknowledged, and that is said; or it found no memory itself
abbrev pub Hears : Recorded → Talking → Told → List ℕ → Talking → Type 0
Hears r s x written t = Answered x written (λ said. HearsWhile r s x s.searching said t) ⊎ IsLost s written t

-- ---- the whole

-- what was read says this, and that was written
abbrev pub Served : Recorded → List ℕ → List ℕ → List ℕ → List ℕ → List ℕ → Talking → Type 0
Served r gave gave_then took took_then rest t = ServedBy begun (Hears r) gave gave_then took took_then rest t

-- it has left, or its input ends with bytes that say nothing
abbrev pub HasEnded : Talking → List ℕ → Type 0
HasEnded t rest = ((x : Told) × (ends x t.last ≡ true)) ⊎ (next_of rest ≡ None)

-- the debugger is served further, or it has ended
abbrev pub ServesOn : Recorded → List ℕ → List ℕ → List ℕ → List ℕ → List ℕ → Talking → Bool → Type 0
ServesOn r gave gave_then took took_then held t true = Served r gave gave_then took took_then held t
ServesOn r gave gave_then took took_then held t false = (rest : List ℕ) × Served r gave gave_then took took_then rest t × HasEnded t rest
