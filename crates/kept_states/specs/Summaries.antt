-- What a recording keeps of the states of a run.
use Rattle.std.specs.Prelude.{◌≡◌, ℕ, zero, suc, if◌then◌else◌, List, [], ◌∷◌, length, map, drop, Option, Some, None}
use Rattle.round_schedule.specs.Schedule.{State}
use Rattle.hart_step.specs.declared.hart.Hart.{Hart}
use Rattle.hart_step.specs.declared.hart.Stop.{Stop}
use Rattle.hart_step.specs.Console.{ConsoleState}
use Rattle.machine.specs.Machine.{Running, after_round}
use Rattle.recording.specs.Grammar.{is_due}
use Rattle.recording.specs.Recorded.{HartSummary, Summary, Checkpoint}
use Rattle.kept_states.specs.declared.keeping.Seen.{Seen}

-- why a hart has stopped, and 0 while it runs
abbrev pub code_of : Option Stop → ℕ
code_of None = 0
code_of (Some s) = s.code

-- the value of the exit call, and 0 while it runs
abbrev pub value_of : Option Stop → ℕ
value_of None = 0
value_of (Some s) = s.value

-- the summary of a hart
abbrev pub hart_summary_of : Hart → HartSummary
hart_summary_of h = record { pc = h.pc; done = h.done; code = code_of h.stop; value = value_of h.stop }

-- the summary of a state: the lengths of the output and the trace, and the harts
abbrev pub summary_of : State Hart ConsoleState → Summary
summary_of s = record { output = length s.console.output; trace = length s.trace; harts = map hart_summary_of s.harts }

-- registers x1 to x31
abbrev pub registers_of : Hart → List ℕ
registers_of h = drop 1 h.x

-- what is kept of the state after a round, with registers where they are due
abbrev pub checkpoint_of : ℕ → State Hart ConsoleState → Checkpoint
checkpoint_of every s = record { summary = summary_of s; registers = if is_due every s.rounds then Some (map registers_of s.harts) else None }

-- what is kept of the next n rounds
unfoldable pub checkpoints_of_rounds : ℕ → ℕ → Running → List Checkpoint
checkpoints_of_rounds every zero m = []
checkpoints_of_rounds every (suc n) m = checkpoint_of every (after_round m).state ∷ checkpoints_of_rounds every n (after_round m)

-- ---- from what is seen of a state

-- its harts, how long its output and its trace are, and how many rounds there were
pub record IsSeenOf (v : Seen) (s : State Hart ConsoleState) : Type 0 where
  pub harts : v.harts.now ≡ s.harts
  pub output : v.output ≡ length s.console.output
  pub trace : v.trace ≡ length s.trace
  pub round : v.round ≡ s.rounds

-- the summary, and what is kept; they are those of each state of which this is seen
abbrev pub summary_in : Seen → Summary
summary_in v = record { output = v.output; trace = v.trace; harts = map hart_summary_of v.harts.now }

abbrev pub checkpoint_in : ℕ → Seen → Checkpoint
checkpoint_in every v = record { summary = summary_in v; registers = if is_due every v.round then Some (map registers_of v.harts.now) else None }
