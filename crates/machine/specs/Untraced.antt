-- A machine that keeps no trace, as callers see it, and what ties it to a run.
use Rattle.std.specs.Prelude.{◌≡◌, ℕ, zero, suc, ◌+◌, ◌*◌, ◌<◌, ◌≤◌, true, List, [], ◌++◌, length, All, Option, Result, MatchResult}
use Rattle.pages.specs.Memory.{IsBytes}
use Rattle.pages.specs.declared.access.Range.{Range}
use Rattle.elf_loader.specs.Image.{Loaded}
use Rattle.round_schedule.specs.declared.event.Event.{Event}
use Rattle.round_schedule.specs.declared.span.Span.{Span}
use Rattle.round_schedule.specs.ByReservations.{Reserving, reserving_round}
use Rattle.round_schedule.specs.Places.{Placed}
use Rattle.round_schedule.specs.Reservations.{Tied}
use Rattle.round_planner.specs.Quotas.{Planned, quotas_of}
use Rattle.hart_step.specs.declared.hart.Hart.{Hart}
use Rattle.hart_step.specs.Console.{ConsoleState}
use Rattle.hart_step.specs.Stops.{has_stop}
use Rattle.hart_step.specs.Words.{words_of}
use Rattle.trace.specs.Traced.{IsTrace, Traced, opening_at, opening_bytes}
use Rattle.guest_rounds.specs.Guests.{Guest}
use Rattle.guest_rounds.specs.Held.{most_of_round}
use Rattle.machine.specs.Machine.{Running, after_rounds, opening}

-- the harts, the bytes, the console, the harts' reservations, how many events the trace would have, how many rounds were
-- done, the ranges of code, and the plan
pub record Untraced : Type 0 where
  pub harts : List Hart
  pub bytes : List ℕ
  pub console : ConsoleState
  pub reservations : List (Option Span)
  pub events : ℕ
  pub rounds : ℕ
  pub code : List Range
  pub plan : Planned

-- the same of a guest, a plan, and the numbers of events and rounds
abbrev pub untraced_of : Guest → Planned → ℕ → ℕ → Untraced
untraced_of g plan events rounds = record {
  harts = g.harts;
  bytes = g.shared.memory.bytes;
  console = g.shared.console;
  reservations = g.shared.reservations;
  events = events;
  rounds = rounds;
  code = g.shared.memory.code;
  plan = plan;
}

-- it is this machine of a run without its trace: what it has is what the run has, the number of events is the trace's
-- length, and the reservations are those of the trace, which is one whose places are below the counts of their harts; and
-- harts stopped with the codes that there are
pub record IsUntraced (m : Running) (u : Untraced) : Type 0 where
  pub harts : u.harts ≡ m.state.harts
  pub bytes : u.bytes ≡ m.state.bytes
  pub console : u.console ≡ m.state.console
  pub rounds : u.rounds ≡ m.state.rounds
  pub code : u.code ≡ m.code
  pub plan : u.plan ≡ m.plan
  pub events : u.events ≡ length m.state.trace
  pub reservations : Tied u.reservations m.state.trace
  pub sound : IsTrace m.state.trace
  pub placed : Placed (λ (h : Hart). h.done) (most_of_round * m.state.rounds) m.state.harts m.state.trace
  pub stops : All (λ (h : Hart). has_stop h.stop ≡ true) m.state.harts

-- the same as a state with its reservations, without the events so far
abbrev pub reserving_of : Untraced → Reserving Hart ConsoleState
reserving_of u = record { state = record { harts = u.harts; bytes = u.bytes; console = u.console; trace = []; rounds = u.rounds }; reservations = u.reservations }

-- its next round, with the round's own events alone
abbrev pub next_of : Untraced → Reserving Hart ConsoleState
next_of u = reserving_round (words_of u.code) u.plan.budget (quotas_of u.plan) (reserving_of u)

abbrev pub next_events : Untraced → List Event
next_events u = (next_of u).state.trace

-- the machine after one more round
abbrev pub untraced_round : Untraced → Untraced
untraced_round u = record {
  harts = (next_of u).state.harts;
  bytes = (next_of u).state.bytes;
  console = (next_of u).state.console;
  reservations = (next_of u).reservations;
  events = u.events + length (next_events u);
  rounds = u.rounds + 1;
  code = u.code;
  plan = u.plan;
}

-- the events of each of its next n rounds may be kept after these events
abbrev pub MayGoOn : (List Event → Type 0) → ℕ → List Event → Untraced → Type 0
MayGoOn may_keep zero es u = Unit {0}
MayGoOn may_keep (suc n) es u = may_keep (es ++ next_events u) × MayGoOn may_keep n (es ++ next_events u) (untraced_round u)

-- whatever run the one is without its trace, the other is that run after k more rounds
abbrev pub IsAfter : ℕ → Untraced → Untraced → Type 0
IsAfter k u v = (m : Running) → IsUntraced m u → IsUntraced (after_rounds k m) v

-- the events of these k rounds were added
abbrev pub AreAdded : ℕ → Untraced → List Event → List Event → Type 0
AreAdded k u old new = (m : Running) → IsUntraced m u → (more : List Event) × ((after_rounds k m).state.trace ≡ m.state.trace ++ more) × (new ≡ old ++ more)

-- after k rounds it is still a run's machine without its trace, and who kept the events before has kept those of the rounds too
pub record HasRun (k : ℕ) (u v : Untraced) (before after : List Event → Type 0) : Type 0 where
  pub rounds : v.rounds ≡ u.rounds + k
  pub run : IsAfter k u v
  pub events : (m : Running) (es : List Event) → IsUntraced m u → before es → (more : List Event) × ((after_rounds k m).state.trace ≡ m.state.trace ++ more) × after (es ++ more)

-- so many rounds were done, or fewer where the call was refused
abbrev pub RanFor : {A E : Type 0} → Result A E → ℕ → Untraced → Untraced → (List Event → Type 0) → (List Event → Type 0) → Type 0
RanFor r n u v before after = MatchResult r (λ _. HasRun n u v before after) (λ _. (k : ℕ) × (k < n) × HasRun k u v before after)

-- these are the last events of a run of which it is the machine, all of them, none or some
abbrev pub AreLast : Untraced → List Event → Type 0
AreLast u es = (m : Running) × IsUntraced m u × ((fs : List Event) × (m.state.trace ≡ fs ++ es))

-- the machine of a run from its machine without the trace, and the trace
abbrev pub traced : Untraced → Traced → Running
traced u t = record {
  state = record { harts = u.harts; bytes = u.bytes; console = u.console; trace = t.events; rounds = u.rounds };
  code = u.code;
  plan = u.plan;
  opening = opening_bytes t.opening (length u.bytes);
}

-- the machine after some rounds from the opening of an image, an input and a plan
pub record IsOfRun (m : Running) : Type 0 where
  pub image : Loaded
  pub input : List ℕ
  pub plan : Planned
  pub rounds : ℕ
  pub bytes : IsBytes image.bytes
  pub is : m ≡ after_rounds rounds (opening image input plan)

-- it is the machine of that run without the trace, and memory opened with no byte past its end
pub record HoldsTogether (u : Untraced) (t : Traced) : Type 0 where
  pub run : IsUntraced (traced u t) u
  pub of_run : IsOfRun (traced u t)
  pub beyond : (x : ℕ) → length u.bytes ≤ x → opening_at t.opening x ≡ 0
