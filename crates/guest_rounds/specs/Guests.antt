-- A guest between two rounds, and what a round makes of it.
use Rattle.std.specs.Prelude.{ℕ, List, [], Option, None, replicate}
use Rattle.pages.specs.Memory.{Memory}
use Rattle.round_schedule.specs.declared.event.Event.{Event}
use Rattle.round_schedule.specs.declared.span.Span.{Span}
use Rattle.round_schedule.specs.ByReservations.{Reserving, reserving_round}
use Rattle.round_schedule.specs.Schedule.{State}
use Rattle.round_planner.specs.Quotas.{Planned, quotas_of}
use Rattle.elf_loader.specs.Image.{Loaded, memory_of}
use Rattle.hart_step.specs.declared.hart.Hart.{Hart}
use Rattle.hart_step.specs.Console.{ConsoleState}
use Rattle.hart_step.specs.Words.{words_of}
use Rattle.serial_phase.specs.Opening.{opening_console}
use Rattle.serial_phase.specs.declared.shared.SharedState.{SharedState}
use Rattle.guest_rounds.specs.Opening.{opening_harts}

-- what the harts share, as a run shows it: memory, the harts' reservations, and the console
pub record Shared : Type 0 where
  pub memory : Memory
  pub reservations : List (Option Span)
  pub console : ConsoleState

pub record Guest : Type 0 where
  pub harts : List Hart
  pub shared : Shared

abbrev pub shared_of : SharedState → Shared
shared_of s = record { memory = s.pages.memory; reservations = s.reservations; console = s.console.console }

abbrev pub guest_of : List Hart → SharedState → Guest
guest_of hs s = record { harts = hs; shared = shared_of s }

-- the guest of an image and an input with n harts, before the first round
abbrev pub opening_guest : Loaded → List ℕ → ℕ → Guest
opening_guest image input n = record {
  harts = opening_harts image.entry n 0 n;
  shared = record {
    memory = memory_of image;
    reservations = replicate n None;
    console = opening_console input;
  };
}

-- the state of a run after n rounds that left these events, of which this is the guest
abbrev pub guest_state : ℕ → List Event → Guest → State Hart ConsoleState
guest_state n es g = record { harts = g.harts; bytes = g.shared.memory.bytes; console = g.shared.console; trace = es; rounds = n }

-- the guest after n rounds as a state with its reservations, without the events of these rounds
abbrev pub reserving_guest : ℕ → Guest → Reserving Hart ConsoleState
reserving_guest n g = record {
  state = guest_state n [] g;
  reservations = g.shared.reservations;
}

-- its next round, with the round's own events alone
abbrev pub guest_round : Planned → ℕ → Guest → Reserving Hart ConsoleState
guest_round plan n g = reserving_round (words_of g.shared.memory.code) plan.budget (quotas_of plan) (reserving_guest n g)

abbrev pub guest_events : Planned → ℕ → Guest → List Event
guest_events plan n g = (guest_round plan n g).state.trace

-- the guest that a round leaves; no round changes which ranges are code
abbrev pub guest_after : Reserving Hart ConsoleState → Guest → Guest
guest_after r g = record {
  harts = r.state.harts;
  shared = record {
    memory = record { bytes = r.state.bytes; code = g.shared.memory.code };
    reservations = r.reservations;
    console = r.state.console;
  };
}

abbrev pub next_guest : Planned → ℕ → Guest → Guest
next_guest plan n g = guest_after (guest_round plan n g) g
