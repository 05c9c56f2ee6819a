-- The serial phase as the code leaves it.
use Rattle.std.specs.Prelude.{◌≡◌, ℕ, zero, suc, ◌+◌, ◌/◌, ◌%◌, ◌^◌, ◌==◌, Bool, true, if◌then◌else◌, List, [], ◌∷◌, length}
use Rattle.pages.specs.Paged.{Paged, is_page_ready}
use Rattle.round_schedule.specs.ReservingTurn.{ReservingTurn, reserving_turn_from, ReservingPhase, reserving_phase_from}
use Rattle.round_schedule.specs.Schedule.{HartRound, began}
use Rattle.hart_step.specs.declared.hart.Hart.{Hart}
use Rattle.hart_step.specs.Console.{ConsoleState}
use Rattle.hart_step.specs.Words.{words_of}
use Rattle.serial_phase.specs.declared.shared.SerialRound.{SerialRound}
use Rattle.serial_phase.specs.declared.shared.SharedState.{SharedState}
use Rattle.serial_phase.specs.declared.shared.Turn.{Turn}

-- guest memory has these bytes, its code is as it was, and pages that were ready stay ready
pub record HasBytes (p : Paged) (bs : List ℕ) (q : Paged) : Type 0 where
  pub bytes : q.memory.bytes ≡ bs
  pub code : q.memory.code ≡ p.memory.code
  pub count : length q.ready ≡ length p.ready
  pub stays : (page : ℕ) → is_page_ready p page ≡ true → is_page_ready q page ≡ true

-- a turn, from a hart and what is shared
abbrev pub turn_done : Turn → Hart → SharedState → ReservingTurn Hart ConsoleState
turn_done turn h s =
    reserving_turn_from (words_of s.pages.memory.code) turn.round turn.hart turn.budget (record {
      hart = h;
      bytes = s.pages.memory.bytes;
      console = s.console.console;
      reservations = s.reservations;
      log = [];
    })

-- the turn is done, and its accesses are the current ones of the log
pub record TakesTurn (d : ReservingTurn Hart ConsoleState) (h : Hart) (s t : SharedState) : Type 0 where
  pub hart : h ≡ d.hart
  pub pages : HasBytes s.pages d.bytes t.pages
  pub reservations : t.reservations ≡ d.reservations
  pub console : t.console.console ≡ d.console
  pub log : t.log.current ≡ d.log
  pub closed : t.log.closed ≡ s.log.closed

-- whether hart i waits, by bit i of a number
abbrev pub is_waiting : ℕ → ℕ → Bool
is_waiting waiting i = waiting / 2 ^ i % 2 == 1

-- harts i, i + 1, .. with whether they wait, as rounds that the serial phase goes on from
abbrev pub waiting_rounds : ℕ → ℕ → List Hart → List (HartRound Hart)
waiting_rounds waiting i [] = []
waiting_rounds waiting i (h ∷ hs) =
    record { last = began h; waits = is_waiting waiting i } ∷ waiting_rounds waiting (suc i) hs

-- the serial phase, from the harts and what is shared
abbrev pub serial_done : SerialRound → List Hart → SharedState → ReservingPhase Hart ConsoleState
serial_done phase hs s =
    let rounds = waiting_rounds phase.waiting 0 hs in
    reserving_phase_from (words_of s.pages.memory.code) phase.budget phase.round 0 rounds (record {
      harts = [];
      bytes = s.pages.memory.bytes;
      console = s.console.console;
      reservations = s.reservations;
      log = [];
    })

-- the serial phase is done, and the log has each hart's accesses
pub record TakesTurns (d : ReservingPhase Hart ConsoleState) (hs : List Hart) (s t : SharedState)
    : Type 0 where
  pub harts : hs ≡ d.harts
  pub pages : HasBytes s.pages d.bytes t.pages
  pub reservations : t.reservations ≡ d.reservations
  pub console : t.console.console ≡ d.console
  pub log : t.log.closed ≡ d.log

-- the budget of hart i: none where it does not wait
abbrev pub budget_of : ℕ → ℕ → ℕ → ℕ
budget_of waiting i budget = if is_waiting waiting i then budget else 0

-- the turn of hart i
abbrev pub turn_of : SerialRound → ℕ → Turn
turn_of phase i =
    record { hart = i; round = phase.round; budget = budget_of phase.waiting i phase.budget }

-- how many instructions harts i, i + 1, .., n of them, may do together
abbrev pub budget_from : ℕ → ℕ → ℕ → ℕ → ℕ
budget_from waiting budget i zero = 0
budget_from waiting budget i (suc n) =
    budget_of waiting i budget + budget_from waiting budget (suc i) n

-- how many instructions all harts may do together
abbrev pub budget_of_all : SerialRound → List Hart → ℕ
budget_of_all phase hs = budget_from phase.waiting phase.budget 0 (length hs)
