-- The serial phase over a list of reservations: the same turns as in a run, where the reservations are read off the trace.
use Rattle.std.specs.Prelude.{◌≡◌, ℕ, zero, suc, ◌+◌, ◌≤◌, ◌==◌, Bool, if◌then◌else◌, List, [], ◌∷◌, ◌++◌, length, Option, Some, None, option_to_list}
use Rattle.pages.specs.Memory.{after}
use Rattle.round_schedule.specs.declared.access.Access.{Access}
use Rattle.round_schedule.specs.declared.access.Stepped.{Stepped}
use Rattle.round_schedule.specs.declared.access.Stepped.TheVariants.{Done, Waits, Stopped}
use Rattle.round_schedule.specs.declared.event.Event.{Event}
use Rattle.round_schedule.specs.declared.event.Phase.TheVariants.{Serial}
use Rattle.round_schedule.specs.declared.span.Span.{Span}
use Rattle.round_schedule.specs.Accesses.{writes}
use Rattle.round_schedule.specs.Events.{events_of}
use Rattle.round_schedule.specs.Held.{unless, held_after_own}
use Rattle.round_schedule.specs.Schedule.{Words, SerialOutcome, HartRound, State, serial_from}
use Rattle.round_schedule.specs.Reservations.{entry, Tied}

-- the entries of harts j, j + 1, .. after an access of hart i
abbrev pub updated : ℕ → ℕ → Access → List (Option Span) → List (Option Span)
updated i j a [] = []
updated i j a (r ∷ rs) = (if i == j then held_after_own a r else unless (writes a) r) ∷ updated i (suc j) a rs

abbrev pub updated_by : ℕ → Option Access → List (Option Span) → List (Option Span)
updated_by i None reservations = reservations
updated_by i (Some a) reservations = updated i 0 a reservations

-- a serial turn under way: the hart, memory, the console, the list, and the accesses of the turn so far
pub record ReservingTurn (H C : Type 0) : Type 0 where
  pub hart : H
  pub bytes : List ℕ
  pub console : C
  pub reservations : List (Option Span)
  pub log : List Access

abbrev pub reserving_turn_taken : {H C : Type 0} → ℕ → Stepped → ReservingTurn H C → SerialOutcome H C → (ReservingTurn H C → ReservingTurn H C) → ReservingTurn H C
reserving_turn_taken i (Done a) p o f = f (record { hart = o.hart; bytes = after p.bytes o.stores; console = o.console; reservations = updated_by i a p.reservations; log = p.log ++ option_to_list a })
reserving_turn_taken i Waits p o f = record p { hart = o.hart }
reserving_turn_taken i (Stopped code) p o f = record p { hart = o.hart }

-- the next instruction of hart i in round n
abbrev pub reserving_turn_next : {H C : Type 0} → Words H C → ℕ → ℕ → ReservingTurn H C → SerialOutcome H C
reserving_turn_next w n i p = w.serial_step n p.hart p.bytes p.console (entry p.reservations i)

-- at most k further instructions of hart i's turn in round n
unfoldable pub reserving_turn_from : {H C : Type 0} → Words H C → ℕ → ℕ → ℕ → ReservingTurn H C → ReservingTurn H C
reserving_turn_from w n i zero p = p
reserving_turn_from w n i (suc k) p = if w.stopped p.hart then p else reserving_turn_taken i (reserving_turn_next w n i p).answer p (reserving_turn_next w n i p) (reserving_turn_from w n i k)

-- the serial phase so far: the harts that had their turn, memory, the console, the list, and the accesses of each turn
pub record ReservingPhase (H C : Type 0) : Type 0 where
  pub harts : List H
  pub bytes : List ℕ
  pub console : C
  pub reservations : List (Option Span)
  pub log : List (List Access)

-- the turn of hart i, of budget instructions if it waits and of none else
abbrev pub reserving_turn_of : {H C : Type 0} → Words H C → ℕ → ℕ → ReservingPhase H C → ℕ → H → Bool → ReservingTurn H C
reserving_turn_of w budget n s i h waits = reserving_turn_from w n i (if waits then budget else 0) (record { hart = h; bytes = s.bytes; console = s.console; reservations = s.reservations; log = [] })

abbrev pub reserving_phase_joined : {H C : Type 0} → ReservingPhase H C → ReservingTurn H C → ReservingPhase H C
reserving_phase_joined s p = record { harts = s.harts ++ p.hart ∷ []; bytes = p.bytes; console = p.console; reservations = p.reservations; log = s.log ++ p.log ∷ [] }

-- the turns of the rounds' harts, from hart i on
abbrev pub reserving_phase_from : {H C : Type 0} → Words H C → ℕ → ℕ → ℕ → List (HartRound H) → ReservingPhase H C → ReservingPhase H C
reserving_phase_from w budget n i [] s = s
reserving_phase_from w budget n i (r ∷ rs) s = reserving_phase_from w budget n (suc i) rs (reserving_phase_joined s (reserving_turn_of w budget n s i r.last.hart r.waits))

-- the serial events of round n, hart by hart from hart i on
abbrev pub log_events : ℕ → ℕ → List (List Access) → List Event
log_events n i [] = []
log_events n i (l ∷ ls) = events_of n i Serial l ++ log_events n (suc i) ls

-- the same in a run, after the trace t
abbrev pub told : {H C : Type 0} → List Event → ℕ → ReservingPhase H C → State H C
told t n s = record { harts = s.harts; bytes = s.bytes; console = s.console; trace = t ++ log_events n 0 s.log; rounds = n }

-- over a list that is what the trace says, the serial phase is that of a run, and so is the list after it
pub record SerialByReservations {H C : Type 0} (w : Words H C) (budget n i : ℕ) (rs : List (HartRound H)) (t : List Event) (s : ReservingPhase H C) : Type 0 where
  pub same : serial_from w budget i rs (told t n s) ≡ told t n (reserving_phase_from w budget n i rs s)
  pub tied : Tied (reserving_phase_from w budget n i rs s).reservations (t ++ log_events n 0 (reserving_phase_from w budget n i rs s).log)
  pub size : length (reserving_phase_from w budget n i rs s).reservations ≡ length s.reservations

abbrev pub SerialPhaseByReservations : (H C : Type 0) → Type 0
SerialPhaseByReservations H C =
    (w : Words H C) (budget n i : ℕ) (rs : List (HartRound H)) (t : List Event) (s : ReservingPhase H C) →
    Tied s.reservations (t ++ log_events n 0 s.log) → length s.log ≡ i → i + length rs ≤ length s.reservations → SerialByReservations w budget n i rs t s
