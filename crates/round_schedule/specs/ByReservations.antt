-- A machine that keeps a list of reservations and never looks at its trace, and what ties it to a run.
use Rattle.std.specs.Prelude.{◌≡◌, ℕ, zero, suc, ◌+◌, List, [], ◌∷◌, ◌++◌, length, replicate, slice_index, Option, None}
use Rattle.pages.specs.Memory.{IsBytes, after}
use Rattle.round_schedule.specs.declared.event.Event.{Event}
use Rattle.round_schedule.specs.declared.span.Span.{Span}
use Rattle.round_schedule.specs.ReservingTurn.{ReservingPhase, reserving_phase_from, log_events}
use Rattle.round_schedule.specs.Held.{unless}
use Rattle.round_schedule.specs.RoundTrace.{IsRoundTrace}
use Rattle.round_schedule.specs.Schedule.{Words, HartRound, State, hart_rounds, all_stores, events_from, opening_state, round_of, run_of}
use Rattle.round_schedule.specs.Sound.{Sound}
use Rattle.round_schedule.specs.Reservations.{Commits, Tied, covered_by_others}

-- the entries of harts h, h + 1, .. after the commit of these rounds
abbrev pub committed_reservations : {H : Type 0} → ℕ → List (HartRound H) → List (Option Span) → List (Option Span)
committed_reservations h rs [] = []
committed_reservations h rs (r ∷ reservations) = unless (covered_by_others h 0 rs) r ∷ committed_reservations (suc h) rs reservations

-- where a list is what the trace says, the list after a commit is what the trace with the round's parallel events says
abbrev pub CommitsByReservations : (H C : Type 0) → Type 0
CommitsByReservations H C =
    (w : Words H C) → Sound w → (bs : List ℕ) → IsBytes bs → (n : ℕ) (qs : List ℕ) (hs : List H) (old new : List (Option Span)) (t : List Event) →
    Tied old t → Commits (hart_rounds w bs qs hs) old new → Tied new (t ++ events_from n 0 (hart_rounds w bs qs hs))

-- a state with its list
pub record Reserving (H C : Type 0) : Type 0 where
  pub state : State H C
  pub reservations : List (Option Span)

abbrev pub reserving_phase_of : {H C : Type 0} → Reserving H C → List (HartRound H) → ReservingPhase H C
reserving_phase_of m rs = record { harts = []; bytes = after m.state.bytes (all_stores rs); console = m.state.console; reservations = committed_reservations 0 rs m.reservations; log = [] }

abbrev pub reserving_after : {H C : Type 0} → Reserving H C → List (HartRound H) → ReservingPhase H C → Reserving H C
reserving_after m rs c = record {
  state = record {
    harts = c.harts;
    bytes = c.bytes;
    console = c.console;
    trace = (m.state.trace ++ events_from (m.state.rounds + 1) 0 rs) ++ log_events (m.state.rounds + 1) 0 c.log;
    rounds = m.state.rounds + 1;
  };
  reservations = c.reservations;
}

-- one round over the list
unfoldable pub reserving_round : {H C : Type 0} → Words H C → ℕ → (ℕ → List ℕ) → Reserving H C → Reserving H C
reserving_round w budget quotas m =
    let rs = hart_rounds w m.state.bytes (quotas m.state.rounds) m.state.harts in
    reserving_after m rs (reserving_phase_from w budget (m.state.rounds + 1) 0 rs (reserving_phase_of m rs))

-- a round over a list that is what the trace says is a round of a run, and so is the list after it
pub record RoundByReservations {H C : Type 0} (w : Words H C) (budget : ℕ) (quotas : ℕ → List ℕ) (m : Reserving H C) : Type 0 where
  pub same : (reserving_round w budget quotas m).state ≡ round_of w budget quotas m.state
  pub tied : Tied (reserving_round w budget quotas m).reservations (reserving_round w budget quotas m).state.trace
  pub size : length (reserving_round w budget quotas m).reservations ≡ length m.reservations
  pub harts : length (reserving_round w budget quotas m).state.harts ≡ length m.state.harts
  pub bytes : IsBytes (reserving_round w budget quotas m).state.bytes

abbrev pub RoundsByReservations : (H C : Type 0) → Type 0
RoundsByReservations H C =
    (w : Words H C) (budget : ℕ) (quotas : ℕ → List ℕ) (m : Reserving H C) →
    Sound w → IsBytes m.state.bytes → Tied m.reservations m.state.trace → length m.reservations ≡ length m.state.harts → RoundByReservations w budget quotas m

-- n rounds over the list
unfoldable pub reserving_run : {H C : Type 0} → Words H C → ℕ → (ℕ → List ℕ) → ℕ → Reserving H C → Reserving H C
reserving_run w budget quotas zero m = m
reserving_run w budget quotas (suc n) m = reserving_run w budget quotas n (reserving_round w budget quotas m)

-- before the first round no hart has a reservation
abbrev pub opening_reserving : {H C : Type 0} → List H → List ℕ → C → Reserving H C
opening_reserving hs bs c = record { state = opening_state hs bs c; reservations = replicate (length hs) None }

-- a run over the list is the run, its list is what the trace says, and its trace is a round trace
pub record RunByReservations {H C : Type 0} (w : Words H C) (budget : ℕ) (quotas : ℕ → List ℕ) (n : ℕ) (hs : List H) (bs : List ℕ) (c : C) : Type 0 where
  pub same : (reserving_run w budget quotas n (opening_reserving hs bs c)).state ≡ run_of w budget quotas n (opening_state hs bs c)
  pub tied : Tied (reserving_run w budget quotas n (opening_reserving hs bs c)).reservations (reserving_run w budget quotas n (opening_reserving hs bs c)).state.trace
  pub size : length (reserving_run w budget quotas n (opening_reserving hs bs c)).reservations ≡ length hs
  pub round_trace : IsRoundTrace (reserving_run w budget quotas n (opening_reserving hs bs c)).state.trace (λ x. slice_index bs x) budget

abbrev pub RunsByReservations : (H C : Type 0) → Type 0
RunsByReservations H C =
    (w : Words H C) → Sound w → (budget : ℕ) (quotas : ℕ → List ℕ) (n : ℕ) (hs : List H) (bs : List ℕ) (c : C) → IsBytes bs → RunByReservations w budget quotas n hs bs c
