-- What callers see of a hart's round, and of the history of a round of a run.
use Rattle.std.specs.Prelude.{◌≡◌, ℕ, ◌<◌, List, length, Some, slice_get}
use Rattle.atomic_table.specs.Seated.{TableId}
use Rattle.hart_rounds.specs.declared.hart_end.HartEnd.{HartEnd}
use Rattle.hart_rounds.specs.Ends.{round_at}
use Rattle.hart_rounds.specs.Starts.{Start}
use Rattle.run_book.specs.Known.{Known, Named}
use Rattle.run_book.specs.Turns.{turn_of}
use Rattle.run_book.specs.Working.{HasGathered, IsCalling, IsHonest, IsWhole}
use Rattle.parallel_phase.specs.declared.claimed_round.HartRound.{HartRound}
use Rattle.parallel_phase.specs.declared.run_starts.RunStarts.{Ghosts}

-- the round of the run, the hart and the seat of its ticket
abbrev pub ticket_of : {b : _} {g : Ghosts b} → HartRound b g → Named
ticket_of r = r.ticket

-- what the round left
abbrev pub end_in : {b : _} {g : Ghosts b} → HartRound b g → HartEnd
end_in r = r.end

abbrev pub turn_in : {b : _} {g : Ghosts b} → HartRound b g → ℕ
turn_in r = turn_of (ticket_of r).round (ticket_of r).hart

abbrev pub seat_of : {b : _} {g : Ghosts b} → HartRound b g → ℕ
seat_of r = (ticket_of r).seat

-- it is the schedule's
abbrev pub IsRight : {b : _} {g : Ghosts b} → HartRound b g → Type 0
IsRight {b} {g} r = round_at (g.starts (ticket_of r).round) (ticket_of r).hart ≡ Some (end_in r)

-- a seat of this book that has put nothing that it has not claimed; and the calling thread's, between two rounds
abbrev pub IsWorker : {b : _} {g : Ghosts b} → TableId → ℕ → Known (HartRound b g) → Type 0
IsWorker t harts k = IsHonest turn_in seat_of t harts k

abbrev pub IsCaller : {b : _} {g : Ghosts b} → TableId → ℕ → Known (HartRound b g) → Type 0
IsCaller t harts k = IsCalling turn_in seat_of t harts k

-- a history of this round of a run that is whole: a legal list of claims, takings of the lock and puts leaves it, each hart stands in it
-- once, with the schedule's round, and nothing else does
abbrev pub IsWholeRound : {b : _} {g : Ghosts b} → ℕ → ℕ → List (HartRound b g) → Type 0
IsWholeRound round harts es = IsWhole turn_in seat_of IsRight round harts es

-- the seat has seen these rounds more, the history of each whole, and nothing else
abbrev pub HasGatheredRounds : {b : _} {g : Ghosts b} → List ℕ → ℕ → Known (HartRound b g) → Known (HartRound b g) → Type 0
HasGatheredRounds rounds harts k l = HasGathered turn_in seat_of IsRight rounds harts k l

-- one entry for each hart of the start, in hart order, each the hart's round by the schedule, and nothing else
pub record IsWholeHistory (s : Start) (entries : List HartEnd) : Type 0 where
  pub count : length entries ≡ length s.harts
  pub rounds : (h : ℕ) → h < length s.harts → slice_get entries h ≡ round_at s h
