-- How many threads are still to be started.
use Rattle.std.proofs.Common.{ℕ, ◌+◌, ◌*◌, length}
use Rattle.std.specs.Prelude.{Option, None, Some}
use Rattle.parallel_phase.specs.declared.run_starts.RunStarts.{Ghosts}
use Rattle.machine.specs.declared.walks.Seats.{Seats}

-- one for each of the other seats, where the seats are there
abbrev pub steps_left : {b : _} {g : Ghosts b} → Option (Seats b g) → ℕ
steps_left None = 0
steps_left (Some seats) = 3 * length seats.others.items + 2
