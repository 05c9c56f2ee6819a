use Rattle.std.proofs.Common.{◌≡◌, ◌<◌, ℕ, drop, length, map}
use Rattle.round_schedule.specs.Held.{unless}
use Rattle.round_schedule.specs.Reservations.{entry}
use Rattle.commit_phase.specs.Commit.{covered_from}
use Rattle.commit_phase.proofs.in_turn.break_all.Given as goal

abbrev pub invariant-loop-round : goal.invariant-loop-round
invariant-loop-round g l = record {
  counts : l.hart ≡ l.round-index;
  size : length l.reservations ≡ length l.fn.reservations;
  each : (h : ℕ) → h < length l.fn.reservations → unless (covered_from l.hart h (drop l.round-index (map g.B.Buffered.bytes l.rounds))) (entry l.reservations h) ≡ unless (covered_from 0 h (map g.B.Buffered.bytes l.rounds)) (entry l.fn.reservations h);
}
