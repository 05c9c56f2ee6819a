use Rattle.std.proofs.Common.{◌≡◌, ◌≢◌, ◌<◌, ℕ, None}
use Rattle.round_schedule.specs.Reservations.{entry}
use Rattle.round_schedule.proofs.reservations.no_others.Given as goal

abbrev pub invariant-loop-other : goal.invariant-loop-other
invariant-loop-other l = record { none : (h : ℕ) → h < l.other → l.hart ≢ h → entry l.entries h ≡ None }
