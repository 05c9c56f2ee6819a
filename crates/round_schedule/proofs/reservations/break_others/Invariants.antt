use Rattle.std.proofs.Common.{◌≡◌, ℕ, ◌≤◌, ◌<◌, ◌==◌, cond, None, false}
use Rattle.pages.specs.Memory.{in_range, width_bytes}
use Rattle.round_schedule.specs.Held.{unless}
use Rattle.round_schedule.specs.Reservations.{entry}
use Rattle.round_schedule.proofs.reservations.break_others.Given as goal

abbrev pub invariant-loop-other : goal.invariant-loop-other
invariant-loop-other l = record {
  done : (h : ℕ) → h < l.other → entry l.entries h ≡ cond (l.hart == h) (entry l.fn.entries h) (unless (in_range l.span.address (width_bytes l.span.width)) (entry l.fn.entries h));
  rest : (h : ℕ) → l.other ≤ h → entry l.entries h ≡ entry l.fn.entries h;
  none : l.left ≡ false → (h : ℕ) → h < l.other → entry l.entries h ≡ None;
}
