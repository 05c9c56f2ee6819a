use Rattle.std.proofs.Common.{◌≡◌, length}
use Rattle.execution_makers.proofs.scripted.calls_of.Given as goal

-- as many harts as at first
abbrev pub invariant-loop-step : goal.invariant-loop-step
invariant-loop-step l = length l.execution.standing.harts ≡ length l.fn.execution.standing.harts
