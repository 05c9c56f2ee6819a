use Rattle.std.proofs.Common.{◌≡◌, ◌≤◌}
use Rattle.all_endings.specs.HartRuns.{Stands}
use Rattle.all_endings.specs.RunStates.{Move}
use Rattle.run_bounds.specs.Operations.{access_of}
use Rattle.hart_states.specs.States.{state_of}
use Rattle.own_moves.proofs.timing.earliest.Given as goal

abbrev pub invariant-loop-time : goal.invariant-loop-time
invariant-loop-time l = (v : Move) → v.instruction ≡ l.coming.instruction → v.access ≡ access_of l.coming.operation → Stands (state_of l.state) v → l.time ≤ v.time
