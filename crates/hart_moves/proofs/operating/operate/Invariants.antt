use Rattle.std.proofs.Common.{◌≡◌, ◌<◌, true, IfSome}
use Rattle.round_schedule.specs.Accesses.{stores as writing}
use Rattle.hart_states.specs.Opening.{opening_of}
use Rattle.all_endings.specs.HartRuns.{IsPlaced, Stands}
use Rattle.all_endings.specs.RunStates.{Move}
use Rattle.all_endings.specs.StoreLists.{later}
use Rattle.hart_states.specs.States.{listed, state_of}
use Rattle.hart_moves.specs.Choosing.{DoesSo, FailsSo, IsChoiceOf, IsFound}
use Rattle.hart_moves.specs.Moves.{HasFollower}
use Rattle.hart_moves.proofs.operating.operate.Given as goal

abbrev pub invariant-loop-time : goal.invariant-loop-time
invariant-loop-time l = record {
  does : (v : Move) → v.instruction ≡ l.coming.instruction → Stands (state_of l.state) v →
      DoesSo l.hart (listed l.list) (opening_of l.memory) (state_of l.state) l.coming.operation v →
      (writing v.access ≡ true → IsPlaced l.hart (listed l.list) v) → v.time < l.time → HasFollower l.hart (listed l.list) (state_of l.state) v l.found.items;
  fails : (v : Move) → v.instruction ≡ l.coming.instruction → FailsSo (state_of l.state) l.coming.operation v →
      HasFollower l.hart (listed l.list) (state_of l.state) v l.found.items;
  is : IfSome l.latest (λ d. IsChoiceOf (state_of l.state) l.coming d);
  later : l.is_enough ≡ true → (v : Move) → v.instruction ≡ l.coming.instruction →
      DoesSo l.hart (listed l.list) (opening_of l.memory) (state_of l.state) l.coming.operation v → v.time ≡ later (listed l.list) →
      HasFollower l.hart (listed l.list) (state_of l.state) v l.found.items;
  latest : (v : Move) → IsFound (listed l.list) (state_of l.state) l.latest v → HasFollower l.hart (listed l.list) (state_of l.state) v l.found.items;
}
