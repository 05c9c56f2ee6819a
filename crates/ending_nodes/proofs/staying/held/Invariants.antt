use Rattle.std.proofs.Common.{◌≡◌, length}
use Rattle.hart_states.specs.States.{listed}
use Rattle.ending_nodes.proofs.Laid.{AreFree}
use Rattle.ending_nodes.proofs.staying.held.Given as goal

abbrev pub invariant-loop-store : goal.invariant-loop-store
invariant-loop-store l = record {
  many : length l.stays.items ≡ l.store;
  free : AreFree l.store l.stays.items (listed l.list);
}
