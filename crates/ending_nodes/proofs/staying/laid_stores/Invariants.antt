use Rattle.std.proofs.Common.{◌≡◌, take}
use Rattle.hart_states.specs.States.{listed}
use Rattle.list_suffixes.specs.Staying.{laid}
use Rattle.ending_nodes.proofs.staying.laid_stores.Given as goal

abbrev pub invariant-loop-index : goal.invariant-loop-index
invariant-loop-index l = listed l.laid.items ≡ laid l.stays (listed (take l.index l.list))
