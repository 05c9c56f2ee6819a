use Rattle.std.proofs.Common.{◌≡◌, take}
use Rattle.hart_states.specs.States.{listed}
use Rattle.list_suffixes.specs.Staying.{kept}
use Rattle.ending_nodes.proofs.staying.kept_stores.Given as goal

abbrev pub invariant-loop-index : goal.invariant-loop-index
invariant-loop-index l = listed l.kept.items ≡ kept l.stays (listed (take l.index l.list))
