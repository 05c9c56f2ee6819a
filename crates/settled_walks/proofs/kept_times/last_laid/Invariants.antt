use Rattle.std.proofs.Common.{◌≡◌}
use Rattle.hart_states.specs.States.{listed}
use Rattle.list_suffixes.specs.Staying.{last_laid}
use Rattle.settled_walks.proofs.kept_times.last_laid.Given as goal

abbrev pub invariant-loop-store : goal.invariant-loop-store
invariant-loop-store l = l.last ≡ last_laid l.stays (listed l.list) l.address l.store
