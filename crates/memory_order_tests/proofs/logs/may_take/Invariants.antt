use Rattle.std.proofs.Common.{◌≡◌, ◌++◌, take}
use Rattle.round_schedule.specs.Events.{events_of}
use Rattle.memory_order_tests.proofs.logs.may_take.Given as goal

abbrev pub invariant-loop-access : goal.invariant-loop-access
invariant-loop-access l = l.events.items ≡ l.trace.events ++ events_of l.round l.hart l.phase (take l.access-index l.accesses)
