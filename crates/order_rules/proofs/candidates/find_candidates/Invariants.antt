use Rattle.std.proofs.Common.{◌-◌}
use Rattle.memory_order.specs.Orders.{order_position}
use Rattle.order_rules.specs.Behind.{AreCandidates, IsBehind}
use Rattle.order_rules.proofs.candidates.find_candidates.Given as goal

abbrev pub invariant-loop-back : goal.invariant-loop-back
invariant-loop-back l =
    IsBehind l.instructions l.events (order_position l.order) l.b (l.b - l.back) l.behind ×
    AreCandidates l.instructions l.events (order_position l.order) l.b (l.b - l.back) l.may.items
