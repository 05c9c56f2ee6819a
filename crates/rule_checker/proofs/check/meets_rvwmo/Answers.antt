use Rattle.trace.specs.Traced.{opening_at}
use Rattle.memory_order.specs.Dependencies.{DependencyRule}
use Rattle.memory_order.proofs.Composing.{at_some}
use Rattle.rule_checker.proofs.Exactness.{meets_all_whole}
use Rattle.rule_checker.proofs.check.meets_rvwmo.Goals as goal

pub returns-in_ok-meets_all-in-Some : goal.returns-in_ok-meets_all-in-Some
returns-in_ok-meets_all-in-Some c =
    meets_all_whole (DependencyRule c.args.instructions.now c.args.events.now) c.args.events.now (opening_at c.args.opening.now.opening) c.args.order.now _
    (at_some c.in_ok-ranks.field-0 c.in-Some.ranks _ _ c.in-Some.is c.in_ok-ranks.ensures).0
    c.in_ok-meets_all-in-Some.ensures
