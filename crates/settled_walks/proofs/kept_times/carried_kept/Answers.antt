use Rattle.settled_walks.proofs.Counted.{carried_counted}
use Rattle.settled_walks.proofs.kept_times.carried_kept.Goals as goal

pub returns : goal.returns
returns c =
    carried_counted c.args.stays.now _ _ c.registers_kept.ensures.new c.registers_kept.ensures.old c.registers_kept.ensures.each c.kept_before.ensures c.kept_before-2.ensures
