use Rattle.all_checker.proofs.Nobodys.{nobodys}
use Rattle.all_checker.proofs.owning.unseen.Goals as goal

pub returns : goal.returns
returns c = nobodys c.loop-own.owned.items c.args.see.now c.loop-own.invariant
