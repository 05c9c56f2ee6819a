use Rattle.std.specs.Result.{is_ok}
use Rattle.timelines.proofs.Stretches.{one_more_there}
use Rattle.timelines.proofs.timeline.keep_far.Goals as goal

pub returns-clause-there : goal.returns-clause-there
returns-clause-there c = λ start all is.
    let shared = rw c.in_ok-copy.ensures at c.share.ensures in
    one_more_there start c.args.machine.now c.in_ok-copy.copy c.args.machines.now.items c.push.new.self.items (is_ok c.push.result) all is shared.same c.push.ensures.items
