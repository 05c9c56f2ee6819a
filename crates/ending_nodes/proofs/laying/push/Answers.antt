use Rattle.ending_nodes.proofs.Memories.{memory_pushed}
use Rattle.ending_nodes.proofs.laying.push.Goals as goal

pub returns : goal.returns
returns c = λ opening x. memory_pushed c.args.all.now.items c.push.new.self.items c.args.store opening x c.in_ok-push.ensures.items
