use Rattle.run_events.proofs.Seen.{looked_through}
use Rattle.run_events.proofs.watcher.Watcher.look_through.Goals as goal

pub returns-clause-seen : goal.returns-clause-seen
returns-clause-seen g c = λ es seen.
    looked_through g.S.Search.ranges g.S.Search.within c.args.self.now.sought c.args.self.now.found.items c.args.self.now.last.events c.in_ok-found.found.items
    c.append.new.self.items c.new-2.result.events es c.in_ok-found.ensures c.in_ok-append.ensures.items c.new-2.ensures.events seen
