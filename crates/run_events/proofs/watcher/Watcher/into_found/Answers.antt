use Rattle.run_events.proofs.Seen.{all_found}
use Rattle.run_events.proofs.watcher.Watcher.into_found.Goals as goal

pub returns : goal.returns
returns g c = λ es seen. all_found g.S.Search.ranges g.S.Search.within c.look_through.new.self.sought _ _ es c.in_ok-look_through.ensures.last (c.look_through.ensures.seen es seen)
