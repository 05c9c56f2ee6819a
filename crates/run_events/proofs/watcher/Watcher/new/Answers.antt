use Rattle.run_events.proofs.Seen.{none_seen}
use Rattle.run_events.proofs.watcher.Watcher.new.Goals as goal

pub returns : goal.returns
returns g c = none_seen g.S.Search.ranges g.S.Search.within c.args.sought _ _ c.requires.ranges c.requires.within c.new.ensures.items c.new-3.ensures.events
