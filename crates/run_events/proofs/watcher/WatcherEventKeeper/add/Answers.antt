use Rattle.std.proofs.Common.{refl}
use Rattle.guest_rounds.specs.HartEnds.{round_events}
use Rattle.run_events.proofs.Seen.{more_seen, still_trace}
use Rattle.run_events.proofs.watcher.WatcherEventKeeper.add.Goals as goal

pub add-requires-clause-sound : goal.add-requires-clause-sound
add-requires-clause-sound g c =
    let more = round_events c.args.round c.args.ends.now c.args.log.now.closed in (
      c.args.self.now.last.events,
      refl,
      still_trace g.S.Search.ranges g.S.Search.within c.args.self.now.sought c.args.self.now.found.items c.args.self.now.last.events more c.requires.sound.0 c.requires.sound.1 c.requires.sound.2,
    )

pub returns-clause-kept : goal.returns-clause-kept
returns-clause-kept g c = λ es seen.
    more_seen g.S.Search.ranges g.S.Search.within c.args.self.now.sought c.args.self.now.found.items c.args.self.now.last.events _
    (round_events c.args.round c.args.ends.now c.args.log.now.closed) es (c.add.ensures.kept c.args.self.now.last.events refl) seen
