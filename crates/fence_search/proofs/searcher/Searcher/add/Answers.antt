use Rattle.std.proofs.Common.{refl}
use Rattle.fence_search.proofs.Stood.{stands_after}
use Rattle.fence_search.proofs.searcher.Searcher.add.Goals as goal

pub returns-clause-stands : goal.returns-clause-stands
returns-clause-stands g c =
    let me = c.args.self.now in
    let done = c.in_ok-add.ensures in
    stands_after (g.E.Executer.comes_to me.guest.now) (g.O.TrialObserver.answers me.observer.now) me.runs.now me.extent c.args.trials.now _ c.args.trial c.in_ok-is_over.is_over
    c.requires.more c.requires.going c.requires.stands c.requires.tried c.in_ok-is_over.ensures done.counted done.done done.found refl
