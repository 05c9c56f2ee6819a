use Rattle.fence_search.proofs.Stood.{searched_so}
use Rattle.fence_search.proofs.searching.search_fences.Goals as goal

pub returns : goal.returns
returns g c =
    let told = c.gathered.ensures in
    searched_so (g.E.Executer.comes_to c.args.guest.now) (g.O.TrialObserver.answers c.args.observer.now) c.in_ok-runs.runs c.args.extent c.in_ok-trials.trials c.gathered.result
    c.in_ok-runs.ensures c.in_ok-trials.ensures told.none_lost told.counted told.done told.runs
