use Rattle.std.proofs.Common.{ℕ, IfSome, subst}
use Rattle.fence_search.specs.Counting.{tried_by}
use Rattle.fence_trials.specs.Trials.{WasTried}
use Rattle.fence_search.proofs.searcher.Searcher.trial_in.Goals as goal

pub returns-then-tried-number : goal.returns-then-tried-number
returns-then-tried-number g c =
    let search = c.args.self.now in
    let comes_to = g.E.Executer.comes_to search.guest.now in
    let was : WasTried comes_to search.runs.now c.in-Some.tried = subst (λ s. IfSome s (WasTried comes_to search.runs.now)) c.in-Some.is c.requires in
    subst (λ (i : ℕ). tried_by comes_to search.runs.now i c.in-Some.tried.trial) c.if-tried-number.true was.is
