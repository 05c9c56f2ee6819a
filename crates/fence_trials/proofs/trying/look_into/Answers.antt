use Rattle.std.proofs.Common.{ℕ, subst}
use Rattle.plan_hunt.specs.Endings.{Ended}
use Rattle.fence_trials.specs.Trials.{IsJudged}
use Rattle.fence_trials.specs.declared.departing.Departing.{Departing}
use Rattle.fence_trials.specs.declared.failing.Judgement.{Judgement}
use Rattle.fence_trials.proofs.Judged.{fails_badly, looked_after, well_anyway}
use Rattle.fence_trials.proofs.trying.look_into.Goals as goal

pub returns-in-Fails : goal.returns-in-Fails
returns-in-Fails g c =
    let a = c.args.attempt.now in
    let comes_to : Departing → Ended → Type 0 = λ d. g.E.Executer.comes_to a.guest.now d a.number in
    let none = c.no_departures.result in
    let without = subst (λ (j : Judgement). IsJudged (comes_to none) a.ordinary.now j) c.in-Fails.is c.in_ok-without.ensures in
    (fails_badly _ a.ordinary.now c.args.failing c.requires, (none, c.no_departures.ensures, fails_badly (comes_to none) a.ordinary.now c.in-Fails.field-0 without))

pub returns-in-Well : goal.returns-in-Well
returns-in-Well g c =
    let a = c.args.attempt.now in
    let comes_to : Departing → Ended → Type 0 = λ d. g.E.Executer.comes_to a.guest.now d a.number in
    looked_after comes_to a.ordinary.now a.number c.args.failing c.look_further.result c.requires
    (well_anyway comes_to a.ordinary.now c.no_departures.result c.in_ok-without.without c.no_departures.ensures c.in_ok-without.ensures c.in-Well.is) c.look_further.ensures
