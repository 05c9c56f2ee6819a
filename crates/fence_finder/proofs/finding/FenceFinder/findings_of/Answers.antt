use Rattle.std.proofs.Common.{◌∙◌, ap, arith}
use Rattle.fence_finder.proofs.Told.{search_so, told_so}
use Rattle.fence_finder.specs.declared.guest.Guest.{Guest}
use Rattle.fence_trials.specs.declared.guest.Reach.{Reach}
use Rattle.fence_finder.proofs.finding.FenceFinder.findings_of.Goals as goal

pub returns-clause-told : goal.returns-clause-told
returns-clause-told g c = λ t is.
    let s = c.args.settings.now in
    let found = c.in_ok-findings.ensures in
    let search = search_so (g.E.Executer.comes_to c.new.result) _ s.accepted c.extent.result c.in_ok-search.search
    (ap (λ (x : Guest). x.settings.now.accepted) c.new-looking.ensures) c.in_ok-search.ensures in
    told_so g.E.Executer.comes_to c.args.opening s _ c.new.result c.extent.result t
    (record {
      is_opening = c.new.ensures.opening;
      seed = c.new.ensures.seed;
      rounds = ap (λ (r : Reach). r.rounds) c.new.ensures.reach;
      steps = ap (λ (r : Reach). r.steps) c.new.ensures.reach;
      ranges = c.new.ensures.ranges ∙ c.deref.ensures.value;
      fences = c.new.ensures.fences ∙ c.deref-2.ensures.value;
    }) c.extent.ensures search (omega (arith, c.if-search-ne0.false)) found.none_lost found.missing found.usual is
