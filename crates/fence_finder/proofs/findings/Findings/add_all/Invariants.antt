use Rattle.std.proofs.Common.{◌≡◌, ◌+◌, take}
use Rattle.fence_finder.specs.MissingFences.{AreMissing, AreShown}
use Rattle.fence_finder.specs.Telling.{told_plans}
use Rattle.fence_search.specs.Gathered.{plans_of}
use Rattle.fence_finder.proofs.findings.Findings.add_all.Given as goal

-- what is told so far is shown and was tried, and no number of the places so far is lost
abbrev pub invariant-loop-weakness : goal.invariant-loop-weakness
invariant-loop-weakness g l = record {
  shown : AreShown l.guest.opening.image.now l.guest.opening.input.now l.guest.opening.harts.now l.self.missing.items;
  missing : AreMissing g.E.Executer.comes_to l.guest.maker l.search.runs l.guest.extent.first l.search.done l.self.missing.items;
  none_lost : told_plans l.self ≡ plans_of (take l.weakness-index l.search.weaknesses.items) + l.initial.self.unnamed.plans;
}
