-- What is told of a search.
use Rattle.std.specs.Prelude.{◌≡◌, ℕ, ◌+◌}
use Rattle.fence_finder.specs.declared.finding.Searched.{Searched}
use Rattle.fence_finder.specs.MissingFences.{missing_plans}
use Rattle.fence_finder.specs.declared.findings.Findings.{Findings}
use Rattle.fence_finder.specs.declared.settings.FenceSettings.{FenceSettings}
use Rattle.fence_table.specs.declared.fence_table.FenceTable.{FenceTable}

-- how many numbers fail for want of some fences, or of none at a gap
abbrev pub told_plans : Findings → ℕ
told_plans f = missing_plans f.missing.items + f.accepted.plans + f.unnamed.plans

-- the table has what was found
pub record IsTableFrom (f : Searched) (s : FenceSettings) (t : FenceTable) : Type 0 where
  pub seed : t.seed ≡ s.hunt.header.seed
  pub first : t.first ≡ s.hunt.header.first
  pub count : t.count ≡ f.search.done
  pub ranges : t.ranges.items ≡ s.hunt.header.ranges.items
  pub ordinary : t.ordinary ≡ f.search.counted.ordinary
  pub unnamed : t.unnamed ≡ f.findings.unnamed
  pub running : t.running ≡ f.search.counted.running
  pub accepted : t.accepted ≡ f.findings.accepted
  pub missing : t.missing ≡ f.findings.missing
