use Rattle.std.proofs.Common.{◌≡◌, ◌≤◌, map, take, length, vec_capacity}
use Rattle.trace.specs.Briefs.{widened}
use Rattle.trace.proofs.brief_group.BriefGroup.of.Given as goal

abbrev pub invariant-loop-access : goal.invariant-loop-access
invariant-loop-access l = record {
  same : map (widened l.base) l.briefs.items ≡ take l.access-index l.accesses;
  room : length l.accesses ≤ vec_capacity l.briefs;
}
