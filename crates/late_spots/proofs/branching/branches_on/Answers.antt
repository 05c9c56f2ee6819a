use Rattle.std.proofs.Common.{ℕ, subst}
use Rattle.late_spots.specs.Branching.{BranchesAt}
use Rattle.late_spots.proofs.branching.branches_on.Goals as goal

pub returns : goal.returns
returns c = λ held image pc at there next. record {
  load = c.args.load.now;
  there = there;
  reads = λ x. c.is_plain_load.ensures c.if-not-is_plain_load.false x pc;
  some = c.steers_by.ensures.some held;
  branch = c.args.branch.now;
  next = next;
  branches = subst (λ (p : ℕ). BranchesAt c.args.branch.now p) at (c.branches_at.ensures c.if-not-branches_at.false);
  steers = c.steers_by.ensures.steers held;
  by_it = c.steers_by.ensures.by_it held;
}
