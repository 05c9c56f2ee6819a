use Rattle.std.proofs.Common.{sym, ◌∙◌}
use Rattle.late_spots.proofs.Branches.{branches_by}
use Rattle.late_spots.proofs.branching.branches_at.Goals as goal

pub returns-in-Branch : goal.returns-in-Branch
returns-in-Branch c = λ held. branches_by c.args.i.now c.in-Branch.distance c.args.pc (sym c.flow_of.ensures ∙ c.in-Branch.is) (c.is_whole.ensures held)
