use Rattle.memory_order.proofs.Meeting.{runs_meet}
use Rattle.memory_order.proofs.laws.orders_of_runs_meet_rvwmo.Goals as goal

pub returns : goal.returns
returns g c = runs_meet _ _
