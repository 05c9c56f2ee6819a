use Rattle.round_schedule.proofs.Holding.{held_by_last}
use Rattle.round_schedule.proofs.laws.held_is_by_last_reserve.Goals as goal

pub returns : goal.returns
returns c = held_by_last
