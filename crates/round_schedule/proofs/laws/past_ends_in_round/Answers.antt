use Rattle.round_schedule.proofs.PastEnds.{past_ends}
use Rattle.round_schedule.proofs.laws.past_ends_in_round.Goals as goal

pub returns : goal.returns
returns g c = past_ends _ _
