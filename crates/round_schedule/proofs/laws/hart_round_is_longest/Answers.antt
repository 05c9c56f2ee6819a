use Rattle.round_schedule.proofs.Longest.{longest}
use Rattle.round_schedule.proofs.laws.hart_round_is_longest.Goals as goal

pub returns : goal.returns
returns g c = longest _ _
