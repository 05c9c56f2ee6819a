use Rattle.round_schedule.proofs.Forms.{passing}
use Rattle.round_schedule.proofs.laws.events_pass.Goals as goal

pub returns : goal.returns
returns g c = passing _ _
