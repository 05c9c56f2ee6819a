use Rattle.round_schedule.proofs.Same.{same_entries}
use Rattle.round_schedule.proofs.reservations.are_same.Goals as goal

pub returns : goal.returns
returns c = same_entries c.args.entries.now c.args.others.now c.eq.result c.eq.ensures
