use Rattle.run_events.proofs.InParts.{front_of_part}
use Rattle.run_events.proofs.parts.add_first_pcs.Goals as goal

pub add_in_walk-requires-clause-part : goal.add_in_walk-requires-clause-part
add_in_walk-requires-clause-part c = front_of_part _ _ _ c.count_of_part-count.ensures.count
