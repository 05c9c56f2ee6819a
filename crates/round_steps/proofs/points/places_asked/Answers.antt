use Rattle.round_steps.proofs.Silent.{no_places}
use Rattle.round_steps.proofs.points.places_asked.Goals as goal

pub returns-then-is_silent-clause-places : goal.returns-then-is_silent-clause-places
returns-then-is_silent-clause-places g c = λ m is code. no_places c.args.asked.now (c.is_silent.ensures c.if-is_silent.true) m c.new.result.items c.new.ensures.items
