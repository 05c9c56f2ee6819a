use Rattle.std.proofs.Common.{◌∙◌, ap, length}
use Rattle.round_schedule.specs.Reservations.{entry}
use Rattle.execution.proofs.Liking.{like_served, length-answered}
use Rattle.execution.proofs.step.do_step.Goals as goal

pub returns-clause-like : goal.returns-clause-like
returns-clause-like c = λ image like.
    like_served image c.make_room.new.shared.pages.memory c.serve.new.state.pages.memory c.args.step.round c.args.h.now c.make_room.new.shared.console.console
    (entry c.hold.new.reservations c.from-hart.result) c.serve.ensures.serves.pages.memory (c.in_ok-make_room.ensures.like image like)

pub returns-clause-reservations : goal.returns-clause-reservations
returns-clause-reservations c =
    ap length c.serve.ensures.serves.reservations ∙ length-answered c.from-hart.result _ c.hold.new.reservations ∙ c.hold.ensures.size ∙ ap length c.in_ok-make_room.ensures.reservations
