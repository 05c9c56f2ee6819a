use Rattle.guest_rounds.proofs.Listed.{ready_stay}
use Rattle.guest_rounds.proofs.room.make_spares.Goals as goal

pub returns-clause-ready : goal.returns-clause-ready
returns-clause-ready c = ready_stay c.args.pages.now c.prepare.new.self c.args.ends.now (record { memory = c.prepare.ensures.memory; count = c.prepare.ensures.count; stays = c.prepare.ensures.stays }) c.requires
