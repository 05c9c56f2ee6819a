use Rattle.refusal_reasons.proofs.Once.{lists_from}
use Rattle.refusal_reasons.proofs.find.find_unlisted.Goals as goal

pub unreachable-requires : goal.unreachable-requires
unreachable-requires c = c.requires (lists_from c.args.events.now c.args.order.now c.in_default.ensures c.in_default-first_twice.ensures c.in-None.ensures)
