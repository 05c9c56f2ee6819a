use Rattle.std.proofs.Common.{◌∙◌, true, false, arith}
use Rattle.std.proofs.lemmas.List.{get_or_default}
use Rattle.memory_order.specs.Orders.{order_position}
use Rattle.order_rules.proofs.Naming.{asked_by}
use Rattle.refusal_reasons.proofs.pairs.broken_by_candidate.Goals as goal

pub returns-then-not-may-first : goal.returns-then-not-may-first
returns-then-not-may-first c = λ rule k.
    let no = get_or_default c.args.may.now c.args.first true false (omega (arith, c.requires.candidates.size, c.requires.earlier)) ∙ c.if-not-may-first.true in
    c.requires.candidates.none c.args.first (omega arith) c.requires.earlier no k.before rule
    (asked_by rule c.args.instructions.now c.args.events.now (order_position c.args.order.now) c.args.first c.args.second k.ordered)
