use Rattle.std.proofs.Common.{◌∙◌, subst}
use Rattle.memory_order.specs.RoundOrder.{IsRoundOrder}
use Rattle.memory_order.proofs.Meeting.{respects_program_order, meets_rvwmo}
use Rattle.memory_order.proofs.order.memory_order.Goals as goal

pub returns-clause-meets : goal.returns-clause-meets
returns-clause-meets c = meets_rvwmo _ _ (subst (λ t. IsRoundOrder t c.in_ok-by_rounds.field-0.items) (c.deref.ensures.value ∙ c.in_ok-events.ensures.events) c.in_ok-by_rounds.ensures)

pub returns-clause-program : goal.returns-clause-program
returns-clause-program c = respects_program_order _ _ (subst (λ t. IsRoundOrder t c.in_ok-by_rounds.field-0.items) (c.deref.ensures.value ∙ c.in_ok-events.ensures.events) c.in_ok-by_rounds.ensures)
