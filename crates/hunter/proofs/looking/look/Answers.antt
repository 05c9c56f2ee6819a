use Rattle.std.proofs.Common.{◌≡◌, ℕ, ◌/◌, false, length, ◌∙◌, ap, subst, arith}
use Rattle.std.proofs.Math.Nat.{div-mul-le_self}
use Rattle.round_planner.specs.Quotas.{Planned, quotas_of}
use Rattle.serial_phase.specs.Decided.{comes_back_within}
use Rattle.hunter.proofs.Rounds.{few_turns}
use Rattle.hunter.proofs.Turns.{moves_first, never_back}
use Rattle.hunter.proofs.looking.look.Goals as goal

pub returns-then-rounds-row_count-clause-back : goal.returns-then-rounds-row_count-clause-back
returns-then-rounds-row_count-clause-back g c = λ m is.
    let r = c.row_count.result in
    let same : r ≡ length m.plan.rows = c.row_count.ensures.rows ∙ ap (λ (p : Planned). length p.rows) (c.plan.ensures ∙ is.plan) in
    subst (λ (n : ℕ). comes_back_within m.code m.plan.budget (quotas_of m.plan) n m.state c.args.rounds ≡ false) same
    (never_back m.code m.plan.budget (quotas_of m.plan) r 1 c.args.rounds m.state (omega (arith, c.row_count.ensures.some_rows))
    (moves_first m.code m.plan.budget (quotas_of m.plan) r m.state)
    (few_turns (c.args.rounds / r) r c.args.rounds (div-mul-le_self c.args.rounds r) c.if-rounds-row_count.true))
