use Rattle.std.proofs.Common.{◌≡◌, ℕ, ◌+◌, Bool, cond, sym, ap, ◌∙◌, subst}
use Rattle.hart_step.specs.Room.{HasSpares}
use Rattle.serial_phase.specs.Phase.{budget_of, turn_of}
use Rattle.serial_phase.specs.Roomed.{HasRoom}
use Rattle.serial_phase.specs.UnderWay.{At}
use Rattle.serial_phase.proofs.TurnUnderWay.{ends_over, under_first}
use Rattle.serial_phase.proofs.phase.take_turn_of_waiting.Goals as goal

pub returns-then-not-waits-clause-turn : goal.returns-then-not-waits-clause-turn
returns-then-not-waits-clause-turn c =
    let x : At = record { hart = c.args.h.now; state = c.args.state.now } in
    let turn = turn_of c.args.phase c.args.hart in
    let none : turn.budget ≡ 0 = ap (λ (b : Bool). cond b c.args.phase.budget 0) (sym c.waits.ensures ∙ c.if-not-waits.true) in
    (ends_over turn turn.budget x x none c.requires.began (under_first turn x)).taken

pub returns-clause-pages : goal.returns-clause-pages
returns-clause-pages c = λ n.
    let whole : budget_of c.args.phase.waiting c.args.hart c.args.phase.budget ≡ c.args.phase.budget = ap (λ (b : Bool). cond b c.args.phase.budget 0) (sym c.waits.ensures ∙ c.if-not-waits.false) in
    λ spares. c.take_turn.ensures.pages n (subst (λ (m : ℕ). HasSpares (n + m) c.args.state.now.pages) whole spares)

pub returns-clause-console : goal.returns-clause-console
returns-clause-console c = λ n.
    let whole : budget_of c.args.phase.waiting c.args.hart c.args.phase.budget ≡ c.args.phase.budget = ap (λ (b : Bool). cond b c.args.phase.budget 0) (sym c.waits.ensures ∙ c.if-not-waits.false) in
    λ room. c.take_turn.ensures.console n (subst (λ (m : ℕ). HasRoom (n + m) c.args.state.now.console) whole room)
