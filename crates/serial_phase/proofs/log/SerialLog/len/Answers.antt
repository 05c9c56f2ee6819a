use Rattle.std.proofs.Common.{◌≡◌, List, [], length, take, sym, ap, ◌∙◌, arith}
use Rattle.round_schedule.specs.declared.access.Access.{Access}
use Rattle.serial_phase.specs.Turns.{Turns, count_log, open_turn, turns_at}
use Rattle.serial_phase.proofs.TurnLists.{count_all}
use Rattle.serial_phase.proofs.log.SerialLog.len.Goals as goal

pub returns : goal.returns
returns c =
    let xs = c.self.inside.accesses.items in
    let es = take c.self.inside.turns c.self.inside.ends in
    let none : length (open_turn xs 0 es) ≡ 0 = ap (λ (v : Turns). length v.current) c.self.view_is ∙ ap length c.requires in
    let all : count_log (turns_at xs 0 es) ≡ length xs = omega (arith, none, count_all xs 0 es c.self.invariant.1) in
    omega (arith, c.len.ensures) ∙ sym all ∙ ap (λ (v : Turns). count_log v.closed) c.self.view_is
