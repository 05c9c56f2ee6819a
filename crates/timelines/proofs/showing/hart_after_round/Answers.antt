use Rattle.std.proofs.Common.{◌<◌, length, ap, sym, ◌∙◌, arith}
use Rattle.round_planner.specs.Quotas.{Planned}
use Rattle.machine.specs.Machine.{after_rounds}
use Rattle.machine.specs.Untraced.{IsUntraced}
use Rattle.timelines.proofs.ShownThere.{after_turn}
use Rattle.timelines.proofs.showing.hart_after_round.Goals as goal

pub returns : goal.returns
returns g c = λ m is.
    let ran = rw c.in_ok-of_memory.ensures at c.run.ensures in
    let later : IsUntraced (after_rounds 1 m) c.run.new.self = ran.ok m is in
    let plans = ap (λ (p : Planned). p.harts) (later.plan ∙ sym is.plan) in
    let within : c.args.number < length c.harts-harts-2.result.now = omega (arith, c.harts-harts-2.ensures.count, plans, c.harts-harts.ensures.count, c.requires.hart, ap length c.harts-harts.ensures.harts) in
    after_turn m c.run.new.self c.harts-harts-2.result.now c.args.number _ later c.harts-harts-2.ensures.harts within
