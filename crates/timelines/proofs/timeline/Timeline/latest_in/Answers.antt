use Rattle.std.proofs.Common.{◌≡◌, ℕ, ◌-◌, ap, subst, sym, arith}
use Rattle.std.specs.Prelude.{IfOk}
use Rattle.machine.specs.Machine.{after_rounds}
use Rattle.machine.specs.Untraced.{IsUntraced, Untraced}
use Rattle.round_steps.specs.Points.{previous_point_of}
use Rattle.timelines.specs.Timelines.{Line}
use Rattle.timelines.proofs.timeline.Timeline.latest_in.Goals as goal

pub look_on-found-requires-clause-there : goal.look_on-found-requires-clause-there
look_on-found-requires-clause-there g c κs within = λ m is.
    let u : Untraced = c.in_ok-machine.machine in
    let there = subst (λ (l : Line). IsUntraced m l.start) c.in_ok-machine.ensures.stays is in
    subst (λ (n : ℕ). IsUntraced (after_rounds n m) u) (sym c.in_ok-machine.ensures.rounds) (c.in_ok-machine.ensures.machine m there)

pub look_on-found-requires-clause-within : goal.look_on-found-requires-clause-within
look_on-found-requires-clause-within g c κs within =
    let same = ap (λ (l : Line). l.rounds) c.in_ok-machine.ensures.stays in
    omega (arith, same, c.in_ok-machine.ensures.rounds)

pub returns-clause-previous : goal.returns-clause-previous
returns-clause-previous g c = λ m is.
    let t = c.args.telling.now in
    let there = subst (λ (l : Line). IsUntraced m l.start) (sym c.in_ok-machine.ensures.stays) is in
    subst (λ (n : ℕ). IfOk c.look_on-found.result (λ x. x ≡ previous_point_of t.asked t.watches.items (after_rounds n m) (c.args.end - c.args.begin) c.args.here.now))
    c.in_ok-machine.ensures.rounds (c.look_on-found.ensures.nearest m there)
