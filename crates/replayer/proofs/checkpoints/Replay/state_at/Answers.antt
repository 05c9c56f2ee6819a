use Rattle.std.proofs.Common.{◌≡◌, Option, ap, arith, subst}
use Rattle.std.specs.Prelude.{IfOk}
use Rattle.hart_step.specs.declared.hart.Hart.{Hart}
use Rattle.machine.specs.Machine.{after_rounds}
use Rattle.replayer.specs.Checkpoints.{Opened}
use Rattle.run_events.proofs.RoundsAt.{from_before}
use Rattle.replayer.proofs.checkpoints.Replay.state_at.Goals as goal

pub hart_in_round-requires-clause-run : goal.hart_in_round-requires-clause-run
hart_in_round-requires-clause-run g c = λ lifetimes within. (c.in_ok-machine.ensures.machine.0, c.in_ok-machine.ensures.machine.1)

pub returns-clause-hart : goal.returns-clause-hart
returns-clause-hart g c =
    let e = c.in_ok-machine.ensures.machine in
    subst (λ (w : Option Hart). IfOk c.hart_in_round.result (λ h. h ≡ w))
    (from_before c.args.self.now.rounds c.args.self.now.start (after_rounds c.in_ok-machine.left e.0) c.args.round c.args.hart c.args.count
    (omega (arith, c.if-round-eq0.false)) (omega (arith, c.if-round-self.false, ap (λ (o : Opened). o.rounds) c.self.view_is)) e.2)
    (c.hart_in_round.ensures.hart e.0 e.1)
