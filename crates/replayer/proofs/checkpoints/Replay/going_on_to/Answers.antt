use Rattle.std.proofs.Common.{ap, ◌∙◌, ◌≡◌, ◌+◌, refl, subst, ℕ}
use Rattle.replayer.specs.Checkpoints.{Opened}
use Rattle.replayer.proofs.CheckpointMachines.{going_on, going_counted}
use Rattle.replayer.proofs.checkpoints.Replay.going_on_to.Goals as goal

pub returns-clause-machine : goal.returns-clause-machine
returns-clause-machine c =
    let checkpoint = c.in-Some.machine.now in (
      checkpoint,
      c.in_ok-copy_untraced-in-Some.ensures.run,
      going_on c.args.self.now c.last_multiple-number.result.0 c.last_multiple-number.result.1 c.args.rounds c.self.inside.every checkpoint checkpoint (ap (λ (o : Opened). o.every) c.self.view_is) c.last_multiple-number.ensures.sum c.in-Some.ensures refl,
    )

pub returns-clause-rounds : goal.returns-clause-rounds
returns-clause-rounds c =
    let checkpoint = c.in-Some.machine.now in
    let counted : checkpoint.state.rounds + c.last_multiple-number.result.1 ≡ c.args.rounds =
    going_counted c.args.self.now c.last_multiple-number.result.0 c.last_multiple-number.result.1 c.args.rounds c.self.inside.every checkpoint checkpoint (ap (λ (o : Opened). o.every) c.self.view_is) c.last_multiple-number.ensures.sum c.in-Some.ensures refl
    (subst (λ (o : Opened). o.start.state.rounds ≡ 0) c.self.view_is c.self.invariant.0) in
    ap (λ (n : ℕ). n + c.last_multiple-number.result.1) c.in_ok-copy_untraced-in-Some.ensures.run.rounds ∙ counted
