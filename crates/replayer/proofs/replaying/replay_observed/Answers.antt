use Rattle.std.proofs.Common.{List, map, subst, ℕ}
use Rattle.std.proofs.lemmas.Result.{IfOk-weaker}
use Rattle.machine.specs.Machine.{Running}
use Rattle.recording.specs.Recorded.{Checkpoint}
use Rattle.recording.specs.Views.{checkpoint_view}
use Rattle.replayer.specs.Replayed.{IsVerdictOn, start_of}
use Rattle.replayer.proofs.replaying.replay_observed.Goals as goal

pub returns-clause-verdict : goal.returns-clause-verdict
returns-clause-verdict g c =
    let made = c.in_ok-machine.ensures.machine in
    let m : Running = start_of c.args.recording.now made.0 in
    IfOk-weaker c.first_difference-verdict.result _ _ (λ v is. (
      made.0,
      made.1,
      subst (λ (ks : List Checkpoint). IsVerdictOn ks c.args.recording.now.every m v) c.checkpoints.ensures.value
          (subst (λ (n : ℕ). IsVerdictOn (map checkpoint_view c.checkpoints.result.now) n m v) c.every.ensures is),
    )) (c.first_difference-verdict.ensures.verdict m made.2)
