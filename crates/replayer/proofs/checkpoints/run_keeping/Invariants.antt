use Rattle.std.proofs.Common.{◌≡◌, ◌≤◌, ◌<◌, ◌-◌, false, map}
use Rattle.machine.specs.Machine.{after_rounds}
use Rattle.recording.specs.Views.{checkpoint_view}
use Rattle.replayer.specs.Checkpoints.{AreCheckpoints}
use Rattle.replayer.specs.Visits.{IsVerdictUpTo}
use Rattle.replayer.proofs.CheckpointMachines.{IsMultiple}
use Rattle.replayer.proofs.checkpoints.run_keeping.Given as goal

abbrev pub invariant-loop-done : goal.invariant-loop-done
invariant-loop-done g l =
    (l.machine ≡ after_rounds l.done l.fn.machine)
    × (l.machine.state.rounds ≡ l.done)
    × ((l.done ≤ l.rounds) × (l.done < l.rounds → IsMultiple l.every l.done))
    × ((map checkpoint_view l.comparing.checkpoints.now ≡ l.recording.checkpoints) × (l.comparing.every ≡ l.recording.every) × (l.comparing.ends ≡ false))
    × IsVerdictUpTo l.recording.checkpoints l.recording.every l.fn.machine l.done l.comparing.verdict
    × AreCheckpoints l.every l.done l.fn.machine l.machines.items

abbrev pub decreases-loop-done : goal.decreases-loop-done
decreases-loop-done g l = l.rounds - l.done
