use Rattle.std.proofs.Common.{◌≡◌, ◌≤◌, ◌+◌, ◌-◌, map}
use Rattle.recording.specs.Fields.{taken_each}
use Rattle.recording.specs.Grammar.{checkpoint_after}
use Rattle.recording.specs.Views.{checkpoint_view}
use Rattle.recording.proofs.Loops.{with_front}
use Rattle.recording.proofs.lists.rounds_at.Given as goal

abbrev pub invariant-loop-done : goal.invariant-loop-done
invariant-loop-done l = (l.done ≤ l.rounds) × (with_front (map (checkpoint_view) l.checkpoints.items) (taken_each (l.rounds - l.done) (l.done + 1) (checkpoint_after l.count l.every) l.rest) ≡ taken_each l.rounds 1 (checkpoint_after l.count l.every) l.bytes)
