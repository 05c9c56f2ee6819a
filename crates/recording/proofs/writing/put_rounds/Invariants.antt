use Rattle.std.proofs.Common.{◌≡◌, ◌++◌, ◌+◌, ℕ, drop, map}
use Rattle.recording.specs.Fields.{spelled_each}
use Rattle.recording.specs.Grammar.{checkpoint_after}
use Rattle.recording.specs.Views.{checkpoint_view}
use Rattle.recording.proofs.writing.put_rounds.Given as goal

abbrev pub invariant-loop-index : goal.invariant-loop-index
invariant-loop-index l = (count : ℕ) → l.text.items ++ spelled_each (l.index + 1) (checkpoint_after count l.every) (drop l.index (map checkpoint_view l.checkpoints)) ≡ l.fn.text.items ++ spelled_each 1 (checkpoint_after count l.every) (map checkpoint_view l.checkpoints)
