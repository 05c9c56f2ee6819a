use Rattle.std.proofs.Common.{◌≡◌, ℕ, ◌+◌, ◌<◌, length, slice_index, Some}
use Rattle.pages.specs.Memory.{byte_of, width_bytes}
use Rattle.hart_states.specs.Opening.{opening_of}
use Rattle.all_endings.specs.HartRuns.{Gets}
use Rattle.all_endings.specs.RunStates.{Move, RunState}
use Rattle.hart_states.specs.Readings.{IsSpan}
use Rattle.hart_states.specs.States.{listed}
use Rattle.hart_states.proofs.reading.read_at.Given as goal

abbrev pub invariant-loop-k : goal.invariant-loop-k
invariant-loop-k l = record {
  sized : length l.bytes ≡ 8;
  many : length l.sources ≡ 8;
  read : (a : RunState) (v : Move) (n : ℕ) → IsSpan a l.known l.address (width_bytes l.width) → v.time ≡ l.time →
      Gets (listed l.list) (opening_of l.memory) a v l.address l.width (Some n) →
      (k : ℕ) → k < l.k → (slice_index l.bytes k ≡ byte_of n k) × (slice_index l.sources k ≡ v.source (l.address + k));
}
