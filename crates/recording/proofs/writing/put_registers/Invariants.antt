use Rattle.std.proofs.Common.{◌≡◌, ◌++◌, ◌+◌, ℕ, drop, map}
use Rattle.std.specs.Int.{w64}
use Rattle.recording.specs.Fields.{spelled_each}
use Rattle.recording.specs.Grammar.{any}
use Rattle.recording.proofs.writing.put_registers.Given as goal

abbrev pub invariant-loop-value : goal.invariant-loop-value
invariant-loop-value l = l.text.items ++ spelled_each (l.value-index + 1) (λ _. any w64) (drop l.value-index (map (λ (n : ℕ). n) l.values)) ≡ l.fn.text.items ++ spelled_each 1 (λ _. any w64) (map (λ (n : ℕ). n) l.values)
