use Rattle.std.proofs.Common.{◌≡◌, ◌≤◌, ◌+◌, ◌-◌, map, ℕ}
use Rattle.std.specs.Int.{w64}
use Rattle.recording.specs.Fields.{taken_each}
use Rattle.recording.specs.Grammar.{any}
use Rattle.recording.proofs.Loops.{with_front}
use Rattle.recording.proofs.lists.hart_registers_at.Given as goal

abbrev pub invariant-loop : goal.invariant-loop
invariant-loop l = (l.counter ≤ 31) × (with_front (map (λ (n : ℕ). n) l.registers.items) (taken_each (31 - l.counter) (1 + l.counter) (λ x. any w64) l.rest) ≡ taken_each 31 1 (λ x. any w64) l.bytes)
