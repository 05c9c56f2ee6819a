use Rattle.std.proofs.Common.{◌≡◌, ◌≤◌, ◌+◌, ◌-◌, map}
use Rattle.std.specs.Int.{w64}
use Rattle.recording.specs.Fields.{taken_each, each}
use Rattle.recording.specs.Grammar.{any}
use Rattle.recording.proofs.Loops.{with_front}
use Rattle.recording.proofs.lists.registers_at.Given as goal

abbrev pub invariant-loop : goal.invariant-loop
invariant-loop l = (l.counter ≤ l.count) × (with_front (map (λ r. r.items) l.harts.items) (taken_each (l.count - l.counter) (0 + l.counter) (λ i. each 31 1 (λ x. any w64)) l.rest) ≡ taken_each l.count 0 (λ i. each 31 1 (λ x. any w64)) l.bytes)
