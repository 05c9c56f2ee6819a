use Rattle.std.proofs.Common.{◌≡◌, ◌≤◌, ◌-◌, ℕ, length, map}
use Rattle.execution_file.specs.Grammar.{double}
use Rattle.execution_file.specs.Formats.{taken_list}
use Rattle.execution_file.proofs.Loops.{with_front}
use Rattle.execution_file.proofs.lists.numbers_at.Given as goal

abbrev pub invariant-loop : goal.invariant-loop
invariant-loop l = (l.counter ≤ length l.bytes) × (with_front (map (λ (n : ℕ). n) l.numbers.items) (taken_list (length l.bytes - l.counter) double l.rest) ≡ taken_list (length l.bytes) double l.bytes)
