use Rattle.std.proofs.Common.{◌≡◌, ◌≤◌, ◌-◌, ℕ, map}
use Rattle.execution_file.specs.Grammar.{is_line_end}
use Rattle.execution_file.specs.Formats.{broken, byte, taken_each}
use Rattle.execution_file.proofs.Loops.{with_front}
use Rattle.execution_file.proofs.bytes.lines_at.Given as goal

abbrev pub invariant-loop-index : goal.invariant-loop-index
invariant-loop-index l = (l.index ≤ l.count) × (with_front (map (λ (n : ℕ). n) l.all.items) (taken_each (l.count - l.index) l.index (λ i. broken (is_line_end l.count i) byte) l.rest) ≡ taken_each l.count 0 (λ i. broken (is_line_end l.count i) byte) l.bytes)
