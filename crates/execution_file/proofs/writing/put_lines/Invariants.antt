use Rattle.std.proofs.Common.{◌≡◌, ◌++◌, ℕ, drop, length, map}
use Rattle.execution_file.specs.Grammar.{is_line_end}
use Rattle.execution_file.specs.Formats.{broken, byte, spelled_each}
use Rattle.execution_file.proofs.writing.put_lines.Given as goal

abbrev pub invariant-loop-index : goal.invariant-loop-index
invariant-loop-index l = l.text.items ++ spelled_each l.index (λ i. broken (is_line_end (length l.bytes) i) byte) (drop l.index (map (λ (n : ℕ). n) l.bytes)) ≡ l.fn.text.items ++ spelled_each 0 (λ i. broken (is_line_end (length l.bytes) i) byte) (map (λ (n : ℕ). n) l.bytes)
