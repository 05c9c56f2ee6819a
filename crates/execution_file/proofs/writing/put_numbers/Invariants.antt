use Rattle.std.proofs.Common.{◌≡◌, ◌++◌, ℕ, drop, map}
use Rattle.execution_file.specs.Grammar.{double}
use Rattle.execution_file.specs.Formats.{spelled_list}
use Rattle.execution_file.proofs.writing.put_numbers.Given as goal

abbrev pub invariant-loop-number : goal.invariant-loop-number
invariant-loop-number l = l.text.items ++ spelled_list double (drop l.number-index (map (λ (n : ℕ). n) l.numbers)) ≡ l.fn.text.items ++ spelled_list double (map (λ (n : ℕ). n) l.numbers)
