use Rattle.std.proofs.Common.{◌≡◌, ◌≤◌, ◌-◌, map}
use Rattle.execution_file.specs.Grammar.{hart_lines}
use Rattle.execution_file.specs.Formats.{taken_each}
use Rattle.execution_file.specs.Views.{hart_view}
use Rattle.execution_file.proofs.Loops.{with_front}
use Rattle.execution_file.proofs.lists.so_many_harts_at.Given as goal

abbrev pub invariant-loop-index : goal.invariant-loop-index
invariant-loop-index l = (l.index ≤ l.count) × (with_front (map hart_view l.harts.items) (taken_each (l.count - l.index) l.index hart_lines l.rest) ≡ taken_each l.count 0 hart_lines l.bytes)
