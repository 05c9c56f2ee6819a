use Rattle.std.proofs.Common.{◌≡◌, ◌++◌, drop}
use Rattle.std.specs.List.{flat_map}
use Rattle.endings_table.specs.Text.{need_line}
use Rattle.endings_table.proofs.writing.add_needs.Given as goal

abbrev pub invariant-loop-fence : goal.invariant-loop-fence
invariant-loop-fence l = l.line ++ flat_map need_line (drop l.fence-index l.fences) ≡ l.fn.line ++ flat_map need_line l.fences
