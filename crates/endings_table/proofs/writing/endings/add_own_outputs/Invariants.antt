use Rattle.std.proofs.Common.{◌≡◌, ◌++◌, drop}
use Rattle.endings_table.specs.Text.{own_outputs}
use Rattle.endings_table.proofs.writing.endings.add_own_outputs.Given as goal

abbrev pub invariant-loop-hart : goal.invariant-loop-hart
invariant-loop-hart l = l.line ++ own_outputs l.hart (drop l.hart l.outputs) ≡ l.fn.line ++ own_outputs 0 l.outputs
