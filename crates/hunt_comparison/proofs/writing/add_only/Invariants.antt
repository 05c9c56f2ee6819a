use Rattle.std.proofs.Common.{◌≡◌, ◌++◌, ◌+◌, drop}
use Rattle.hunt_comparison.specs.Text.{only_texts}
use Rattle.hunt_comparison.proofs.writing.add_only.Given as goal

-- with the endings that are left
abbrev pub invariant-loop-index : goal.invariant-loop-index
invariant-loop-index l = l.line ++ only_texts l.word l.header (l.index + 1) (drop l.index l.compared) ≡ l.fn.line ++ only_texts l.word l.header 1 l.compared
