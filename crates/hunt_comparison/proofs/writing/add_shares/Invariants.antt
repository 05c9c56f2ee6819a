use Rattle.std.proofs.Common.{◌≡◌, ◌++◌, ◌+◌, drop}
use Rattle.hunt_comparison.specs.Text.{share_texts}
use Rattle.hunt_comparison.proofs.writing.add_shares.Given as goal

-- with the endings that are left
abbrev pub invariant-loop-index : goal.invariant-loop-index
invariant-loop-index l = l.line ++ share_texts l.all l.others (l.index + 1) (drop l.index l.compared) ≡ l.fn.line ++ share_texts l.all l.others 1 l.compared
