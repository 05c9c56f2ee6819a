use Rattle.std.proofs.Common.{◌≡◌, ◌++◌, ◌-◌, length, option_map}
use Rattle.fence_table.specs.Accepting.{accepted_in, lines_said}
use Rattle.fence_table.proofs.accepted.Accepted.read.Given as goal

-- the gaps of the lines before, and those of the lines that are left
abbrev pub invariant-loop-index : goal.invariant-loop-index
invariant-loop-index l = option_map (λ more. l.pairs.items ++ more) (lines_said (length l.text - l.index) l.rest) ≡ accepted_in l.text
