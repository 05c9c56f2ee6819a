use Rattle.std.proofs.Common.{◌≡◌, ◌+◌, ◌==◌, drop, not}
use Rattle.std.specs.List.{prefix_len}
use Rattle.fence_table.proofs.accepted.length_before.Given as goal

-- so far none is the value
abbrev pub invariant-loop-position : goal.invariant-loop-position
invariant-loop-position l = l.position + prefix_len (λ b. not (b == l.end)) (drop l.position l.bytes) ≡ prefix_len (λ b. not (b == l.end)) l.bytes
