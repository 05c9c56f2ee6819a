use Rattle.std.proofs.Common.{◌≡◌, ℕ, ◌<◌, get_or}
use Rattle.elf_loader.proofs.offset.before_zero.Given as goal

-- no byte so far is 0
abbrev pub invariant-loop-end : goal.invariant-loop-end
invariant-loop-end l = (k : ℕ) → k < l.end → get_or l.bytes k 0 ≡ 0 → ⊥
