use Rattle.std.proofs.Common.{◌≡◌, length, map, take, unwrap_or}
use Rattle.hart_states.proofs.registers.filled.Given as goal

abbrev pub invariant-loop-r : goal.invariant-loop-r
invariant-loop-r l = record {
  size : length l.numbers ≡ 32;
  same : take l.r l.numbers ≡ map (λ o. unwrap_or o 0) (take l.r l.registers);
}
