use Rattle.std.proofs.Common.{◌≡◌, length, map, take, Some}
use Rattle.hart_states.proofs.registers.all_known.Given as goal

abbrev pub invariant-loop-r : goal.invariant-loop-r
invariant-loop-r l = record {
  size : length l.registers ≡ 32;
  same : take l.r l.registers ≡ map (λ n. Some n) (take l.r l.numbers);
}
