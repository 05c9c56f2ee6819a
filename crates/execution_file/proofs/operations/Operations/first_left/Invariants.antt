use Rattle.std.proofs.Common.{◌≡◌, ℕ, ◌<◌, ◌≤◌, true, false, get_or}
use Rattle.execution_file.proofs.operations.Operations.first_left.Given as goal

abbrev pub invariant-loop-number : goal.invariant-loop-number
invariant-loop-number l = record {
  same : l.self ≡ l.fn.self;
  passed : (k : ℕ) → l.fn.self.next ≤ k → k < l.number → get_or l.fn.self.named.items k false ≡ true;
}
