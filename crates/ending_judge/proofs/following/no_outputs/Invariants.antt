use Rattle.std.proofs.Common.{◌≡◌, ℕ, [], All, length}
use Rattle.std.specs.Global.{Vec}
use Rattle.ending_judge.proofs.following.no_outputs.Given as goal

abbrev pub invariant-loop : goal.invariant-loop
invariant-loop l = (length l.outputs.items ≡ l.counter) × All (λ (o : Vec ℕ). o.items ≡ []) l.outputs.items
