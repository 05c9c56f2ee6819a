use Rattle.std.proofs.Common.{◌≡◌, None, All, length}
use Rattle.many_makers.proofs.slots.empty_slots.Given as goal

abbrev pub invariant-loop : goal.invariant-loop
invariant-loop g l = (length l.slots.items ≡ l.counter) × All (λ s. s ≡ None) l.slots.items
