use Rattle.std.specs.Prelude.{◌≡◌, true}
use Rattle.memory_order.proofs.Fewer.{fewer_are_met}
use Rattle.memory_order.proofs.laws.fewer_dependencies_are_met.Goals as goal

pub returns : goal.returns
returns c more fewer t opening g h = fewer_are_met (λ pos a b. fewer pos a b ≡ true) (λ pos a b. more pos a b ≡ true) t opening g h
