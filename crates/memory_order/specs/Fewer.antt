-- RVWMO with fewer dependencies.
use Rattle.std.specs.Prelude.{◌≡◌, ℕ, Bool, true, List}
use Rattle.round_schedule.specs.declared.event.Event.{Event}
use Rattle.memory_order.specs.Orders.{order_position}
use Rattle.memory_order.specs.Rvwmo.{MeetsRvwmoBy}

-- an order that meets RVWMO with dependencies, given by a test, meets it with fewer of them
abbrev pub FewerAreMet : Type 0
FewerAreMet =
    (more fewer : (ℕ → ℕ) → ℕ → ℕ → Bool) (t : List Event) (opening : ℕ → ℕ) (g : List ℕ) →
    ((a b : ℕ) → fewer (order_position g) a b ≡ true → more (order_position g) a b ≡ true) →
    MeetsRvwmoBy (λ pos a b. more pos a b ≡ true) t opening g →
    MeetsRvwmoBy (λ pos a b. fewer pos a b ≡ true) t opening g
