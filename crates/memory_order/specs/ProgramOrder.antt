-- Where an order keeps program order: everywhere but for a plain store before a plain load of one parallel phase.
use Rattle.std.specs.Prelude.{◌≡◌, ℕ, ◌<◌, ◌⊎◌, Bool, true, false, List}
use Rattle.round_schedule.specs.declared.access.Access.{Access}
use Rattle.round_schedule.specs.declared.access.Access.TheVariants.{Load}
use Rattle.round_schedule.specs.declared.event.Event.{Event}
use Rattle.round_schedule.specs.Events.{is_serial}
use Rattle.round_schedule.specs.Positions.{ProgramBefore, event}
use Rattle.memory_order.specs.Operations.{is_operation, is_plain_store}

abbrev pub is_plain_load : Access → Bool
is_plain_load (Load w p a r) = true
is_plain_load _ = false

-- a plain store and a plain load of one round's parallel phase
pub record StoreThenLoad (a b : Event) : Type 0 where
  pub store : is_plain_store a.access ≡ true
  pub load : is_plain_load b.access ≡ true
  pub one_round : a.round ≡ b.round
  pub parallel_store : is_serial a.phase ≡ false
  pub parallel_load : is_serial b.phase ≡ false

abbrev pub RespectsProgramOrder : List Event → (ℕ → ℕ) → Type 0
RespectsProgramOrder t pos =
    (a b : ℕ) → is_operation (event t a) ≡ true → is_operation (event t b) ≡ true → ProgramBefore t a b →
    (pos a < pos b) ⊎ StoreThenLoad (event t a) (event t b)
