-- The bytes that an access speaks of, as a reservation keeps them.
use Rattle.std.specs.Prelude.{Option, Some, None}
use Rattle.round_schedule.specs.declared.access.Access.{Access}
use Rattle.round_schedule.specs.declared.access.Access.TheVariants.{Load, Store, LoadReserved, StoreConditional, Atomic, Fence}
use Rattle.round_schedule.specs.declared.span.Span.{Span}

-- a fence speaks of none
abbrev pub span_of : Access → Option Span
span_of (Load w p a r) = Some (record { address = a; width = w })
span_of (Store w p a v) = Some (record { address = a; width = w })
span_of (LoadReserved w o p a r) = Some (record { address = a; width = w })
span_of (StoreConditional w o p a v) = Some (record { address = a; width = w })
span_of (Atomic w o p a r v) = Some (record { address = a; width = w })
span_of (Fence b a m p) = None
