-- Where the accesses of a trace lie.
use Rattle.std.proofs.Common.{ℕ, ◌<◌, ◌^◌, List, length, arith}
use Rattle.std.proofs.lemmas.List.Elements.{All-get_or}
use Rattle.round_schedule.specs.declared.access.Access.{Access}
use Rattle.round_schedule.specs.declared.access.Access.TheVariants.{Load, Store, LoadReserved, StoreConditional, Atomic, Fence}
use Rattle.round_schedule.specs.declared.event.Event.{Event}
use Rattle.round_schedule.specs.Accesses.{address_of}
use Rattle.round_schedule.specs.Positions.{event, no_event}
use Rattle.hart_step.specs.Forms.{Formed}
use Rattle.trace.specs.Traced.{HasForm, IsTrace}

formed_low : (a : Access) → Formed (2 ^ 32) a → address_of a < 2 ^ 32
formed_low (Load w p a r) h = h.0.1
formed_low (Store w p a v) h = h.0.1
formed_low (LoadReserved w o p a r) h = h.1.1
formed_low (StoreConditional w o p a v) h = h.1.1
formed_low (Atomic w o p a r v) h = h.1.1
formed_low (Fence b f m p) h = omega arith

-- the address of each event is below 2^32
pub low_address : (t : List Event) (i : ℕ) → i < length t → IsTrace t → address_of (event t i).access < 2 ^ 32
low_address t i l h = formed_low (event t i).access (All-get_or HasForm t i no_event l h.formed)
