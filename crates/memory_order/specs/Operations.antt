-- Memory operations, and what orders them: acquires, releases and fences (manual, section 14.1).
use Rattle.std.specs.Prelude.{ℕ, ◌&&◌, ◌||◌, Bool, true, false}
use Rattle.pages.specs.Memory.{in_range}
use Rattle.rv64_decode.specs.declared.ordering.FenceMode.{FenceMode}
use Rattle.rv64_decode.specs.declared.ordering.FenceMode.TheVariants.{Normal, Tso}
use Rattle.round_schedule.specs.declared.access.Access.{Access}
use Rattle.round_schedule.specs.declared.access.Access.TheVariants.{Store, LoadReserved, StoreConditional, Atomic, Fence}
use Rattle.round_schedule.specs.declared.event.Event.{Event}
use Rattle.round_schedule.specs.Accesses.{address_of, bytes_of, is_lr, is_sc, loads, stores}

-- a load of the memory model: a load, an LR or an AMO
abbrev pub is_load : Event → Bool
is_load e = loads e.access

-- a store of the memory model: a store, an SC that succeeded or an AMO
abbrev pub is_store : Event → Bool
is_store e = stores e.access

-- a memory operation; a fence is none, nor is an SC that failed
abbrev pub is_operation : Event → Bool
is_operation e = is_load e || is_store e

-- whether the byte at an address is one of the access's
abbrev pub covers : Access → ℕ → Bool
covers a x = in_range (address_of a) (bytes_of a) x

-- a store that is neither an SC nor an AMO
abbrev pub is_plain_store : Access → Bool
is_plain_store (Store w p a v) = true
is_plain_store _ = false

abbrev pub is_amo : Access → Bool
is_amo (Atomic w o p a r v) = true
is_amo _ = false

abbrev pub is_lr_or_sc : Access → Bool
is_lr_or_sc a = is_lr a || is_sc a

-- an LR or AMO with aq, and an SC with both bits
abbrev pub is_acquire : Access → Bool
is_acquire (LoadReserved w o p a r) = o.acquire
is_acquire (StoreConditional w o p a v) = o.acquire && o.release
is_acquire (Atomic w o p a r v) = o.acquire
is_acquire _ = false

-- an SC or AMO with rl, and an LR with both bits
abbrev pub is_release : Access → Bool
is_release (LoadReserved w o p a r) = o.acquire && o.release
is_release (StoreConditional w o p a v) = o.release
is_release (Atomic w o p a r v) = o.release
is_release _ = false

-- whether a fence of this mode orders stores before loads, where its sets have both
abbrev pub is_normal : FenceMode → Bool
is_normal Normal = true
is_normal Tso = false

-- whether the fence f orders a before b: a kind of a is in its first set and a kind of b in its second
abbrev pub fence_orders : Access → Access → Access → Bool
fence_orders (Fence before after mode p) a b =
    (before.reads && loads a && after.reads && loads b) ||
    (before.reads && loads a && after.writes && stores b) ||
    (before.writes && stores a && after.writes && stores b) ||
    (before.writes && stores a && after.reads && loads b && is_normal mode)
fence_orders _ a b = false
