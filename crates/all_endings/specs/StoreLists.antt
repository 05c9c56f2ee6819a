-- Lists of stores in the order of global memory: what stands at time k stands behind the first k of them.
use Rattle.std.specs.Prelude.{◌≡◌, ℕ, zero, suc, ◌+◌, ◌-◌, ◌<◌, ◌≤◌, ◌↔◌, Bool, true, if◌then◌else◌, List, length, map, take, filter, slice_index_or, Option, Some, None}
use Rattle.pages.specs.Memory.{byte_of, in_range}
use Rattle.round_schedule.specs.declared.event.Event.{Event}
use Rattle.round_schedule.specs.Accesses.{address_of, bytes_of, number_or_zero, written_of}
use Rattle.round_schedule.specs.Positions.{event}
use Rattle.memory_order.specs.Operations.{is_store}
use Rattle.memory_order.specs.Orders.{ListsOperations, order_position}
use Rattle.all_endings.specs.Times.{time_after, time_of}

-- a store: whose it is, the address of its first byte, how many bytes it has, and their number
pub record Stored : Type 0 where
  pub hart : ℕ
  pub address : ℕ
  pub bytes : ℕ
  pub number : ℕ

abbrev pub told : Event → Stored
told e = record { hart = e.hart; address = address_of e.access; bytes = bytes_of e.access; number = number_or_zero (written_of e.access) }

-- what stands past a list's end
abbrev pub no_store : Stored
no_store = record { hart = 0; address = 0; bytes = 0; number = 0 }

-- whether it writes byte x, and which byte it writes there
abbrev pub has_byte : Stored → ℕ → Bool
has_byte s x = in_range s.address s.bytes x

abbrev pub byte_in : Stored → ℕ → ℕ
byte_in s x = byte_of s.number (x - s.address)

-- LATER: behind the store that comes next
abbrev pub later : List Stored → ℕ
later m = length m + 1

-- the stores of an order, and the first n of them
abbrev pub all_stores : List Event → List ℕ → List Stored
all_stores t g = map (λ i. told (event t i)) (filter (λ i. is_store (event t i)) g)

abbrev pub stores_of : ℕ → List Event → List ℕ → List Stored
stores_of n t g = take n (all_stores t g)

-- the place behind the last of the first k stores that writes byte x; 0 where none does
abbrev pub last_place : List Stored → ℕ → ℕ → ℕ
last_place m x zero = 0
last_place m x (suc k) = if has_byte (slice_index_or m k no_store) x then suc k else last_place m x k

-- the byte that the store before a place leaves; before all of them, the opening byte
abbrev pub byte_at : List Stored → (ℕ → ℕ) → ℕ → ℕ → ℕ
byte_at m opening x zero = opening x
byte_at m opening x (suc k) = byte_in (slice_index_or m k no_store) x

-- the place behind a source of a byte, where it is a store
abbrev pub place_behind : ℕ → List Event → List ℕ → Option ℕ → ℕ
place_behind n t g None = 0
place_behind n t g (Some w) = time_after n t g w

-- a store of the order stands in the list at its time, and what a load finds before it in the order stands before the load's time
abbrev pub StoresStandAtTimes : Type 0
StoresStandAtTimes =
    (t : List Event) (g : List ℕ) → ListsOperations t g → (n w : ℕ) → is_store (event t w) ≡ true →
    (time_of n t g w < n → slice_index_or (stores_of n t g) (time_of n t g w) no_store ≡ told (event t w)) ×
    ((b : ℕ) → time_of n t g b ≤ n → (order_position g w < order_position g b) ↔ (time_after n t g w ≤ time_of n t g b))
