-- What is said of one access, whatever its kind.
use Rattle.std.specs.Prelude.{ℕ, ◌-◌, ◌&&◌, Bool, true, false, Option, Some, None}
use Rattle.pages.specs.Memory.{width_bytes, in_range, byte_of}
use Rattle.rv64_decode.specs.declared.ordering.FenceMode.{FenceMode}
use Rattle.rv64_decode.specs.declared.ordering.FenceMode.TheVariants.{Normal, Tso}
use Rattle.rv64_decode.specs.declared.ordering.FenceSet.{FenceSet}
use Rattle.round_schedule.specs.declared.access.Access.{Access}
use Rattle.round_schedule.specs.declared.access.Access.TheVariants.{Load, Store, LoadReserved, StoreConditional, Atomic, Fence}

-- how many instructions its hart had done before
abbrev pub place_of : Access → ℕ
place_of (Load w p a r) = p
place_of (Store w p a v) = p
place_of (LoadReserved w o p a r) = p
place_of (StoreConditional w o p a v) = p
place_of (Atomic w o p a r v) = p
place_of (Fence b a m p) = p

-- the first byte, and how many bytes there are; a fence has none
abbrev pub address_of : Access → ℕ
address_of (Load w p a r) = a
address_of (Store w p a v) = a
address_of (LoadReserved w o p a r) = a
address_of (StoreConditional w o p a v) = a
address_of (Atomic w o p a r v) = a
address_of (Fence b a m p) = 0

abbrev pub bytes_of : Access → ℕ
bytes_of (Load w p a r) = width_bytes w
bytes_of (Store w p a v) = width_bytes w
bytes_of (LoadReserved w o p a r) = width_bytes w
bytes_of (StoreConditional w o p a v) = width_bytes w
bytes_of (Atomic w o p a r v) = width_bytes w
bytes_of (Fence b a m p) = 0

-- the number that was read, and the number that was written
abbrev pub read_of : Access → Option ℕ
read_of (Load w p a r) = Some r
read_of (Store w p a v) = None
read_of (LoadReserved w o p a r) = Some r
read_of (StoreConditional w o p a v) = None
read_of (Atomic w o p a r v) = Some r
read_of (Fence b a m p) = None

abbrev pub written_of : Access → Option ℕ
written_of (Load w p a r) = None
written_of (Store w p a v) = Some v
written_of (LoadReserved w o p a r) = None
written_of (StoreConditional w o p a v) = v
written_of (Atomic w o p a r v) = Some v
written_of (Fence b a m p) = None

abbrev pub is_lr : Access → Bool
is_lr (LoadReserved w o p a r) = true
is_lr _ = false

abbrev pub is_sc : Access → Bool
is_sc (StoreConditional w o p a v) = true
is_sc _ = false

abbrev pub is_given : Option ℕ → Bool
is_given None = false
is_given (Some v) = true

abbrev pub number_or_zero : Option ℕ → ℕ
number_or_zero None = 0
number_or_zero (Some v) = v

-- whether it is a load of the memory model (a load, an LR or an AMO), and whether it is a store (a store, an SC that succeeded or an AMO)
abbrev pub loads : Access → Bool
loads a = is_given (read_of a)

abbrev pub stores : Access → Bool
stores a = is_given (written_of a)

-- whether it reads the byte at an address, and whether it writes it
abbrev pub reads : Access → ℕ → Bool
reads a x = loads a && in_range (address_of a) (bytes_of a) x

abbrev pub writes : Access → ℕ → Bool
writes a x = stores a && in_range (address_of a) (bytes_of a) x

-- the byte that it reads at an address, and the byte that it writes there
abbrev pub byte_read : Access → ℕ → ℕ
byte_read a x = byte_of (number_or_zero (read_of a)) (x - address_of a)

abbrev pub byte_written : Access → ℕ → ℕ
byte_written a x = byte_of (number_or_zero (written_of a)) (x - address_of a)

-- a fence that orders stores before loads (manual, section 2.7), which only a fence done in the serial phase does
abbrev pub is_full_fence : FenceSet → FenceSet → FenceMode → Bool
is_full_fence before after Normal = before.writes && after.reads
is_full_fence before after Tso = false

-- whether it has to be done in the serial phase
abbrev pub must_be_serial : Access → Bool
must_be_serial (Load w p a r) = false
must_be_serial (Store w p a v) = false
must_be_serial (LoadReserved w o p a r) = true
must_be_serial (StoreConditional w o p a v) = true
must_be_serial (Atomic w o p a r v) = true
must_be_serial (Fence b a m p) = is_full_fence b a m
