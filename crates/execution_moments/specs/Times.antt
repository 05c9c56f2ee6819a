-- The time of each instruction of an execution: a position in the global order of its memory operations. A hart does its instructions in program order; but
-- the order may have its operations otherwise, as RVWMO allows: a load may stand there before where the hart comes to it, and a store after that.
use Rattle.std.specs.Prelude.{◌≡◌, ℕ, zero, suc, ◌+◌, ◌-◌, ◌<◌, ◌==◌, ◌&&◌, Bool, if◌then◌else◌, List, length, max, min, slice_index}
use Rattle.round_schedule.specs.declared.event.Event.{Event}
use Rattle.round_schedule.specs.Positions.{event}
use Rattle.memory_order.specs.Operations.{is_load, is_operation}
use Rattle.memory_order.specs.Orders.{order_position}

-- whether an event is a load of hart h, and whether it is a memory operation of it
abbrev pub is_load_of : ℕ → Event → Bool
is_load_of h e = e.hart == h && is_load e

abbrev pub is_operation_of : ℕ → Event → Bool
is_operation_of h e = e.hart == h && is_operation e

-- the later of a position and this one, where it is that of a load of hart h; the sooner one, where it is that of an operation
abbrev pub later_of : ℕ → Event → ℕ → ℕ → ℕ
later_of h e so_far position = if is_load_of h e then max so_far position else so_far

abbrev pub sooner_of : ℕ → Event → ℕ → ℕ → ℕ
sooner_of h e so_far position = if is_operation_of h e then min so_far position else so_far

-- where the latest load of hart h stands, of those among the first k instructions; 0 where there is none
abbrev pub latest_load : List Event → (ℕ → ℕ) → ℕ → ℕ → ℕ
latest_load t pos h zero = 0
latest_load t pos h (suc k) = later_of h (event t k) (latest_load t pos h k) (pos k)

-- where its soonest memory operation stands, of those among the n instructions from index k on; the end where there is none
abbrev pub soonest_operation : List Event → (ℕ → ℕ) → ℕ → ℕ → ℕ → ℕ → ℕ
soonest_operation t pos end h k zero = end
soonest_operation t pos end h k (suc n) = sooner_of h (event t k) (soonest_operation t pos end h (k + 1) n) (pos k)

-- a hart does an instruction no sooner than any of its loads up to it, and no sooner than the soonest of its operations from it on: so no load is done before it has
-- read, a store may be done before it shows, and an instruction that is no operation is done right before the next one
abbrev pub time_of : List Event → (ℕ → ℕ) → ℕ → ℕ → ℕ
time_of t pos end k =
    let h = (event t k).hart in
    max (latest_load t pos h (suc k)) (soonest_operation t pos end h k (length t - k))

-- the times of all instructions, where each operation stands at this position
pub record AreTimesBy (t : List Event) (pos : ℕ → ℕ) (end : ℕ) (v : List ℕ) : Type 0 where
  pub count : length v ≡ length t
  pub each : (k : ℕ) → k < length t → slice_index v k ≡ time_of t pos end k

-- and in an order
abbrev pub AreTimes : List Event → List ℕ → List ℕ → Type 0
AreTimes t g v = AreTimesBy t (order_position g) (length g) v

-- of each instruction where the latest load of its hart up to it stands
pub record AreLatest (t : List Event) (pos : ℕ → ℕ) (v : List ℕ) : Type 0 where
  pub count : length v ≡ length t
  pub each : (k : ℕ) → k < length t → slice_index v k ≡ latest_load t pos (event t k).hart (suc k)
