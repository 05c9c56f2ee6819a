-- The order by rounds of a round trace, and of a run's trace, meets RVWMO.
use Rattle.std.proofs.Common.{ℕ, List, slice_index}
use Rattle.round_schedule.specs.declared.event.Event.{Event}
use Rattle.round_schedule.specs.RoundTrace.{IsRoundTrace}
use Rattle.round_schedule.specs.Schedule.{opening_state, run_of}
use Rattle.round_schedule.proofs.Runs.{traces}
use Rattle.memory_order.specs.Orders.{order_position}
use Rattle.memory_order.specs.ProgramOrder.{RespectsProgramOrder}
use Rattle.memory_order.specs.RoundOrder.{IsRoundOrder}
use Rattle.memory_order.specs.Runs.{OrdersOfRunsMeetRvwmo}
use Rattle.memory_order.specs.Rvwmo.{MeetsRvwmo}
use Rattle.memory_order.proofs.Placing.{goes_by_rank}
use Rattle.memory_order.proofs.RoundOrders.{atomicity, load_value, preserved, program_order}

pub meets_rvwmo : (t : List Event) (g : List ℕ) → IsRoundOrder t g → (opening : ℕ → ℕ) (budget : ℕ) → IsRoundTrace t opening budget → MeetsRvwmo t opening g
meets_rvwmo t g o opening budget r =
    let by = goes_by_rank t g o in
    record {
      lists = o.lists;
      load_value = load_value t opening budget (order_position g) r by;
      atomicity = atomicity t opening budget (order_position g) r by;
      preserved = preserved t opening budget (order_position g) r by;
    }

pub respects_program_order : (t : List Event) (g : List ℕ) → IsRoundOrder t g → (opening : ℕ → ℕ) (budget : ℕ) → IsRoundTrace t opening budget → RespectsProgramOrder t (order_position g)
respects_program_order t g o opening budget r = program_order t opening budget (order_position g) r (goes_by_rank t g o)

pub runs_meet : (H C : Type 0) → OrdersOfRunsMeetRvwmo H C
runs_meet H C w sound budget quotas n hs bs c bytes g o =
    meets_rvwmo (run_of w budget quotas n (opening_state hs bs c)).trace g o (λ x. slice_index bs x) budget (traces H C w sound budget quotas n hs bs c bytes)
