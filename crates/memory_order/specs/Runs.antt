-- The memory orders of runs.
use Rattle.std.specs.Prelude.{ℕ, List, slice_index}
use Rattle.pages.specs.Memory.{IsBytes}
use Rattle.round_schedule.specs.Schedule.{Words, opening_state, run_of}
use Rattle.round_schedule.specs.Sound.{Sound}
use Rattle.memory_order.specs.RoundOrder.{IsRoundOrder}
use Rattle.memory_order.specs.Rvwmo.{MeetsRvwmo}

-- the order by rounds of the trace of a run over sound instructions meets RVWMO, over the bytes of the run's start
abbrev pub OrdersOfRunsMeetRvwmo : (H C : Type 0) → Type 0
OrdersOfRunsMeetRvwmo H C =
    (w : Words H C) → Sound w → (budget : ℕ) (quotas : ℕ → List ℕ) (n : ℕ) (hs : List H) (bs : List ℕ) (c : C) → IsBytes bs →
    (g : List ℕ) → IsRoundOrder (run_of w budget quotas n (opening_state hs bs c)).trace g →
    MeetsRvwmo (run_of w budget quotas n (opening_state hs bs c)).trace (λ x. slice_index bs x) g
