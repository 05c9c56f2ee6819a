-- The order of a run's memory operations, and its text.
use Rattle.std.specs.Prelude.{◌≡◌, ℕ, List, slice_index, true}
use Rattle.round_planner.specs.Quotas.{Planned}
use Rattle.memory_order.specs.RoundOrder.{IsRoundOrder}
use Rattle.memory_order.specs.Rvwmo.{MeetsRvwmo}
use Rattle.report.specs.Order.{order_text}
use Rattle.round_planner.specs.Settings.{IsPlan, image_for}
use Rattle.machine.specs.Runs.{trace_after}
use Rattle.round_planner.specs.declared.settings.Settings.{Settings}

-- the indices of the run's memory operations in the order by rounds, which meets RVWMO over the bytes of the image
pub record IsOrderOfRun (s : Settings) (file input : List ℕ) (plan : Planned) (indices : List ℕ) : Type 0 where
  pub planned : IsPlan s plan
  pub by_rounds : IsRoundOrder (trace_after s file input plan) indices
  pub rvwmo : MeetsRvwmo (trace_after s file input plan) (λ x. slice_index (image_for s file).bytes x) indices

-- its text, which says that it was checked
abbrev pub ordered_text : Settings → List ℕ → List ℕ → Planned → List ℕ → List ℕ
ordered_text s file input plan indices = order_text (trace_after s file input plan) indices true

-- the text is that of an order of the run that the settings name
pub record IsOrderText (s : Settings) (file input : List ℕ) (text : List ℕ) : Type 0 where
  pub plan : Planned
  pub indices : List ℕ
  pub is_order : IsOrderOfRun s file input plan indices
  pub is_text : text ≡ ordered_text s file input plan indices
