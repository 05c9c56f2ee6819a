-- Round traces over opening bytes that are the same at each address, and the orders of a run.
use Rattle.std.proofs.Common.{◌≡◌, ℕ, ◌∙◌, List, Option, Some, None, refl, slice_index, subst}
use Rattle.round_schedule.specs.declared.event.Event.{Event}
use Rattle.round_schedule.specs.Positions.{source_byte}
use Rattle.round_schedule.specs.RoundTrace.{IsRoundTrace}
use Rattle.round_planner.specs.Quotas.{Planned}
use Rattle.memory_order.specs.RoundOrder.{IsRoundOrder}
use Rattle.memory_order.specs.Rvwmo.{MeetsRvwmo}
use Rattle.memory_order.proofs.Meeting.{meets_rvwmo}
use Rattle.emulation.specs.OrderedRun.{IsOrderOfRun}
use Rattle.round_planner.specs.Settings.{IsPlan, image_for}
use Rattle.machine.specs.Runs.{trace_after}
use Rattle.round_planner.specs.declared.settings.Settings.{Settings}

source_same : (t : List Event) (f g : ℕ → ℕ) → ((x : ℕ) → f x ≡ g x) → (x : ℕ) (s : Option ℕ) → source_byte t f x s ≡ source_byte t g x s
source_same t f g e x None = e x
source_same t f g e x (Some w) = refl

pub same_opening : (t : List Event) (f g : ℕ → ℕ) (budget : ℕ) → ((x : ℕ) → f x ≡ g x) → IsRoundTrace t f budget → IsRoundTrace t g budget
same_opening t f g budget e h = record {
  in_order = h.in_order;
  serial_words = h.serial_words;
  budgeted = h.budgeted;
  parallel_loads = λ r x a p. let s = h.parallel_loads r x a p in (s.0, s.1, s.2 ∙ source_same t f g e x s.0);
  serial_loads = λ r x a p. let s = h.serial_loads r x a p in (s.0, s.1, s.2 ∙ source_same t f g e x s.0);
  reservations = h.reservations;
}

pub order_of : (s : Settings) (file input : List ℕ) (plan : Planned) (indices : List ℕ) (t : List Event) → IsPlan s plan → t ≡ trace_after s file input plan → IsRoundOrder t indices →
    IsRoundTrace t (λ x. slice_index (image_for s file).bytes x) s.budget → IsOrderOfRun s file input plan indices
order_of s file input plan indices t planned run by_rounds rounds = record {
  planned = planned;
  by_rounds = subst (λ (events : List Event). IsRoundOrder events indices) run by_rounds;
  rvwmo = subst (λ (events : List Event). MeetsRvwmo events (λ x. slice_index (image_for s file).bytes x) indices) run (meets_rvwmo t indices by_rounds (λ x. slice_index (image_for s file).bytes x) s.budget rounds);
}
