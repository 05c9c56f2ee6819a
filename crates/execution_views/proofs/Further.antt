-- What is seen of an execution stays so when it goes on.
use Rattle.std.proofs.Common.{◌≡◌, ℕ, ◌+◌, ◌<◌, ◌≤◌, List, ◌++◌, length, slice_get, take, Some, ap, arith, sym, ◌∙◌}
use Rattle.std.proofs.lemmas.List.{get_or_append_left, length-append, take-append-le}
use Rattle.pages.specs.Memory.{Memory}
use Rattle.round_schedule.specs.declared.event.Event.{Event}
use Rattle.round_schedule.specs.Positions.{event, no_event}
use Rattle.hart_step.specs.declared.hart.Hart.{Hart}
use Rattle.execution.specs.Executions.{Executes, Standing}
use Rattle.execution.proofs.Owning.{executes_on}
use Rattle.execution_views.specs.declared.sights.Before.{Before}
use Rattle.execution_views.specs.declared.sights.HartStep.{HartStep}
use Rattle.execution_views.specs.Passing.{IsBefore, IsFound, IsStepOf, events_of_hart}

-- from q the execution goes on to r, with these events more
pub record Further (image : Memory) (q r : Standing) (more : List Event) : Type 0 where
  pub on : Executes image q r
  pub events : r.events ≡ q.events ++ more

pub event_stays : (image : Memory) (q r : Standing) (more : List Event) (k : ℕ) → Further image q r more → k < length q.events → event r.events k ≡ event q.events k
event_stays image q r more k f l = ap (λ (t : List Event). event t k) f.events ∙ get_or_append_left q.events more no_event k l

pub take_stays : (image : Memory) (q r : Standing) (more : List Event) (k : ℕ) → Further image q r more → k ≤ length q.events → take k r.events ≡ take k q.events
take_stays image q r more k f l = ap (λ (t : List Event). take k t) f.events ∙ take-append-le k q.events more l

pub length_more : (image : Memory) (q r : Standing) (more : List Event) → Further image q r more → length r.events ≡ length q.events + length more
length_more image q r more f = ap length f.events ∙ length-append q.events more

pub before_stays : (image : Memory) (p q r : Standing) (more : List Event) (k : ℕ) (g : Hart) → Further image q r more → k < length q.events → IsBefore image p q k g → IsBefore image p r k g
before_stays image p q r more k g f l b = record {
  here = b.here;
  passes = record { leads = b.passes.leads; goes_on = executes_on image b.here q r b.passes.goes_on f.on };
  done = b.done;
  hart = ap (λ (e : Event). slice_get b.here.harts e.hart) (event_stays image q r more k f l) ∙ b.hart;
}

pub step_up : (image : Memory) (q r : Standing) (more : List Event) (h n k : ℕ) → Further image q r more → IsStepOf q.events h n k → IsStepOf r.events h n k
step_up image q r more h n k f s = record {
  within = omega (arith, s.within, length_more image q r more f);
  hart = ap (λ (e : Event). e.hart) (event_stays image q r more k f s.within) ∙ s.hart;
  before = ap (events_of_hart h) (take_stays image q r more k f (omega (arith, s.within))) ∙ s.before;
}

pub step_down : (image : Memory) (q r : Standing) (more : List Event) (h n k : ℕ) → Further image q r more → k < length q.events → IsStepOf r.events h n k → IsStepOf q.events h n k
step_down image q r more h n k f l s = record {
  within = l;
  hart = ap (λ (e : Event). e.hart) (sym (event_stays image q r more k f l)) ∙ s.hart;
  before = ap (events_of_hart h) (sym (take_stays image q r more k f (omega (arith, l)))) ∙ s.before;
}

-- a step that was found is found; where none was, none is among the events that were there
pub found_up : (image : Memory) (p q r : Standing) (more : List Event) (s : HartStep) (b : Before) → Further image q r more → IsFound image p q s (Some b) → IsFound image p r s (Some b)
found_up image p q r more s b f x = (step_up image q r more s.hart s.number b.index f x.0, before_stays image p q r more b.index b.hart f x.0.within x.1)
