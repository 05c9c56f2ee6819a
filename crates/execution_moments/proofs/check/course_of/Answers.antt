use Rattle.std.proofs.Common.{◌≡◌, ℕ, List, ◌++◌, ap, arith, length, slice_index_or, subst, ◌∙◌}
use Rattle.round_schedule.specs.declared.event.Event.{Event}
use Rattle.hart_step.specs.declared.hart.Hart.{Hart}
use Rattle.execution_moments.specs.Courses.{IsSequence, stopped_from}
use Rattle.execution_moments.specs.Times.{AreTimes}
use Rattle.execution_moments.proofs.Rising.{at_some}
use Rattle.execution_moments.proofs.check.course_of.Goals as goal

pub returns : goal.returns
returns c =
    let g = c.args.order.now.0.items in
    let times = c.in-Some.times.items in
    let seq = c.in_ok-sequence.sequence.items in
    let are = at_some c.in_ok-times.field-0 _ _ c.in-Some.times c.in-Some.is c.in_ok-times.ensures in
    let end_is : c.len-2.result ≡ length g = omega (arith, c.len-2.ensures, c.args.order.now.0.ok.0) in
    let count_is : c.len.result ≡ length c.add_stopped.new.moments.items = omega (arith, c.len.ensures, c.add_stopped.new.moments.ok.0) in
    record {
      moments = c.in_ok-add_stopped.ensures ∙ ap (λ (hs : List Hart). c.args.before.items ++ stopped_from 0 hs) c.harts.ensures.harts;
      ends = c.in_ok-ends.ensures.items ∙ c.harts-2.ensures.harts;
      times = times;
      are_times = subst (λ (t : List Event). AreTimes t g times) c.events.ensures are;
      sequence =
          subst (λ (end : ℕ). IsSequence (λ k. slice_index_or times k end) (length c.add_stopped.new.moments.items) seq) end_is
          (subst (λ (n : ℕ). IsSequence (λ k. slice_index_or times k c.len-2.result) n seq) count_is
          (subst (λ (ts : List ℕ). IsSequence (λ k. slice_index_or ts k c.len-2.result) c.len.result seq) c.deref.ensures.value c.in_ok-sequence.ensures));
    }
