use Rattle.std.proofs.Common.{Bool, List, ap, inl, inr, refl, slice_index, true, ⊎_elim, ◌∙◌}
use Rattle.std.proofs.lemmas.Result.{err_from_is_err_and}
use Rattle.host_io.proofs.Written.{where_done, where_refused}
use Rattle.memory_order.proofs.Meeting.{meets_rvwmo}
use Rattle.report.specs.Order.{order_text}
use Rattle.round_schedule.specs.declared.event.Event.{Event}
use Rattle.round_planner.specs.Settings.{IsReason, image_for, settings_fault}
use Rattle.host_io.proofs.Answered.{fault_or, of_parts, refused_first}
use Rattle.trace.specs.Traced.{opening_at}
use Rattle.emulation.proofs.Ordered.{order_of, same_opening}
use Rattle.emulation.proofs.ordering.order_run.Goals as goal

pub returns-in_err-trace-clause-writes : goal.returns-in_err-trace-clause-writes
returns-in_err-trace-clause-writes g c =
    let s = c.args.settings.now in
    let p = err_from_is_err_and c.from_residual.result c.from_residual.ensures.1 in
    rw (p.1, p.2)
    (refused_first _ (fault_or (settings_fault s) (IsReason s c.args.image.now) _ c.in_err-trace.ensures.in_order.settings c.in_err-trace.ensures.errors) refl)

pub returns-clause-writes : goal.returns-clause-writes
returns-clause-writes g c =
    let s = c.args.settings.now in
    let t = c.in_ok-trace.trace in
    let run = c.in_ok-trace.ensures.events in
    let rounds = c.in_ok-trace.ensures.rounds in
    let over_image = same_opening t.events (opening_at t.opening) (λ x. slice_index (image_for s c.args.image.now).bytes x) s.budget c.in_ok-trace.ensures.opening rounds in
    of_parts c.write_order.result
    (where_done c.write_order.result _ _ (λ o. record {
      text = order_text t.events o.0 true;
      is_text = record {
        plan = run.0;
        indices = o.0;
        is_order = order_of s c.args.image.now c.args.input.now run.0 o.0 t.events run.1 run.2 o.1.by_rounds over_image;
        is_text = ap (λ (events : List Event). order_text events o.0 true) run.2;
      };
      bytes = o.3;
    }) (c.write_order.ensures.meets s.budget rounds))
    (where_refused c.write_order.result _ _ (λ h. ⊎_elim (λ same. inl same) (λ o. inr (record {
      answer = tt;
      text = order_text t.events o.0 o.1;
      is_text = record {
        plan = run.0;
        indices = o.0;
        is_order = order_of s c.args.image.now c.args.input.now run.0 o.0 t.events run.1 run.2 o.2.by_rounds over_image;
        is_text = ap (λ (answer : Bool). order_text t.events o.0 answer) (o.2.checked.1 (meets_rvwmo _ o.0 o.2.by_rounds (opening_at t.opening) s.budget rounds))
            ∙ ap (λ (events : List Event). order_text events o.0 true) run.2;
      };
      began = o.3;
    })) h) c.write_order.ensures.begun)
    c.write_order.ensures.sink c.write_order.ensures.errors

pub returns-clause-waits : goal.returns-clause-waits
returns-clause-waits g c = inr c.in_ok-trace.ensures.known
