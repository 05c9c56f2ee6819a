use Rattle.std.proofs.Common.{List, ap, inl, inr, refl, subst, ⊎_elim, ℕ, ◌++◌, ◌∙◌}
use Rattle.host_io.specs.RunErrors.{number_of}
use Rattle.host_io.specs.Taken.{BeganText}
use Rattle.host_io.specs.declared.error.RunError.TheVariants.{OutOfMemory, SinkFailed}
use Rattle.program_files.proofs.Failing.{why_failed}
use Rattle.program_files.proofs.Told.{on_value, told_done, told_refusal, told_refused, where_refused}
use Rattle.program_files.proofs.Unprinted.{told_unprinted, unprinted}
use Rattle.round_planner.specs.Settings.{IsReason, settings_fault}
use Rattle.host_io.proofs.Answered.{begun}
use Rattle.run_commands.proofs.ordering.order_given.Goals as goal

pub returns-clause-orders : goal.returns-clause-orders
returns-clause-orders g c =
    let s = c.settings_of-settings.result in
    let old = g.O.Sink.took c.args.out.now in
    told_done _ c.explain.result _ c.explain.ensures (on_value c.order_run-answer.result _ _ (λ u w. (
      record { settings = s; plan = w.is_text.plan; set = c.settings_of-settings.ensures; planned = w.is_text.is_order.planned },
      w.is_text.indices,
      w.is_text.is_order,
      w.bytes ∙ ap (λ (t : List ℕ). old ++ t) w.is_text.is_text,
    )) (rw (c.deref.ensures.value, c.deref-2.ensures.value) at c.order_run-answer.ensures.writes.written))

pub returns-clause-begun : goal.returns-clause-begun
returns-clause-begun g c =
    let s = c.settings_of-settings.result in
    let old = g.O.Sink.took c.args.out.now in
    let new = g.O.Sink.took c.order_run-answer.new.out in
    told_refused _ c.explain.result _ c.explain.ensures (where_refused c.order_run-answer.result _ _ (λ h. ⊎_elim (λ same. inl same) (λ b. inr (
      record { settings = s; plan = b.is_text.plan; set = c.settings_of-settings.ensures; planned = b.is_text.is_order.planned },
      b.is_text.indices,
      b.is_text.is_order,
      subst (λ (t : List ℕ). BeganText old new t) b.is_text.is_text b.began,
    )) h) (begun c.order_run-answer.result (rw (c.deref.ensures.value, c.deref-2.ensures.value) at c.order_run-answer.ensures.writes)))

pub returns-clause-errors : goal.returns-clause-errors
returns-clause-errors g c =
    let s = c.settings_of-settings.result in
    told_refusal _ _ _ _ _ s c.order_run-answer.result c.explain.result c.settings_of-settings.ensures c.explain.ensures
    (rw c.deref.ensures.value at c.order_run-answer.ensures.in_order)
    (why_failed g.O.Output.is_stuck (settings_fault s) (IsReason s c.args.given.now.program.image.items) c.order_run-answer.result
    (rw c.deref.ensures.value at c.order_run-answer.ensures.writes) (inl refl))

pub returns-clause-unprinted : goal.returns-clause-unprinted
returns-clause-unprinted g c =
    told_unprinted c.order_run-answer.result c.explain.result (g.O.Sink.took c.args.out.now) (g.O.Sink.took c.order_run-answer.new.out) c.explain.ensures
    (unprinted number_of OutOfMemory SinkFailed c.order_run-answer.result refl refl c.order_run-answer.ensures.writes)
