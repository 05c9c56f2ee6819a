use Rattle.std.proofs.Common.{List, ap, inl, inr, refl, subst, ⊎_elim, ℕ, ◌++◌, ◌∙◌}
use Rattle.host_io.specs.RunErrors.{number_of}
use Rattle.host_io.specs.Taken.{BeganText}
use Rattle.host_io.specs.declared.error.RunError.TheVariants.{OutOfMemory, SinkFailed}
use Rattle.program_files.proofs.Failing.{why_failed}
use Rattle.program_files.proofs.Told.{on_value, told_refusal, told_refused, told_value, where_refused}
use Rattle.program_files.proofs.Unprinted.{told_unprinted, unprinted}
use Rattle.round_planner.specs.Settings.{IsReason, settings_fault}
use Rattle.host_io.proofs.Answered.{begun}
use Rattle.run_commands.proofs.running.print_given.Goals as goal

pub returns-clause-runs : goal.returns-clause-runs
returns-clause-runs g c =
    let s = c.settings_of-settings.result in
    let old = g.O.Sink.took c.args.out.now in
    told_value _ c.explain.result _ c.explain.ensures (on_value c.print_guest-answer.result _ _ (λ end w. (
      record { settings = s; plan = w.is_text.plan; set = c.settings_of-settings.ensures; planned = w.is_text.planned },
      w.bytes ∙ ap (λ (t : List ℕ). old ++ t) w.is_text.is_text,
      w.is_text.is_end,
    )) (rw (c.guest_files.ensures.image, c.guest_files.ensures.input) at c.print_guest-answer.ensures.writes.written))

pub returns-clause-begun : goal.returns-clause-begun
returns-clause-begun g c =
    let s = c.settings_of-settings.result in
    let old = g.O.Sink.took c.args.out.now in
    let new = g.O.Sink.took c.print_guest-answer.new.out in
    told_refused _ c.explain.result _ c.explain.ensures (where_refused c.print_guest-answer.result _ _ (λ h. ⊎_elim (λ same. inl same) (λ b. inr (
      record { settings = s; plan = b.is_text.plan; set = c.settings_of-settings.ensures; planned = b.is_text.planned },
      subst (λ (t : List ℕ). BeganText old new t) b.is_text.is_text b.began,
    )) h) (begun c.print_guest-answer.result (rw (c.guest_files.ensures.image, c.guest_files.ensures.input) at c.print_guest-answer.ensures.writes)))

pub returns-clause-errors : goal.returns-clause-errors
returns-clause-errors g c =
    let s = c.settings_of-settings.result in
    told_refusal _ _ _ _ _ s c.print_guest-answer.result c.explain.result c.settings_of-settings.ensures c.explain.ensures
    (rw c.guest_files.ensures.image at c.print_guest-answer.ensures.in_order)
    (why_failed g.O.Output.is_stuck (settings_fault s) (IsReason s c.args.given.now.program.image.items) c.print_guest-answer.result
    (rw c.guest_files.ensures.image at c.print_guest-answer.ensures.writes) (inl refl))

pub returns-clause-unprinted : goal.returns-clause-unprinted
returns-clause-unprinted g c =
    told_unprinted c.print_guest-answer.result c.explain.result (g.O.Sink.took c.args.out.now) (g.O.Sink.took c.print_guest-answer.new.out) c.explain.ensures
    (unprinted number_of OutOfMemory SinkFailed c.print_guest-answer.result refl refl c.print_guest-answer.ensures.writes)
