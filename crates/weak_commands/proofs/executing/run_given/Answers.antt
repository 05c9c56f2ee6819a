use Rattle.std.proofs.Common.{inl}
use Rattle.program_files.proofs.Told.{on_error, on_value, told_refusal, told_value}
use Rattle.weak_commands.proofs.executing.run_given.Goals as goal

pub returns-clause-run : goal.returns-clause-run
returns-clause-run g c =
    told_value _ c.explain.result _ c.explain.ensures (on_value c.execution_of_run-made.result _ _ (λ f h. record {
      made = record { settings = c.settings_of-settings.result; plan = h.0; set = c.settings_of-settings.ensures; planned = h.1 };
      says = h.2;
    }) (rw (c.deref.ensures.value, c.deref-2.ensures.value) at c.execution_of_run-made.ensures.file))

pub returns-clause-errors : goal.returns-clause-errors
returns-clause-errors g c =
    told_refusal _ _ _ _ _ c.settings_of-settings.result c.execution_of_run-made.result c.explain.result c.settings_of-settings.ensures c.explain.ensures
    (rw c.deref.ensures.value at c.execution_of_run-made.ensures.in_order)
    (λ none. on_error c.execution_of_run-made.result _ _ (λ e h. inl h) (rw c.deref.ensures.value at (c.execution_of_run-made.ensures.errors none)))
