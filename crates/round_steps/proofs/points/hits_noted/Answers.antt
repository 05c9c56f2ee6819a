use Rattle.std.proofs.Common.{◌++◌, List, append-nil, ap, subst, sym, ◌∙◌}
use Rattle.pages.specs.Memory.{IsBytes}
use Rattle.round_schedule.specs.declared.event.Event.{Event}
use Rattle.round_planner.specs.Quotas.{quotas_of}
use Rattle.watching.specs.Saved.{saved_of}
use Rattle.round_steps.proofs.PointsFound.{events_are}
use Rattle.round_steps.proofs.points.hits_noted.Goals as goal

pub run_noting-requires-after_bounds : goal.run_noting-requires-after_bounds
run_noting-requires-after_bounds g c κs within =
    let run = c.requires.run in
    let t : List Event = run.0.state.trace in
    (run.0, run.1, (t, sym (append-nil t) ∙ ap (λ (es : List Event). t ++ es) (sym c.new-trace.ensures.events)))

pub returns-clause-hits : goal.returns-clause-hits
returns-clause-hits g c = λ m is.
    let bytes = c.pages-pages.ensures.bytes ∙ is.bytes in
    c.in_ok-hits.ensures m.code m.plan.budget (quotas_of m.plan) m.state
    (subst IsBytes bytes c.bytes_fit.ensures)
    (c.deref.ensures.value ∙ c.in_ok-saved.ensures ∙ ap (saved_of c.args.watches.now) bytes)
    (events_are m c.args.machine.now c.new-trace.result.events c.run_noting.new.trace.events is c.new-trace.ensures.events c.in_ok-run_noting.ensures.answers.ok.1)
