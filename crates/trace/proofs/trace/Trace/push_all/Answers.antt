use Rattle.std.proofs.Common.{◌++◌, List, ap, subst, sym, ◌∙◌}
use Rattle.round_schedule.specs.declared.access.Access.{Access}
use Rattle.round_schedule.specs.Events.{event_of, events_of}
use Rattle.trace.specs.LentLogs.{accesses_lent}
use Rattle.trace.specs.Traced.{IsTrace}
use Rattle.trace.proofs.Growing.{may_push}
use Rattle.trace.proofs.trace.Trace.push_all.Goals as goal

pub push-requires-clause-formed : goal.push-requires-clause-formed
push-requires-clause-formed c =
    let a = c.args in
    let t = c.loop-access.self.events in
    (may_push t (event_of a.round a.hart a.phase c.in-Some.access) (events_of a.round a.hart a.phase (accesses_lent c.take_first.new.self))
    (subst IsTrace (sym c.loop-access.invariant.events ∙ ap (λ (as' : List Access). t ++ events_of a.round a.hart a.phase as') c.in-Some.ensures.some) c.requires.sound)).0

pub push-requires-clause-above : goal.push-requires-clause-above
push-requires-clause-above c =
    let a = c.args in
    let t = c.loop-access.self.events in
    (may_push t (event_of a.round a.hart a.phase c.in-Some.access) (events_of a.round a.hart a.phase (accesses_lent c.take_first.new.self))
    (subst IsTrace (sym c.loop-access.invariant.events ∙ ap (λ (as' : List Access). t ++ events_of a.round a.hart a.phase as') c.in-Some.ensures.some) c.requires.sound)).1
