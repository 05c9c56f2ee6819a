use Rattle.std.proofs.Common.{◌≡◌, ◌≤◌, ◌+◌, ◌++◌, if◌then◌else◌, length, set, refl, subst, sym}
use Rattle.round_schedule.specs.declared.event.Phase.TheVariants.{Parallel}
use Rattle.round_schedule.specs.Events.{events_of}
use Rattle.trace.specs.Traced.{IsTrace}
use Rattle.hart_rounds.specs.declared.hart_end.HartEnd.{HartEnd}
use Rattle.guest_rounds.proofs.Adding.{Adding, adding_more, next_log}
use Rattle.guest_rounds.proofs.events.add_parallel.Goals as goal

pub add_log-requires-clause-sound : goal.add_log-requires-clause-sound
add_log-requires-clause-sound c =
    let o : HartEnd = c.index-ends-number.result in
    subst (λ (x : HartEnd). IsTrace (c.loop-number.trace.events ++ events_of c.args.round c.loop-number.number Parallel x.log)) c.index-ends-number.is
    (next_log c.args.adopts c.args.round c.args.ends.now c.args.trace.now c.loop-number.number c.loop-number.ends c.loop-number.trace o c.loop-number-test.true c.index-ends-number.is c.requires.sound c.loop-number.invariant).sound

pub loop-number-preserved : goal.loop-number-preserved
loop-number-preserved c =
    let o : HartEnd = c.index-ends-number.result in
    let e = c.add_log.ensures in
    subst (λ (x : HartEnd). Adding c.args.adopts c.args.round c.args.ends.now c.args.trace.now (c.loop-number.number + 1) (set c.loop-number.ends c.loop-number.number (record x { log = c.add_log.new.log })) c.add_log.new.trace) c.index-ends-number.is
    (adding_more c.args.adopts c.args.round c.args.ends.now c.args.trace.now c.loop-number.number c.loop-number.ends _ c.loop-number.trace c.add_log.new.trace o (record o { log = c.add_log.new.log })
    c.loop-number-test.true c.index-ends-number.is refl refl (subst (λ (x : HartEnd). c.add_log.new.trace.events ≡ c.loop-number.trace.events ++ events_of c.args.round c.loop-number.number Parallel x.log) (sym c.index-ends-number.is) e.events) e.opening
    (subst (λ (x : HartEnd). c.loop-number.trace.room ≤ c.add_log.new.trace.room + (if c.args.adopts then 0 else length x.log)) (sym c.index-ends-number.is) e.room) e.logs c.loop-number.invariant)
