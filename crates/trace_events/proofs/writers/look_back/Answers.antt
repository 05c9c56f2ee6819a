use Rattle.std.proofs.Common.{◌≡◌, ◌-◌, ◌∙◌, ap, arith, false, suc, sym, true}
use Rattle.round_schedule.specs.Positions.{event}
use Rattle.byte_sources.specs.Sources.{gives, last_below}
use Rattle.trace_events.proofs.Walking.{found_at, gives_is, not_at}
use Rattle.trace_events.proofs.writers.look_back.Goals as goal

pub loop-before-preserved : goal.loop-before-preserved
loop-before-preserved c =
    let t = c.args.events.now in
    let G = gives t (event t c.args.index) c.args.byte in
    let v = c.loop-before.before - 1 in
    let next : c.loop-before.before ≡ suc v = omega (arith, c.loop-before-test.true) in
    let no : gives t (event t c.args.index) c.args.byte v ≡ false = gives_is t c.args.index c.args.byte v _ _ _ false c.event_at.ensures c.event_at-in-loop-before.ensures c.gives.ensures c.if-gives.false in
    (omega (arith, c.loop-before.invariant.0), c.loop-before.invariant.1 ∙ ap (last_below G) next ∙ not_at G v no)

pub returns-then-gives : goal.returns-then-gives
returns-then-gives c =
    let t = c.args.events.now in
    let G = gives t (event t c.args.index) c.args.byte in
    let v = c.loop-before.before - 1 in
    let next : c.loop-before.before ≡ suc v = omega (arith, c.loop-before-test.true) in
    let yes : gives t (event t c.args.index) c.args.byte v ≡ true = gives_is t c.args.index c.args.byte v _ _ _ true c.event_at.ensures c.event_at-in-loop-before.ensures c.gives.ensures c.if-gives.true in
    sym (c.loop-before.invariant.1 ∙ ap (last_below G) next ∙ found_at G v yes)
