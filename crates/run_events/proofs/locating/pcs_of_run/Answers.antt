use Rattle.std.proofs.Common.{◌≡◌, ◌++◌, List, [], length, length-drop, map, take, ap, subst, sym, ◌∙◌, arith}
use Rattle.round_schedule.specs.declared.event.Event.{Event}
use Rattle.machine.specs.Machine.{Running, after_rounds}
use Rattle.machine.specs.Untraced.{IsUntraced, Untraced}
use Rattle.run_events.specs.Pcs.{pc_before}
use Rattle.run_events.proofs.Located.{front_of_round, later_in}
use Rattle.run_events.proofs.StretchByStretch.{told_all, told_on}
use Rattle.run_events.proofs.locating.pcs_of_run.Goals as goal

pub go_back-requires : goal.go_back-requires
go_back-requires g c =
    later_in c.loop-done.start c.args.start.now c.args.events.now c.events_from-left.result.now c.loop-done.done _ c.loop-done.invariant.0 c.events_from-left.ensures (omega (arith, c.loop-done-test.true)) c.requires.later

pub add_of_round-requires-clause-run : goal.add_of_round-requires-clause-run
add_of_round-requires-clause-run g c = λ lifetimes within.
    let run = c.requires.run in
    let inv = c.loop-done.invariant in
    let from = subst (λ (u : Untraced). IsUntraced (after_rounds u.rounds run.0) u) (sym inv.0) run.1 in
    (after_rounds c.go_back.new.machine.rounds run.0, c.in_ok-go_back.ensures.way run.0 from (inv.2 run.0 run.1))

pub add_of_round-requires-clause-one : goal.add_of_round-requires-clause-one
add_of_round-requires-clause-one g c = λ lifetimes within. front_of_round _ _ _ c.count_of_round-count.ensures.count

pub loop-done-preserved : goal.loop-done-preserved
loop-done-preserved g c =
    let inv = c.loop-done.invariant in
    let events = c.args.events.now in
    let count = c.count_of_round-count.result in
    let way : (m : Running) → IsUntraced (after_rounds c.args.start.now.rounds m) c.args.start.now → IsUntraced (after_rounds c.go_back.new.machine.rounds m) c.go_back.new.machine =
    λ m i. c.in_ok-go_back.ensures.way m (subst (λ (u : Untraced). IsUntraced (after_rounds u.rounds m) u) (sym inv.0) i) (inv.2 m i) in (
      c.in_ok-go_back.ensures.start ∙ inv.0,
      omega (arith, c.count_of_round-count.ensures.within, ap length c.events_from-left.ensures, length-drop c.loop-done.done events),
      λ m i. c.in_ok-add_of_round.ensures.way m (way m i),
      λ m i.
          told_on (pc_before c.args.rounds m) events c.loop-done.done count [] c.loop-done.pcs.items c.add_of_round.new.pcs.items (inv.3 m i)
          (c.in_ok-add_of_round.ensures.pcs m (way m i) ∙ ap (λ (es : List Event). c.loop-done.pcs.items ++ map (pc_before c.args.rounds m) (take count es)) c.events_from-left.ensures),
    )

pub returns-clause-pcs : goal.returns-clause-pcs
returns-clause-pcs g c = λ m i.
    told_all (pc_before c.args.rounds m) c.args.events.now c.loop-done.done [] c.loop-done.pcs.items (omega (arith, c.loop-done-test.false)) (c.loop-done.invariant.3 m i)
