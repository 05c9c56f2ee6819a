use Rattle.std.proofs.Common.{refl}
use Rattle.machine.specs.Machine.{after_rounds}
use Rattle.replayer.proofs.PlaceSought.{behind_found, is_found, is_not_lost, nowhere, somewhere}
use Rattle.replayer.proofs.placing.state_sought.Goals as goal

pub hart_from-requires-clause-run : goal.hart_from-requires-clause-run
hart_from-requires-clause-run g c = λ lifetimes within.
    let last = c.in_ok-sought.sought.last in
    let run = c.requires.run in
    let behind = behind_found c.args.machine.now last c.args.rounds c.in_ok-sought.sought.found (c.in-Some.round, c.in-Some.count) c.in-Some.is c.in_ok-sought.ensures.behind in
    (after_rounds last.rounds run.0, behind.0.run run.0 run.1)

pub returns-in-None-clause-before : goal.returns-in-None-clause-before
returns-in-None-clause-before g c = λ m is begins.
    nowhere c.args.rounds c.args.rounds m c.args.hart c.args.place c.in_ok-sought.sought.found refl c.in-None.is (c.in_ok-sought.ensures.round m is begins)

pub returns-in-Some-2-clause-before : goal.returns-in-Some-2-clause-before
returns-in-Some-2-clause-before g c = λ m is begins.
    let sought = c.in_ok-sought.sought in
    let found = somewhere c.args.rounds c.args.rounds m c.args.hart c.args.place c.in-Some.round c.in-Some.count sought.found refl c.in-Some.is (c.in_ok-sought.ensures.round m is begins) in
    let behind = behind_found c.args.machine.now sought.last c.args.rounds sought.found (c.in-Some.round, c.in-Some.count) c.in-Some.is c.in_ok-sought.ensures.behind in
    let there = c.in_ok-before-in-Some.ensures.hart m c.args.rounds (behind.0.run m is) behind.2 in
    (c.in-Some.count, is_found c.args.rounds m c.args.hart c.args.place c.in-Some.round c.in-Some.count c.in_ok-before-in-Some.field-0 found there c.in-Some-2.before c.in-Some-2.is)

pub unreachable-requires : goal.unreachable-requires
unreachable-requires g c =
    let run = c.requires.run in
    let sought = c.in_ok-sought.sought in
    let found = somewhere c.args.rounds c.args.rounds run.0 c.args.hart c.args.place c.in-Some.round c.in-Some.count sought.found refl c.in-Some.is (c.in_ok-sought.ensures.round run.0 run.1 run.2) in
    let behind = behind_found c.args.machine.now sought.last c.args.rounds sought.found (c.in-Some.round, c.in-Some.count) c.in-Some.is c.in_ok-sought.ensures.behind in
    let there = c.in_ok-before-in-Some.ensures.hart run.0 c.args.rounds (behind.0.run run.0 run.1) behind.2 in
    is_not_lost c.args.rounds run.0 c.args.hart c.args.place c.in-Some.round c.in-Some.count c.in_ok-before-in-Some.field-0 found there c.in-None-2.is
