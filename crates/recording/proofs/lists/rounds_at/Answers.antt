use Rattle.std.proofs.Common.{◌+◌, map, arith}
use Rattle.std.proofs.lemmas.Result.{err_from_is_err_and}
use Rattle.recording.specs.Fields.{taken_each}
use Rattle.recording.specs.Grammar.{checkpoint_after}
use Rattle.recording.specs.Views.{checkpoint_view}
use Rattle.recording.proofs.Loops.{goes_on, ends, is_done}
use Rattle.recording.proofs.lists.rounds_at.Goals as goal

pub returns-in_err-round : goal.returns-in_err-round
returns-in_err-round c =
    let p = err_from_is_err_and c.from_residual.result c.from_residual.ensures.1 in
    rw (p.1, p.2) (ends (checkpoint_after c.args.count c.args.every) c.in_err-round.field-0.0 (map (checkpoint_view) c.loop-done.checkpoints.items) (c.args.rounds) c.loop-done.done (c.loop-done.done + 1) c.loop-done.rest.now (taken_each (c.args.rounds) 1 (checkpoint_after c.args.count c.args.every) c.args.bytes.now) c.loop-done-test.true c.in_err-round.ensures c.loop-done.invariant.1)

pub loop-done-preserved : goal.loop-done-preserved
loop-done-preserved c =
    (omega (arith, c.loop-done-test.true), rw c.in_ok-push.ensures.items (goes_on (checkpoint_after c.args.count c.args.every) (checkpoint_view) c.loop-done.checkpoints.items (c.args.rounds) c.loop-done.done (c.loop-done.done + 1) ((c.loop-done.done + 1) + 1) c.loop-done.rest.now c.in_ok-round.round c.in_ok-round.after.now (taken_each (c.args.rounds) 1 (checkpoint_after c.args.count c.args.every) c.args.bytes.now) c.loop-done-test.true (omega arith) c.in_ok-round.ensures c.loop-done.invariant.1))

pub returns : goal.returns
returns c = is_done (checkpoint_after c.args.count c.args.every) (map (checkpoint_view) c.loop-done.checkpoints.items) (c.args.rounds) c.loop-done.done (c.loop-done.done + 1) c.loop-done.rest.now (taken_each (c.args.rounds) 1 (checkpoint_after c.args.count c.args.every) c.args.bytes.now) c.loop-done-test.false c.loop-done.invariant.1
