use Rattle.dethart.proofs.Answered.{done_by}
use Rattle.dethart.proofs.commands.put_answer.Goals as goal

pub returns-in-Run : goal.returns-in-Run
returns-in-Run g c = done_by _ _ _ _ _ c.run_command.result _ c.in-Run.is (λ s h. (h.0, h.3)) c.run_command.ensures.runs

pub returns-in-Order : goal.returns-in-Order
returns-in-Order g c = done_by _ _ _ _ _ c.order_command.result _ c.in-Order.is (λ s h. (h.0, h.5)) c.order_command.ensures.orders

pub returns-in-Record : goal.returns-in-Record
returns-in-Record g c = done_by _ _ _ _ _ c.record_command.result _ c.in-Record.is (λ s h. (h.0, h.4)) c.record_command.ensures.records

pub returns-in-Migrate : goal.returns-in-Migrate
returns-in-Migrate g c = done_by _ _ _ _ _ c.migrate_command.result _ c.in-Migrate.is (λ s h. ((h.0, h.1), h.3)) c.migrate_command.ensures.migrates

pub returns-in-Replay : goal.returns-in-Replay
returns-in-Replay g c = done_by _ _ _ _ _ c.replay_command.result _ c.in-Replay.is (λ s h. (h.0, h.3)) c.replay_command.ensures.answers

pub returns-in-Watch : goal.returns-in-Watch
returns-in-Watch g c = done_by _ _ _ _ _ c.watch_command.result _ c.in-Watch.is (λ s h. (h.0, h.3)) c.watch_command.ensures.watches

pub returns-in-Gdb : goal.returns-in-Gdb
returns-in-Gdb g c = done_by _ _ _ _ _ c.serve_debugger.result _ c.in-Gdb.is (λ s h. h) c.serve_debugger.ensures

pub returns-in-Hunt : goal.returns-in-Hunt
returns-in-Hunt g c = done_by _ _ _ _ _ c.hunt_command.result _ c.in-Hunt.is (λ s h. (h.0, h.3)) c.hunt_command.ensures.hunts

pub returns-in-Fences : goal.returns-in-Fences
returns-in-Fences g c = done_by _ _ _ _ _ c.fences_command.result _ c.in-Fences.is (λ s h. (h.0, h.3)) c.fences_command.ensures.searches

pub returns-in-All : goal.returns-in-All
returns-in-All g c = done_by _ _ _ _ _ c.all_command.result _ c.in-All.is (λ s h. (h.0, h.3)) c.all_command.ensures.searches

pub returns-in-Shrink : goal.returns-in-Shrink
returns-in-Shrink g c = done_by _ _ _ _ _ c.shrink_command.result _ c.in-Shrink.is (λ s h. (h.0, h.3)) c.shrink_command.ensures.shrinks

pub returns-in-Merge : goal.returns-in-Merge
returns-in-Merge g c = done_by _ _ _ _ _ c.merge_command.result _ c.in-Merge.is (λ s h. (h.0, h.3)) c.merge_command.ensures.merges

pub returns-in-Compare : goal.returns-in-Compare
returns-in-Compare g c = done_by _ _ _ _ _ c.compare_command.result _ c.in-Compare.is (λ s h. (h.0, h.3)) c.compare_command.ensures.compares

pub returns-in-Plan : goal.returns-in-Plan
returns-in-Plan g c = done_by _ _ _ _ _ c.plan_command.result _ c.in-Plan.is (λ s h. ((h.0, h.1), h.4)) c.plan_command.ensures.plans

pub returns-in-Draw : goal.returns-in-Draw
returns-in-Draw g c = done_by _ _ _ _ _ c.draw_command.result _ c.in-Draw.is (λ s h. (h.0, g.O.Sink.took c.args.out.now, g.O.Sink.took c.draw_command.new.out, h.1)) c.draw_command.ensures.draws

pub returns-in-Trace : goal.returns-in-Trace
returns-in-Trace g c = done_by _ _ _ _ _ c.trace_command.result _ c.in-Trace.is (λ s h. (h.0, h.3)) c.trace_command.ensures.traces

pub returns-in-Execution : goal.returns-in-Execution
returns-in-Execution g c = done_by _ _ _ _ _ c.execution_command.result _ c.in-Execution.is (λ s h. (h.0, h.3)) c.execution_command.ensures.prints

pub returns-in-Check : goal.returns-in-Check
returns-in-Check g c = done_by _ _ _ _ _ c.check_command.result _ c.in-Check.is (λ s h. (h.0, h.5)) c.check_command.ensures.checks
