-- The order by rounds of a run is one that RVWMO allows.
use Rattle.std.proofs.Common.{◌≡◌, ℕ, List, [], arith, refl, slice_index, sym, subst, true}
use Rattle.round_schedule.specs.declared.event.Event.{Event}
use Rattle.round_schedule.specs.Positions.{event}
use Rattle.hart_step.specs.declared.hart.Hart.{Hart}
use Rattle.hart_step.specs.Console.{ConsoleState}
use Rattle.hart_step.specs.Words.{words_of}
use Rattle.hart_step.proofs.Soundness.{sound}
use Rattle.memory_order.specs.Operations.{is_plain_store}
use Rattle.memory_order.specs.Rvwmo.{MeetsRvwmo}
use Rattle.memory_order.proofs.Meeting.{runs_meet}
use Rattle.memory_order.proofs.Wider.{wider_is_wider}
use Rattle.execution.specs.Executions.{Standing}
use Rattle.execution.specs.Progressing.{at_start}
use Rattle.execution.specs.Runs.{IsOfRun, told_run}
use Rattle.execution.specs.Telling.{telling}
use Rattle.execution.proofs.RunExecutions.{runs_are}
use Rattle.execution.proofs.Telling.{telling_is_sound}
use Rattle.execution_checker.specs.RunOrders.{OrdersOfRunsAreAllowed}
use Rattle.execution_checker.proofs.StoresOf.{executes_stores, past_end}

pub orders_allowed : OrdersOfRunsAreAllowed
orders_allowed x small =
    let run : (q : Standing) × IsOfRun x q = runs_are x small in
    let q : Standing = run.0 in (
      q,
      run.1,
      λ g order.
          wider_is_wider q.instructions q.events (λ a. slice_index x.memory.bytes a) g
          (executes_stores x.memory (at_start x.harts x.console) q refl run.1.executes (λ i plain. absurd (past_end [] i (omega arith) plain)))
          (subst (λ (t : List Event). MeetsRvwmo t (λ a. slice_index x.memory.bytes a) g) (sym run.1.events)
          (runs_meet Hart ConsoleState (telling (words_of x.memory.code)) (telling_is_sound (words_of x.memory.code) (sound x.memory.code)) x.budget x.quotas x.rounds x.harts x.memory.bytes x.console small g order)),
    )
