use Rattle.std.proofs.Common.{◌≡◌, ◌-◌}
use Rattle.machine.specs.Machine.{Running}
use Rattle.machine.specs.Untraced.{IsUntraced}
use Rattle.gdb_runs.specs.declared.session.Standing.{Standing}
use Rattle.gdb_steps.specs.Steps.{StepsUpTo}
use Rattle.gdb_runs.specs.Sessions.{IsReady, recorded_of, state_of}
use Rattle.gdb_steps.proofs.stepping_in.step_further.Given as goal

abbrev pub invariant-loop-i : goal.invariant-loop-i
invariant-loop-i g l =
    (l.run ≡ l.fn.run)
    × (l.session ≡ record l.fn.session { standing = l.session.standing })
    × IsReady l.fn.run l.session.standing
    × ((m : Running) → IsUntraced m l.fn.run.timeline.start → (t : Standing) →
    StepsUpTo (recorded_of m l.fn.run) l.low l.high l.hart (l.most - l._i) (state_of l.session) t →
    StepsUpTo (recorded_of m l.fn.run) l.low l.high l.hart l.most (state_of l.fn.session) t)
