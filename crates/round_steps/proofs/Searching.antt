-- The machine after no round and after one more.
use Rattle.std.proofs.Common.{ℕ, ◌+◌, subst}
use Rattle.round_schedule.specs.Schedule.{run_of}
use Rattle.machine.specs.Machine.{Running, after_rounds}
use Rattle.machine.specs.Untraced.{IsUntraced, Untraced}
use Rattle.machine.proofs.Repeated.{more_rounds}

pub begins_there : (m : Running) (u : Untraced) → IsUntraced m u → IsUntraced (after_rounds 0 m) u
unfolding run_of
begins_there m u is = is

pub goes_on_there : (d : ℕ) (m : Running) (u : Untraced) → IsUntraced (after_rounds 1 (after_rounds d m)) u → IsUntraced (after_rounds (d + 1) m) u
goes_on_there d m u is = subst (λ (n : Running). IsUntraced n u) (more_rounds d 1 m) is
