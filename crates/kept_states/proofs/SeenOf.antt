-- What is kept of what is seen of a state is what is kept of the state.
use Rattle.std.proofs.Common.{◌≡◌, ℕ, refl}
use Rattle.round_schedule.specs.Schedule.{State}
use Rattle.hart_step.specs.Console.{ConsoleState}
use Rattle.hart_step.specs.declared.hart.Hart.{Hart}
use Rattle.kept_states.specs.declared.keeping.Seen.{Seen}
use Rattle.kept_states.specs.Summaries.{IsSeenOf, checkpoint_in, checkpoint_of}

pub seen_is : (every : ℕ) (v : Seen) (s : State Hart ConsoleState) → IsSeenOf v s → checkpoint_in every v ≡ checkpoint_of every s
seen_is every v s e = rw (e.harts, e.output, e.trace, e.round) refl
