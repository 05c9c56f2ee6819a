use Rattle.std.proofs.Common.{◌≡◌, ℕ, if◌then◌else◌}
use Rattle.pages.specs.Memory.{in_range}
use Rattle.round_schedule.specs.Accesses.{address_of}
use Rattle.run_bounds.specs.Touched.{known_at}
use Rattle.hart_states.specs.Choices.{byte_after}
use Rattle.hart_states.proofs.touching.touch.Given as goal

abbrev pub invariant-loop-place : goal.invariant-loop-place
invariant-loop-place l =
    (x : ℕ) → known_at l.bytes.items x ≡ (if in_range (address_of l.choice.access) l.place x
    then byte_after l.choice l.behind l.needs x (known_at l.initial.bytes.items x) else known_at l.initial.bytes.items x)
