use Rattle.std.proofs.Common.{◌≡◌, ℕ, if◌then◌else◌, option_map}
use Rattle.pages.specs.Memory.{in_range}
use Rattle.hart_step.specs.Step.{cut}
use Rattle.run_bounds.specs.Touched.{known_at}
use Rattle.own_moves.specs.Private.{kept_byte}
use Rattle.own_moves.proofs.keeping.keep_bytes.Given as goal

abbrev pub invariant-loop-place : goal.invariant-loop-place
invariant-loop-place l =
    (x : ℕ) → known_at l.bytes.items x ≡ (if in_range l.coming.operation.address l.place x
    then kept_byte l.coming.operation.address (option_map (cut l.coming.operation.width) l.coming.operand) l.time l.needs x (known_at l.initial.bytes.items x)
    else known_at l.initial.bytes.items x)
