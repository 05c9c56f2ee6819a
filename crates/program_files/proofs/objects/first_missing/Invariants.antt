use Rattle.std.proofs.Common.{◌≡◌, drop, map}
use Rattle.program_files.specs.Naming.{first_missing}
use Rattle.program_files.proofs.objects.first_missing.Given as goal

-- it is the first of those that are left
abbrev pub invariant-loop-name : goal.invariant-loop-name
invariant-loop-name l = first_missing l.image (map (λ s. s.now) (drop l.name-index l.names)) ≡ first_missing l.image (map (λ s. s.now) l.names)
