use Rattle.std.proofs.Common.{◌≡◌, ◌++◌, drop, map}
use Rattle.program_files.specs.Naming.{first_missing, objects_in}
use Rattle.past_commands.proofs.naming.object_bytes.Given as goal

-- with those of the names that are left, of which the first that is missing is the first of all
abbrev pub invariant-loop-name : goal.invariant-loop-name
invariant-loop-name l =
    (l.bytes.items ++ objects_in l.image (map (λ s. s.now) (drop l.name-index l.names)) ≡ objects_in l.image (map (λ s. s.now) l.names))
    × (first_missing l.image (map (λ s. s.now) (drop l.name-index l.names)) ≡ first_missing l.image (map (λ s. s.now) l.names))
