use Rattle.std.proofs.Common.{◌≡◌, ◌++◌, drop, map}
use Rattle.program_files.specs.Naming.{objects_in}
use Rattle.program_files.proofs.objects.add_objects.Given as goal

-- with the objects of the names that are left
abbrev pub invariant-loop-name : goal.invariant-loop-name
invariant-loop-name l =
    l.bytes.items ++ objects_in l.image (map (λ s. s.now) (drop l.name-index l.names)) ≡ l.fn.bytes.items ++ objects_in l.image (map (λ s. s.now) l.names)
