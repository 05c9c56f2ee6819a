use Rattle.std.proofs.Common.{◌≡◌, ℕ, map, take}
use Rattle.std.specs.Global.{Vec}
use Rattle.std.specs.Int.{w64}
use Rattle.recording.specs.Fields.{HaveEach, each}
use Rattle.recording.specs.Grammar.{any}
use Rattle.kept_states.specs.Summaries.{registers_of}
use Rattle.kept_states.proofs.keeping.registers_of_all.Given as goal

abbrev pub invariant-loop-place : goal.invariant-loop-place
invariant-loop-place l = (map (λ (r : Vec ℕ). r.items) l.all.items ≡ map registers_of (take l.place l.harts)) × HaveEach l.place 0 (λ i. each 31 1 (λ x. any w64)) (map (λ (r : Vec ℕ). r.items) l.all.items)
