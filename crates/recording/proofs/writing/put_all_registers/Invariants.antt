use Rattle.std.proofs.Common.{◌≡◌, ◌++◌, ℕ, drop, map}
use Rattle.std.specs.Int.{w64}
use Rattle.recording.specs.Fields.{each, spelled_each}
use Rattle.recording.specs.Grammar.{any}
use Rattle.std.specs.Global.{Vec}
use Rattle.recording.proofs.writing.put_all_registers.Given as goal

abbrev pub invariant-loop-values : goal.invariant-loop-values
invariant-loop-values l = l.text.items ++ spelled_each l.values-index (λ _. each 31 1 (λ _. any w64)) (drop l.values-index (map (λ (r : Vec ℕ). r.items) l.harts)) ≡ l.fn.text.items ++ spelled_each 0 (λ _. each 31 1 (λ _. any w64)) (map (λ (r : Vec ℕ). r.items) l.harts)
