use Rattle.std.proofs.Common.{◌≡◌, ◌⊎◌, ℕ, true, drop}
use Rattle.early_reads.specs.Checking.{bytes_by, has_early, is_loaded}
use Rattle.early_reads.proofs.early_bytes.has_each.Given as goal

abbrev pub invariant-loop-bytes : goal.invariant-loop-bytes
invariant-loop-bytes l = (x : ℕ) → is_loaded l.loads x ≡ true → (is_loaded (drop l.bytes-index l.loads) x ≡ true) ⊎ (has_early (bytes_by l.late l.point) x ≡ true)
