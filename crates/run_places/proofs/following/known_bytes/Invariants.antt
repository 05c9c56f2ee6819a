use Rattle.std.proofs.Common.{◌≡◌, ℕ, map, take, Some}
use Rattle.run_places.proofs.following.known_bytes.Given as goal

abbrev pub invariant-loop-byte : goal.invariant-loop-byte
invariant-loop-byte l = map (λ (b : ℕ). Some b) l.bytes.items ≡ take l.byte-index l.output
