use Rattle.std.proofs.Common.{ℕ}
use Rattle.guest_rounds.proofs.parallel.parallel.Given as goal

abbrev pub ghosts-parallel_from : goal.ghosts-parallel_from
ghosts-parallel_from g a = record { starts = λ (n : ℕ). a.start.now }
