-- The harts before the first round.
use Rattle.std.specs.Prelude.{ℕ, zero, suc, List, [], ◌∷◌, replicate, slice_set, None}
use Rattle.hart_step.specs.declared.hart.Hart.{Hart}

-- hart i of n before the first round: it begins at the entry, x10 is its number, x11 is the number of harts
abbrev pub opening_hart : ℕ → ℕ → ℕ → Hart
opening_hart entry n i = record { x = slice_set (slice_set (replicate 32 0) 10 i) 11 n; pc = entry; done = 0; stop = None }

-- harts i, i + 1, .., k of them
abbrev pub opening_harts : ℕ → ℕ → ℕ → ℕ → List Hart
opening_harts entry n i zero = []
opening_harts entry n i (suc k) = opening_hart entry n i ∷ opening_harts entry n (suc i) k
