-- Of which harts something is told when some rounds are done, and wasn't before.
use Rattle.std.specs.Prelude.{◌≡◌, ℕ, ◌&&◌, not, Bool, false, is_some, List, slice_get, Option, Some, None}
use Rattle.hart_step.specs.declared.hart.Hart.{Hart}
use Rattle.moments.specs.declared.asked.Asked.{Asked}
use Rattle.moments.specs.Hits.{tells}

-- hart i ran as the first, and something is told of it as the second
abbrev pub tells_anew : Asked → ℕ → Option Hart → Option Hart → Bool
tells_anew a i None g = false
tells_anew a i (Some h) None = false
tells_anew a i (Some h) (Some g) = not (is_some h.stop) && tells a i g

-- of no hart
abbrev pub NoNewStop : Asked → List Hart → List Hart → Type 0
NoNewStop a before after = (i : ℕ) → tells_anew a i (slice_get before i) (slice_get after i) ≡ false
