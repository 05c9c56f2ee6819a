-- At one time a load reads one number, from the same stores: so a load's choices are its times.
use Rattle.std.specs.Prelude.{◌≡◌, ℕ, ◌+◌, ◌<◌, List, Option}
use Rattle.pages.specs.declared.access.Width.{Width}
use Rattle.pages.specs.Memory.{width_bytes}
use Rattle.all_endings.specs.HartRuns.{Gets}
use Rattle.all_endings.specs.RunStates.{Move, RunState}
use Rattle.all_endings.specs.StoreLists.{Stored}

abbrev pub LoadsAreDetermined : Type 0
LoadsAreDetermined =
    (m : List Stored) (opening : ℕ → ℕ) (a : RunState) (v u : Move) (address : ℕ) (w : Width) (o p : Option ℕ) → v.time ≡ u.time →
    Gets m opening a v address w o → Gets m opening a u address w p →
    (o ≡ p) × ((k : ℕ) → k < width_bytes w → v.source (address + k) ≡ u.source (address + k))
