-- What was found of a hart's runs from some spots on.
use Rattle.std.specs.Prelude.{ℕ, Bool, List, Contains}
use Rattle.pages.specs.Memory.{Memory}
use Rattle.all_endings.specs.StoreLists.{Stored}
use Rattle.hart_ends.specs.Told.{ends_told}
use Rattle.hart_states.specs.States.{listed}
use Rattle.private_bytes.specs.PrivateWalks.{Spot}
use Rattle.list_suffixes.specs.NodeWalks.{IsWalkedFrom}
use Rattle.list_suffixes.specs.Serving.{Node}
use Rattle.run_places.specs.declared.walking.Walk.{Walk}
use Rattle.run_places.specs.declared.walking.Walk.TheVariants.{Unknown, Whole}
use Rattle.run_places.specs.Following.{IsFollowed}

-- from a node's spots, of at most k instructions of hart h, of so many harts, where all places were followed
abbrev pub IsWalkFrom : (ℕ → ℕ → Bool) → ℕ → Memory → ℕ → ℕ → Node → Walk → Type 0
IsWalkFrom owns k image harts h n (Whole w) = (ps : List Spot) × IsWalkedFrom owns k image harts h n (listed w.offered.items) (ends_told w.ends.items) ps
IsWalkFrom owns k image harts h n (Unknown why) = Unit {0}

-- of some spots and those that they lead to each is followed
abbrev pub IsWalkOn : (ℕ → ℕ → Bool) → ℕ → Memory → ℕ → ℕ → List Stored → (ℕ → ℕ) → List Spot → Walk → Type 0
IsWalkOn owns k image harts h m opening begin (Whole w) =
    (ps : List Spot) × ((p : Spot) → Contains begin p → Contains ps p) ×
    ((p : Spot) → Contains ps p → IsFollowed owns k image harts h m opening p (listed w.offered.items) (ends_told w.ends.items) ps)
IsWalkOn owns k image harts h m opening begin (Unknown why) = Unit {0}
