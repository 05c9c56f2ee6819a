-- What a move leaves.
use Rattle.std.specs.Prelude.{◌≡◌, ℕ, if◌then◌else◌, List, Option, Some, None}
use Rattle.round_schedule.specs.Accesses.{stores as writing}
use Rattle.all_endings.specs.Lowering.{IsLower}
use Rattle.all_endings.specs.RunStates.{Move, RunState, moved}
use Rattle.all_endings.specs.StoreLists.{Stored}
use Rattle.hart_states.specs.declared.following.Successor.{Successor}
use Rattle.hart_states.specs.States.{state_of}

-- the time of a move that stores
abbrev pub place_done : Move → Option ℕ
place_done v = if writing v.access then Some v.time else None

-- a state that is no higher, and the move's place
pub record Follows (h : ℕ) (m : List Stored) (a : RunState) (v : Move) (s : Successor) : Type 0 where
  pub state : IsLower (state_of s.state) (moved h m a v)
  pub done : s.done ≡ place_done v
