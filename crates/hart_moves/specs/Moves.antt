-- What is found of a run's next instruction.
use Rattle.std.specs.Prelude.{◌≡◌, ◌==◌, ◌||◌, ℕ, Bool, true, false, List, Contains, Option, Some, None}
use Rattle.pages.specs.Memory.{Memory}
use Rattle.rv64_decode.specs.declared.instruction.Instr.{Instr}
use Rattle.rv64_decode.specs.declared.instruction.Instr.TheVariants.{Ecall}
use Rattle.all_endings.specs.HartRuns.{Acts, IsPlaced, Stands}
use Rattle.all_endings.specs.Locality.{view}
use Rattle.all_endings.specs.RunStates.{Move, RunState, moved, operates}
use Rattle.all_endings.specs.StoreLists.{Stored}
use Rattle.hart_moves.specs.declared.moving.Reached.{Reached}
use Rattle.hart_moves.specs.declared.moving.Reached.TheVariants.{AnyAnswer, Whole}
use Rattle.hart_states.specs.declared.following.Successor.{Successor}
use Rattle.hart_states.specs.Following.{place_done}
use Rattle.hart_states.specs.States.{state_of}
use Rattle.private_bytes.specs.Ahead.{IsAhead}

-- a state that is ahead of what a move leaves, and the move's place
pub record FollowsAhead (h : ℕ) (m : List Stored) (a : RunState) (v : Move) (s : Successor) : Type 0 where
  pub state : IsAhead (state_of s.state) (moved h m a v)
  pub done : s.done ≡ place_done v

-- there is one
abbrev pub HasFollower : ℕ → List Stored → RunState → Move → List Successor → Type 0
HasFollower h m a v ss = (s : Successor) × Contains ss s × FollowsAhead h m a v s

-- a call of this number takes in a byte, or asks for the round
abbrev pub has_any_answer : Option ℕ → Bool
has_any_answer None = false
has_any_answer (Some number) = number == 2 || number == 3

-- such a call comes next
abbrev pub HasAnyAnswer : RunState → Instr → Type 0
HasAnyAnswer a i = (i ≡ Ecall) × (has_any_answer (view a.registers 17) ≡ true)

-- for each move of an instruction of hart h there is one
abbrev pub HasMovesBy : Memory → ℕ → List Stored → (ℕ → ℕ) → RunState → Instr → List Successor → Type 0
HasMovesBy image h m opening a i ss =
    (v : Move) → v.instruction ≡ i → Acts image h m opening (IsPlaced h m) a v → (operates v ≡ true → Stands a v) → HasFollower h m a v ss

-- of such a call alone nothing is said
abbrev pub AreMovesBy : Memory → ℕ → List Stored → (ℕ → ℕ) → RunState → Instr → Reached → Type 0
AreMovesBy image h m opening a i (Whole ss) = HasMovesBy image h m opening a i ss.items
AreMovesBy image h m opening a i AnyAnswer = HasAnyAnswer a i
