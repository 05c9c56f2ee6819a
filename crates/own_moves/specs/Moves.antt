-- What is found of a run's next instruction, where some bytes are the hart's own.
use Rattle.std.specs.Prelude.{◌≡◌, ℕ, Bool, true, if◌then◌else◌, List, Contains, Some, None}
use Rattle.pages.specs.Memory.{Memory}
use Rattle.rv64_decode.specs.declared.instruction.Instr.{Instr}
use Rattle.hart_step.specs.DecodedCode.{decoded}
use Rattle.all_endings.specs.HartRuns.{IsPlaced, Stands}
use Rattle.all_endings.specs.RunStates.{Move, RunState, moved, operates}
use Rattle.all_endings.specs.StoreLists.{Stored}
use Rattle.hart_states.specs.declared.following.Successor.{Successor}
use Rattle.hart_states.specs.Following.{place_done}
use Rattle.hart_states.specs.States.{state_of}
use Rattle.hart_moves.specs.declared.moving.Reached.{Reached}
use Rattle.hart_moves.specs.declared.moving.Reached.TheVariants.{AnyAnswer, Whole}
use Rattle.hart_moves.specs.Moves.{HasAnyAnswer}
use Rattle.private_bytes.specs.Ahead.{IsAhead}
use Rattle.private_bytes.specs.Owners.{is_private}
use Rattle.private_bytes.specs.PrivateMoves.{ActsApart, moved_privately}

-- a state that is ahead of what a move leaves, and the move's place: an operation on own bytes has none
pub record FollowsApart (owns : ℕ → ℕ → Bool) (h : ℕ) (m : List Stored) (a : RunState) (v : Move) (s : Successor) : Type 0 where
  pub state : IsAhead (state_of s.state) (if is_private owns h v.access then moved_privately h m a v else moved h m a v)
  pub done : s.done ≡ (if is_private owns h v.access then None else place_done v)

-- there is one
abbrev pub HasFollower : (ℕ → ℕ → Bool) → ℕ → List Stored → RunState → Move → List Successor → Type 0
HasFollower owns h m a v ss = (s : Successor) × Contains ss s × FollowsApart owns h m a v s

-- for each move of hart h there is one
abbrev pub HasMoves : (ℕ → ℕ → Bool) → Memory → ℕ → List Stored → (ℕ → ℕ) → RunState → List Successor → Type 0
HasMoves owns image h m opening a ss =
    (v : Move) → decoded image a.pc ≡ Some v.instruction → ActsApart owns image h m opening (IsPlaced h m) a v → (operates v ≡ true → Stands a v) →
    HasFollower owns h m a v ss

-- of a call that may have any answer alone nothing is said
abbrev pub AreMoves : (ℕ → ℕ → Bool) → Memory → ℕ → List Stored → (ℕ → ℕ) → RunState → Reached → Type 0
AreMoves owns image h m opening a (Whole ss) = HasMoves owns image h m opening a ss.items
AreMoves owns image h m opening a AnyAnswer = (i : Instr) × (decoded image a.pc ≡ Some i) × HasAnyAnswer a i
