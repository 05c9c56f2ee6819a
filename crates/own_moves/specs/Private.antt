-- Plain loads and stores of a hart's own bytes, by the operation of their instruction.
use Rattle.std.specs.Prelude.{◌≡◌, ◌⊎◌, ℕ, ◌+◌, ◌-◌, ◌<◌, ◌≤◌, max, Bool, true, false, List, Contains, option_map, Option, Some, None}
use Rattle.pages.specs.Memory.{byte_of, width_bytes}
use Rattle.hart_step.specs.Numbers.{plus}
use Rattle.hart_step.specs.Step.{cut, extended_to}
use Rattle.run_bounds.specs.declared.operation.Kind.{Kind}
use Rattle.run_bounds.specs.declared.operation.Kind.TheVariants.{Load, Store}
use Rattle.run_bounds.specs.declared.operation.Operation.{Operation}
use Rattle.run_bounds.specs.declared.touched.TouchedByte.{TouchedByte}
use Rattle.run_bounds.specs.Operations.{access_of}
use Rattle.all_endings.specs.HartRuns.{data_of}
use Rattle.all_endings.specs.RunStates.{Move, RunState, answers_to}
use Rattle.all_endings.specs.StoreLists.{Stored}
use Rattle.hart_states.specs.declared.following.Successor.{Successor}
use Rattle.hart_states.specs.States.{state_of}
use Rattle.private_bytes.specs.Ahead.{IsAhead}
use Rattle.private_bytes.specs.PrivateMoves.{moved_privately, needs_of, own_number}

abbrev pub is_plain : Kind → Bool
is_plain Load = true
is_plain Store = true
is_plain _ = false

-- a move that loads own bytes: what the hart left there, and not before what that depends on (rule 12)
pub record RecallsSo (opening : ℕ → ℕ) (a : RunState) (o : Operation) (v : Move) : Type 0 where
  pub kind : o.kind ≡ Load
  pub access : v.access ≡ access_of o
  pub needs : (k : ℕ) → k < width_bytes o.width → needs_of (a.own (o.address + k)) ≤ v.time
  pub result : v.result ≡ option_map (extended_to o.signed o.width) (own_number opening a o.address (width_bytes o.width))
  pub source : (x : ℕ) → v.source x ≡ 0
  pub next : v.next ≡ plus a.pc 4

-- a move that stores to them
pub record KeepsSo (a : RunState) (o : Operation) (v : Move) : Type 0 where
  pub kind : o.kind ≡ Store
  pub access : v.access ≡ access_of o
  pub written : v.written ≡ option_map (cut o.width) (data_of a v)
  pub silent : answers_to v.instruction ≡ 0
  pub next : v.next ≡ plus a.pc 4

abbrev pub DoesPrivately : (ℕ → ℕ) → RunState → Operation → Move → Type 0
DoesPrivately opening a o v = RecallsSo opening a o v ⊎ KeepsSo a o v

-- what is kept of a byte of a store to own ones: of the store's first byte, its number, its time and what its address and data depend on
abbrev pub kept_byte : ℕ → Option ℕ → ℕ → ℕ → ℕ → TouchedByte → TouchedByte
kept_byte first number time needs x b = record {
  address = x;
  touched = max b.touched time;
  seen = b.seen;
  own = Some (record { place = 0; byte = option_map (λ n. byte_of n (x - first)) number; atomic = false; needs = needs });
}

-- a state that is ahead of what such a move leaves: it has no place in the list
pub record FollowsPrivately (h : ℕ) (m : List Stored) (a : RunState) (v : Move) (s : Successor) : Type 0 where
  pub state : IsAhead (state_of s.state) (moved_privately h m a v)
  pub done : s.done ≡ None

-- there is one
abbrev pub HasPrivateFollower : ℕ → List Stored → RunState → Move → List Successor → Type 0
HasPrivateFollower h m a v ss = (s : Successor) × Contains ss s × FollowsPrivately h m a v s
