-- How a line is found by its number: a slot has the index of the line that came last in it, and each line that of the
-- one before it in its slot.
use Rattle.std.specs.Prelude.{◌≡◌, ℕ, ◌+◌, ◌-◌, ◌*◌, ◌%◌, ◌^◌, ◌<◌, ◌≤◌, List, [], length, Option, Some, None, bit_and, get_or}
use Rattle.std.specs.Int.{rotate_left, w64}
use Rattle.store_buffer.specs.declared.slots.Numbered.{Numbered}
use Rattle.store_buffer.specs.declared.line.Line.{Line}

-- a line that covers nothing
abbrev pub blank : Numbered
blank = record { number = 0; before = None; line = record { bytes = []; mask = 0 } }

-- the line at a index, its number, and the index of the one before it in its slot
abbrev pub line_in : List Numbered → ℕ → Line
line_in ls p = (get_or ls p blank).line

abbrev pub number_in : List Numbered → ℕ → ℕ
number_in ls p = (get_or ls p blank).number

abbrev pub before_in : List Numbered → ℕ → Option ℕ
before_in ls p = (get_or ls p blank).before

-- the slot of a number among so many slots: low bits of its product with the golden ratio, the halves of which are exchanged
unfoldable pub slot : ℕ → ℕ → ℕ
slot count number = bit_and (rotate_left w64 (number * 11400714819323198485 % 2 ^ 64) 32) (count - 1)

-- how many indices there are up to an optional one
abbrev pub up_to : Option ℕ → ℕ
up_to None = 0
up_to (Some p) = p + 1

-- the first k lines stand in chains, from the last of each slot down to its first
pub record AreChained (k : ℕ) (ls : List Numbered) (latest : List (Option ℕ)) : Type 0 where
  pub room : k ≤ length latest
  pub last : (p : ℕ) → p < k → p < up_to (get_or latest (slot (length latest) (number_in ls p)) None)
  pub next : (p q : ℕ) → p < k → q < p → slot (length latest) (number_in ls q) ≡ slot (length latest) (number_in ls p) → q < up_to (before_in ls p)
  pub heads : (i h : ℕ) → Some h ≡ get_or latest i None → (h < k) × (slot (length latest) (number_in ls h) ≡ i)
  pub links : (p q : ℕ) → p < k → Some q ≡ before_in ls p → (q < p) × (slot (length latest) (number_in ls q) ≡ slot (length latest) (number_in ls p))

-- the lines and their numbers stay, however they are chained
pub record AreSameLines (ls ms : List Numbered) : Type 0 where
  pub count : length ms ≡ length ls
  pub numbers : (p : ℕ) → number_in ms p ≡ number_in ls p
  pub lines : (p : ℕ) → line_in ms p ≡ line_in ls p
