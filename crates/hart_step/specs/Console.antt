-- What the calls of a program to its environment read and write.
use Rattle.std.specs.Prelude.{ℕ, ◌+◌, ◌-◌, ◌%◌, ◌^◌, ◌++◌, if◌then◌else◌, nat_lt, List, [], ◌∷◌, length, slice_index}

-- the input, how many of its bytes were taken, and the output so far
pub record ConsoleState : Type 0 where
  pub input : List ℕ
  pub place : ℕ
  pub output : List ℕ

-- what a call leaves: its answer and the console
pub record Answered : Type 0 where
  pub value : ℕ
  pub console : ConsoleState

-- how many bytes the output holds
abbrev pub output_room : ℕ
output_room = 2 ^ 20

abbrev pub all_ones : ℕ
all_ones = 2 ^ 64 - 1

-- one byte more of output, unless it is full
abbrev pub put_call : ℕ → ConsoleState → Answered
put_call v c =
    if nat_lt (length c.output) output_room
    then record { value = 0; console = record c { output = c.output ++ (v % 2 ^ 8) ∷ [] } }
    else record { value = all_ones; console = c }

-- the next byte of the input, unless all were taken
abbrev pub get_call : ConsoleState → Answered
get_call c =
    if nat_lt c.place (length c.input)
    then record { value = slice_index c.input c.place; console = record c { place = c.place + 1 } }
    else record { value = all_ones; console = c }
