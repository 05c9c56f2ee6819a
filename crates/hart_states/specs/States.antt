-- The concrete states of runs and lists of stores, as the laws of all endings have them.
use Rattle.std.specs.Prelude.{ℕ, ◌-◌, List, map, option_map, slice_index, Option, Some, None}
use Rattle.pages.specs.Memory.{width_bytes}
use Rattle.round_schedule.specs.declared.span.Span.{Span}
use Rattle.run_bounds.specs.declared.touched.OwnByte.{OwnByte as KeptByte}
use Rattle.run_bounds.specs.Bounds.{carried_of, kinds_of}
use Rattle.run_bounds.specs.Touched.{known_at}
use Rattle.all_endings.specs.RunStates.{OwnByte, RunState}
use Rattle.all_endings.specs.StoreLists.{Stored}
use Rattle.hart_states.specs.declared.listed_store.ListedStore.{ListedStore}
use Rattle.hart_states.specs.declared.run_state.RunState.{RunState as KeptState}

abbrev pub own_of : KeptByte → OwnByte
own_of o = record { place = o.place; byte = o.byte; atomic = o.atomic; needs = o.needs }

-- of a byte of the reservation, the place behind the store that the LR read; 0 where none is held
abbrev pub source_in : Option Span → List ℕ → ℕ → ℕ
source_in None sources x = 0
source_in (Some s) sources x = slice_index sources (x - s.address)

abbrev pub state_of : KeptState → RunState
state_of s = record {
  pc = s.pc;
  registers = s.registers;
  kinds = kinds_of s.kinds;
  carried = carried_of s.carried;
  touched = λ x. (known_at s.bytes.items x).touched;
  seen = λ x. (known_at s.bytes.items x).seen;
  own = λ x. option_map own_of (known_at s.bytes.items x).own;
  held = s.held;
  reserved = s.reserved;
  sources = λ x. source_in s.held s.sources x;
  output = s.output.items;
}

abbrev pub stored_of : ListedStore → Stored
stored_of s = record { hart = s.hart; address = s.address; bytes = width_bytes s.width; number = s.number }

abbrev pub listed : List ListedStore → List Stored
listed l = map stored_of l
