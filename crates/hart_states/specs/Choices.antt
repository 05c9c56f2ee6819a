-- Moves as they are found.
use Rattle.std.specs.Prelude.{ℕ, ◌-◌, ◌||◌, max, if◌then◌else◌, option_map, slice_index, Some}
use Rattle.pages.specs.Memory.{byte_of}
use Rattle.round_schedule.specs.Accesses.{address_of, is_sc, loads, stores}
use Rattle.memory_order.specs.Operations.{is_amo}
use Rattle.run_bounds.specs.declared.touched.TouchedByte.{TouchedByte}
use Rattle.all_endings.specs.RunStates.{Move}
use Rattle.hart_states.specs.declared.choice.Choice.{Choice}

abbrev pub move_of : Choice → Move
move_of c = record {
  instruction = c.instruction;
  access = c.access;
  time = c.time;
  result = c.result;
  written = c.written;
  source = λ x. slice_index c.sources (x - address_of c.access);
  next = c.next;
}

-- what is kept of a byte of an operation: the time behind it, and what its address and data depend on
abbrev pub byte_after : Choice → ℕ → ℕ → ℕ → TouchedByte → TouchedByte
byte_after c behind needs x b = record {
  address = x;
  touched = max b.touched behind;
  seen = (if loads c.access then max b.seen (slice_index c.sources (x - address_of c.access)) else b.seen);
  own = (if stores c.access then Some (record {
    place = behind;
    byte = option_map (λ n. byte_of n (x - address_of c.access)) c.written;
    atomic = is_amo c.access || is_sc c.access;
    needs = needs;
  }) else b.own);
}
