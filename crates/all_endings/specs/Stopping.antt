-- The stop of a hart whose registers are known.
use Rattle.std.specs.Prelude.{◌≡◌, ℕ, ◌%◌, ◌==◌, if◌then◌else◌, List, Option, Some, None, Result, Ok, Err}
use Rattle.pages.specs.declared.access.Fault.{Fault}
use Rattle.pages.specs.Memory.{Memory, fetched, loaded, store_fault}
use Rattle.hart_step.specs.declared.hart.Stop.{Stop}
use Rattle.hart_step.specs.Effect.{Action, Jump, Branch, Read, Write, Halt, Reserve, Conditional, Exchange, Call, action}
use Rattle.hart_step.specs.Registers.{reg}
use Rattle.hart_step.specs.Step.{by_word, fault_code}
use Rattle.all_endings.specs.Halting.{Halts, KnowsRegisters}
use Rattle.all_endings.specs.Locality.{filled}
use Rattle.all_endings.specs.RunStates.{RunState}

-- the stop with a code, and the value 0
abbrev pub stop_with : ℕ → Stop
stop_with code = record { code = code; value = 0 }

abbrev pub stop_of_load : Result ℕ Fault → Option Stop
stop_of_load (Ok v) = None
stop_of_load (Err f) = Some (stop_with (fault_code f))

abbrev pub stop_of_store : Option Fault → Option Stop
stop_of_store None = None
stop_of_store (Some f) = Some (stop_with (fault_code f))

abbrev pub stop_of_jump : ℕ → Option Stop
stop_of_jump target = if target % 4 == 0 then None else Some (stop_with 4)

-- the stop of an action, over the registers
abbrev pub stop_in : Memory → List ℕ → Action → Option Stop
stop_in image x (Jump rd target) = stop_of_jump target
stop_in image x (Branch taken target) = if taken then stop_of_jump target else None
stop_in image x (Read rd a w signed) = stop_of_load (loaded image a w)
stop_in image x (Write a w v) = stop_of_store (store_fault image a w)
stop_in image x (Halt code) = Some (stop_with code)
stop_in image x (Reserve rd a w o) = stop_of_load (loaded image a w)
stop_in image x (Conditional rd a w v o) = stop_of_store (store_fault image a w)
stop_in image x (Exchange rd a w f o) = stop_of_store (store_fault image a w)
stop_in image x Call = if reg x 17 == 0 then Some (record { code = 1; value = reg x 10 }) else None
stop_in image x _ = None

-- the stop of the instruction at an address
abbrev pub stop_at : Memory → List ℕ → ℕ → Option Stop
stop_at image x pc = by_word (fetched image pc) (Some (stop_with 3)) (Some (stop_with 2)) (λ i. stop_in image x (action i x pc))

-- where all registers are known, a run can halt in one way
abbrev pub StopsAreKnown : Type 0
StopsAreKnown = (image : Memory) (a : RunState) (s : Stop) → Halts image a s → KnowsRegisters a → stop_at image (filled a.registers) a.pc ≡ Some s
