-- Which bytes one hart alone touches: by aligned doublewords, so that each access is wholly to such bytes or to none. `owns h d` says that
-- doubleword d is hart h's own.
use Rattle.std.specs.Prelude.{◌≡◌, ℕ, ◌/◌, ◌<◌, ◌&&◌, ◌||◌, Bool, true, false, Some}
use Rattle.pages.specs.declared.access.Width.{Width}
use Rattle.pages.specs.Memory.{Memory}
use Rattle.rv64_decode.specs.declared.instruction.Instr.{Instr}
use Rattle.rv64_decode.specs.declared.ordering.AcquireRelease.{AcquireRelease}
use Rattle.round_schedule.specs.declared.access.Access.{Access}
use Rattle.round_schedule.specs.Accesses.{address_of, loads, stores}
use Rattle.hart_step.specs.DecodedCode.{decoded}
use Rattle.hart_step.specs.Effect.{Action, Read, Write, Reserve, Conditional, Exchange, action}
use Rattle.memory_order.specs.Registers.{registers_of}
use Rattle.all_endings.specs.HartRuns.{IsReadable, IsWritable}
use Rattle.all_endings.specs.Locality.{KnowsButData, filled, without_data}
use Rattle.all_endings.specs.RunStates.{RunState}

-- byte x is hart h's own
abbrev pub is_own : (ℕ → ℕ → Bool) → ℕ → ℕ → Bool
is_own owns h x = owns h (x / 8)

-- an operation of hart h is on its own bytes
abbrev pub is_private : (ℕ → ℕ → Bool) → ℕ → Access → Bool
is_private owns h a = (loads a || stores a) && is_own owns h (address_of a)

-- an action touches memory at an address, as a plain load or store or not; where it can't, the hart stops
pub data Touches (image : Memory) : Action → Bool → ℕ → Type 0 where
  by-read : (rd address : ℕ) (w : Width) (signed : Bool) → IsReadable image address w → Touches image (Read rd address w signed) true address
  by-write : (address n : ℕ) (w : Width) → IsWritable image address w → Touches image (Write address w n) true address
  by-reserve : (rd address : ℕ) (w : Width) (ordering : AcquireRelease) → IsReadable image address w → Touches image (Reserve rd address w ordering) false address
  by-conditional : (rd address n : ℕ) (w : Width) (ordering : AcquireRelease) → IsWritable image address w →
      Touches image (Conditional rd address w n ordering) false address
  by-exchange : (rd address : ℕ) (w : Width) (f : ℕ → ℕ) (ordering : AcquireRelease) → IsWritable image address w →
      Touches image (Exchange rd address w f ordering) false address

-- what hart h does next, of so many harts, touches no byte that is another's own, and its own ones by plain loads and stores alone
abbrev pub KeepsToItself : (ℕ → ℕ → Bool) → Memory → ℕ → ℕ → RunState → Type 0
KeepsToItself owns image harts h a =
    (i : Instr) (plain : Bool) (address owner : ℕ) → decoded image a.pc ≡ Some i → KnowsButData (registers_of i) a.registers →
    Touches image (without_data (action i (filled a.registers) a.pc)) plain address → owner < harts → is_own owns owner address ≡ true →
    (owner ≡ h) × (plain ≡ true)
