-- What an instruction does to memory.
use Rattle.std.specs.Prelude.{ℕ, true, false, List, Option, Some, None}
use Rattle.pages.specs.declared.access.Width.{Width}
use Rattle.pages.specs.declared.access.Width.TheVariants.{W4, W8}
use Rattle.rv64_decode.specs.declared.atomic.Atomic.{Atomic as Word}
use Rattle.rv64_decode.specs.declared.atomic.Atomic.TheVariants.{LoadReserved as LrWord, StoreConditional as ScWord, Operation as AmoWord}
use Rattle.rv64_decode.specs.declared.atomic.AtomicWidth.{AtomicWidth}
use Rattle.rv64_decode.specs.declared.atomic.AtomicWidth.TheVariants.{Word as FourBytes, Doubleword}
use Rattle.rv64_decode.specs.declared.ordering.AcquireRelease.{AcquireRelease}
use Rattle.round_schedule.specs.declared.access.Access.{Access}
use Rattle.round_schedule.specs.declared.access.Access.TheVariants.{Load as LoadOf, Store as StoreOf, LoadReserved as LrOf, StoreConditional as ScOf, Atomic as AmoOf}
use Rattle.hart_step.specs.Effect.{Action, Read, Write, Reserve, Conditional, Exchange}
use Rattle.hart_step.specs.Registers.{reg}
use Rattle.run_bounds.specs.declared.operation.Kind.{Kind}
use Rattle.run_bounds.specs.declared.operation.Kind.TheVariants.{Load, Store, LoadReserved, StoreConditional, Atomic}
use Rattle.run_bounds.specs.declared.operation.Operation.{Operation}

abbrev pub no_annotation : AcquireRelease
no_annotation = record { acquire = false; release = false }

-- of a plain load or store
abbrev pub plain_in : Action → Option Operation
plain_in (Read rd a w signed) = Some (record { kind = Load; address = a; width = w; ordering = no_annotation; signed = signed })
plain_in (Write a w v) = Some (record { kind = Store; address = a; width = w; ordering = no_annotation; signed = false })
plain_in _ = None

-- the operation of an action
abbrev pub operation_in : Action → Option Operation
operation_in (Reserve rd a w ordering) = Some (record { kind = LoadReserved; address = a; width = w; ordering = ordering; signed = true })
operation_in (Conditional rd a w v ordering) = Some (record { kind = StoreConditional; address = a; width = w; ordering = ordering; signed = true })
operation_in (Exchange rd a w f ordering) = Some (record { kind = Atomic; address = a; width = w; ordering = ordering; signed = true })
operation_in other = plain_in other

abbrev pub width_in : AtomicWidth → Width
width_in FourBytes = W4
width_in Doubleword = W8

-- of an instruction of the A extension, over registers
abbrev pub atomic_in : List ℕ → Word → Operation
atomic_in x (LrWord rd rs1 width ordering) = record { kind = LoadReserved; address = reg x rs1; width = width_in width; ordering = ordering; signed = true }
atomic_in x (ScWord rd rs1 rs2 width ordering) = record { kind = StoreConditional; address = reg x rs1; width = width_in width; ordering = ordering; signed = true }
atomic_in x (AmoWord operation rd rs1 rs2 width ordering) = record { kind = Atomic; address = reg x rs1; width = width_in width; ordering = ordering; signed = true }

-- its access, without numbers; of an SC that of one that writes
abbrev pub access_as : Kind → ℕ → Width → AcquireRelease → Access
access_as Load a w o = LoadOf w 0 a 0
access_as Store a w o = StoreOf w 0 a 0
access_as LoadReserved a w o = LrOf w o 0 a 0
access_as StoreConditional a w o = ScOf w o 0 a (Some 0)
access_as Atomic a w o = AmoOf w o 0 a 0 0

abbrev pub access_of : Operation → Access
access_of o = access_as o.kind o.address o.width o.ordering
