-- Preserved program order and the load value axiom (manual, section 14.1), in times.
use Rattle.std.specs.Prelude.{◌≡◌, ℕ, ◌<◌, ◌≤◌, ◌⊎◌, ◌||◌, true, false, List, Option, Some}
use Rattle.rv64_decode.specs.declared.instruction.Instr.{Instr}
use Rattle.round_schedule.specs.declared.event.Event.{Event}
use Rattle.round_schedule.specs.Accesses.{byte_read, byte_written, is_sc}
use Rattle.round_schedule.specs.Positions.{ProgramBefore, event, reads_at, writes_at}
use Rattle.memory_order.specs.Operations.{is_amo, is_operation}
use Rattle.memory_order.specs.Orders.{order_position}
use Rattle.memory_order.specs.Rvwmo.{IsSource, MeetsRvwmoBy, Rule}
use Rattle.memory_order.specs.Dependencies.{DependencyRule, registers_at}
use Rattle.rule_checker.specs.CarriedBounds.{AreRegisters, operand_bound}
use Rattle.all_endings.specs.StoreLists.{byte_at, last_place, place_behind, stores_of}
use Rattle.all_endings.specs.Times.{carried_before, time_after, time_of}

-- each of the thirteen rules is a lower bound for a time
abbrev pub PreservedInTime : Type 0
PreservedInTime =
    (is : List Instr) (t : List Event) (opening : ℕ → ℕ) (g : List ℕ) → MeetsRvwmoBy (DependencyRule is t) t opening g →
    (n a b : ℕ) → is_operation (event t a) ≡ true → is_operation (event t b) ≡ true → ProgramBefore t a b →
    Rule (DependencyRule is t (order_position g)) t (order_position g) a b → time_after n t g a ≤ time_of n t g b

-- a store of the load's own hart to its byte, before it in the program
abbrev pub OwnWriter : List Event → ℕ → ℕ → ℕ → Type 0
OwnWriter t b x w = (writes_at t w x ≡ true) × ProgramBefore t w b

-- the byte is that of the last own store before the load, which stands behind the load's time
pub record IsForwarded (n : ℕ) (is : List Instr) (t : List Event) (g : List ℕ) (b x w : ℕ) : Type 0 where
  pub own : OwnWriter t b x w
  pub last : (v : ℕ) → OwnWriter t b x v → v ≤ w
  pub behind : time_of n t g b < time_after n t g w
  pub byte : byte_read (event t b).access x ≡ byte_written (event t w).access x
  -- rule 3
  pub plain : (is_amo (event t w).access || is_sc (event t w).access) ≡ false
  -- rule 12
  pub needs : operand_bound (carried_before (time_after n t g) is t (event t w).hart w) (registers_at is w) ≤ time_of n t g b

-- or that of the last store of the list before the load's time, and no own store stands behind that time
pub record IsRemembered (n : ℕ) (t : List Event) (opening : ℕ → ℕ) (g : List ℕ) (b x : ℕ) (s : Option ℕ) : Type 0 where
  pub past : (v : ℕ) → OwnWriter t b x v → time_after n t g v ≤ time_of n t g b
  pub place : last_place (stores_of n t g) x (time_of n t g b) ≡ place_behind n t g s
  pub byte : byte_read (event t b).access x ≡ byte_at (stores_of n t g) opening x (last_place (stores_of n t g) x (time_of n t g b))

-- what a load reads that is not LATER
abbrev pub LoadsReadInTime : Type 0
LoadsReadInTime =
    (is : List Instr) (t : List Event) (opening : ℕ → ℕ) (g : List ℕ) → ((i : ℕ) → AreRegisters (registers_at is i)) → MeetsRvwmoBy (DependencyRule is t) t opening g →
    (n b x : ℕ) → reads_at t b x ≡ true → time_of n t g b ≤ n →
    (s : Option ℕ) × IsSource t (order_position g) b x s × (((w : ℕ) × (s ≡ Some w) × IsForwarded n is t g b x w) ⊎ IsRemembered n t opening g b x s)

-- rule 2: of two loads of a hart, the later one in the program reads no earlier store, whatever their times
abbrev pub SeenStays : Type 0
SeenStays =
    (is : List Instr) (t : List Event) (opening : ℕ → ℕ) (g : List ℕ) → MeetsRvwmoBy (DependencyRule is t) t opening g →
    (n a b x : ℕ) (s u : Option ℕ) → ProgramBefore t a b → reads_at t a x ≡ true → reads_at t b x ≡ true →
    IsSource t (order_position g) a x s → IsSource t (order_position g) b x u → place_behind n t g s ≤ place_behind n t g u
