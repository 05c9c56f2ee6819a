-- What is found at a move's time can stand for it.
use Rattle.std.proofs.Common.{◌≡◌, ℕ, ◌+◌, ◌-◌, ◌≤◌, ◌<◌, ◌||◌, Bool, true, false, if◌then◌else◌, min, List, Option, Some, None, refl, sym, ap, ◌∙◌, subst, arith}
use Rattle.round_schedule.specs.declared.access.Access.{Access}
use Rattle.round_schedule.specs.Accesses.{address_of, bytes_of, loads}
use Rattle.round_schedule.specs.Accesses.{stores as writing}
use Rattle.pages.specs.Memory.{in_range, width_bytes}
use Rattle.rv64_decode.specs.declared.instruction.Instr.{Instr}
use Rattle.memory_order.specs.Operations.{covers}
use Rattle.memory_order.proofs.Bounding.{range_at}
use Rattle.memory_order.specs.Registers.{registers_of}
use Rattle.rule_checker.specs.CarriedBounds.{AllowedBy}
use Rattle.rule_checker.specs.Kinds.{AllowedByKind}
use Rattle.all_endings.specs.HartRuns.{Stands}
use Rattle.all_endings.specs.Locality.{set_view}
use Rattle.all_endings.specs.RunStates.{Move, RunState, answers_to, behind}
use Rattle.all_endings.specs.StoreLists.{Stored, later}
use Rattle.hart_states.specs.declared.choice.Choice.{Choice}
use Rattle.run_bounds.specs.declared.operation.Kind.{Kind}
use Rattle.run_bounds.specs.declared.operation.Kind.TheVariants.{Load, Store, LoadReserved, StoreConditional, Atomic}
use Rattle.run_bounds.specs.declared.operation.Operation.{Operation}
use Rattle.hart_states.specs.Choices.{move_of}
use Rattle.hart_moves.specs.Choosing.{IsFound, is_storing}
use Rattle.hart_states.specs.Following.{place_done}
use Rattle.run_bounds.specs.Operations.{access_as, access_of}
use Rattle.hart_states.proofs.Touched.{within_range}

-- ---- where an operation stands

pub record StandsAs (a : RunState) (i : Instr) (y : Access) (time : ℕ) : Type 0 where
  pub kinds : AllowedByKind a.kinds y time
  pub carried : AllowedBy a.carried (registers_of i) y time
  pub touched : (x : ℕ) → writing y ≡ true → covers y x ≡ true → a.touched x ≤ time

pub stands_as : (a : RunState) (v : Move) (i : Instr) (y : Access) (time : ℕ) → v.instruction ≡ i → v.access ≡ y → v.time ≡ time → Stands a v → StandsAs a i y time
stands_as a v i y time same does at s =
    subst (λ (j : Instr). StandsAs a j y time) same (subst (λ (z : Access). StandsAs a v.instruction z time) does (subst (λ (t : ℕ). StandsAs a v.instruction v.access t) at
    (record { kinds = s.kinds; carried = s.carried; touched = s.touched })))

-- ---- two moves at one time

-- what a move at the same time, of the same access, has to share to be no later
pub record IsAlike (a : RunState) (u v : Move) : Type 0 where
  pub instruction : u.instruction ≡ v.instruction
  pub access : u.access ≡ v.access
  pub next : u.next ≡ v.next
  pub time : u.time ≡ v.time
  pub registers : set_view a.registers (answers_to u.instruction) u.result ≡ set_view a.registers (answers_to u.instruction) v.result
  pub source : loads u.access ≡ true → (x : ℕ) → covers u.access x ≡ true → u.source x ≡ v.source x
  pub written : writing u.access ≡ true → u.written ≡ v.written

same_behind : (m : List Stored) (u v : Move) → u.access ≡ v.access → u.time ≡ v.time → behind m u ≡ behind m v
same_behind m u v y t = ap (λ (z : Access). min (if writing z then u.time + 1 else u.time) (later m)) y ∙ ap (λ (n : ℕ). min (if writing v.access then n + 1 else n) (later m)) t

same_place : (u v : Move) → u.access ≡ v.access → u.time ≡ v.time → place_done u ≡ place_done v
same_place u v y t = ap (λ (z : Access). if writing z then Some u.time else None) y ∙ ap (λ (n : ℕ). if writing v.access then Some n else None) t

pub found_alike : (m : List Stored) (a : RunState) (o : Option Choice) (c : Choice) (v : Move) → o ≡ Some c → IsAlike a (move_of c) v → IsFound m a o v
found_alike m a o c v is k = record {
  choice = c;
  is = is;
  earlier = record {
    instruction = k.instruction;
    access = k.access;
    next = k.next;
    registers = k.registers;
    time = λ op. let e = same_behind m (move_of c) v k.access k.time in omega (arith, e);
    source = k.source;
    place = λ store. same_behind m (move_of c) v k.access k.time;
    written = k.written;
  };
  done = same_place (move_of c) v k.access k.time;
}

-- ---- accesses of operations

pub address_as : (k : Kind) (o : Operation) → o.kind ≡ k → (address_of (access_of o) ≡ o.address) × (bytes_of (access_of o) ≡ width_bytes o.width)
address_as k o e = by_kind o.kind
  where
    by_kind : (k : Kind) → (address_of (access_as k o.address o.width o.ordering) ≡ o.address) × (bytes_of (access_as k o.address o.width o.ordering) ≡ width_bytes o.width)
    by_kind Load = (refl, refl)
    by_kind Store = (refl, refl)
    by_kind LoadReserved = (refl, refl)
    by_kind StoreConditional = (refl, refl)
    by_kind Atomic = (refl, refl)

pub storing_writes : (o : Operation) → is_storing o.kind ≡ true → writing (access_of o) ≡ true
storing_writes o e = by_kind o.kind e
  where
    by_kind : (k : Kind) → is_storing k ≡ true → writing (access_as k o.address o.width o.ordering) ≡ true
    by_kind Load e = absurd (cc)
    by_kind Store e = refl
    by_kind LoadReserved e = absurd (cc)
    by_kind StoreConditional e = refl
    by_kind Atomic e = absurd (cc)

-- each of its bytes is one of the operation
pub covers_at : (o : Operation) (k : ℕ) → k < width_bytes o.width → covers (access_of o) (o.address + k) ≡ true
covers_at o k l =
    let p = address_as o.kind o refl in
    ap (λ (n : ℕ). in_range n (bytes_of (access_of o)) (o.address + k)) p.0 ∙ ap (λ (n : ℕ). in_range o.address n (o.address + k)) p.1
    ∙ range_at o.address (width_bytes o.width) k l

-- a byte of an operation is one of its bytes
pub covered_at : (o : Operation) (x : ℕ) → covers (access_of o) x ≡ true → (k : ℕ) × (k < width_bytes o.width) × (o.address + k ≡ x) × (x - address_of (access_of o) ≡ k)
covered_at o x c =
    let p = address_as o.kind o refl in
    let r : in_range o.address (width_bytes o.width) x ≡ true = ap (λ (n : ℕ). in_range n (width_bytes o.width) x) (sym p.0) ∙ ap (λ (n : ℕ). in_range (address_of (access_of o)) n x) (sym p.1) ∙ c in
    let l = within_range o.address (width_bytes o.width) x r in
    (x - o.address, omega (arith, l.0, l.1), omega (arith, l.0), ap (λ (n : ℕ). x - n) p.0)

-- what is no memory operation leaves the same at any time
pub found_idle : (m : List Stored) (a : RunState) (o : Option Choice) (c : Choice) (v : Move) → o ≡ Some c → c.instruction ≡ v.instruction → c.access ≡ v.access → c.next ≡ v.next →
    set_view a.registers (answers_to c.instruction) c.result ≡ set_view a.registers (answers_to c.instruction) v.result → loads c.access ≡ false → writing c.access ≡ false → IsFound m a o v
found_idle m a o c v is same does to gets dry still = record {
  choice = c;
  is = is;
  earlier = record {
    instruction = same;
    access = does;
    next = to;
    registers = gets;
    time = λ op. let e : (loads c.access || writing c.access) ≡ false = ap (λ (b : Bool). b || writing c.access) dry ∙ still in absurd (cc);
    source = λ load x there. absurd (cc);
    place = λ store. absurd (cc);
    written = λ store. absurd (cc);
  };
  done = ap (λ (b : Bool). if b then Some c.time else None) still ∙ sym (ap (λ (b : Bool). if b then Some v.time else None) (ap writing (sym does) ∙ still));
}
