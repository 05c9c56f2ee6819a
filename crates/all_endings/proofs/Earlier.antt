-- Of moves that do the same, the earliest leaves the lowest state.
use Rattle.std.proofs.Common.{◌≡◌, ℕ, ◌-◌, ◌≤◌, ◌&&◌, ◌||◌, max, Bool, true, false, if◌then◌else◌, List, ◌++◌, length, Option, Some, None, option_map, refl, ap, subst, arith}
use Rattle.std.proofs.lemmas.Bool.{and_parts}
use Rattle.pages.specs.Memory.{byte_of}
use Rattle.rv64_decode.specs.declared.instruction.Instr.{Instr}
use Rattle.round_schedule.specs.declared.access.Access.{Access}
use Rattle.round_schedule.specs.declared.access.Access.TheVariants.{Load, Store, LoadReserved, StoreConditional, Atomic, Fence}
use Rattle.round_schedule.specs.declared.span.Span.{Span}
use Rattle.round_schedule.specs.Accesses.{address_of, is_lr, is_sc, loads, stores, writes}
use Rattle.round_schedule.specs.Held.{held_after_own}
use Rattle.memory_order.specs.Operations.{covers, is_amo}
use Rattle.memory_order.specs.declared.registers.Registers.{Registers}
use Rattle.memory_order.specs.Registers.{registers_of}
use Rattle.rule_checker.specs.CarriedBounds.{AreRegisters, carried_after, operand_bound}
use Rattle.rule_checker.specs.Kinds.{kinds_after}
use Rattle.rule_checker.specs.declared.annotated.KindBounds.{KindBounds}
use Rattle.rule_checker.specs.declared.carried.Carried.{Carried}
use Rattle.execution.specs.Progressing.{step_event}
use Rattle.all_endings.specs.Earlier.{EarlierMovesAreLower, IsNoLater}
use Rattle.all_endings.specs.Locality.{set_view}
use Rattle.all_endings.specs.Lowering.{CarriedAtMost, IsLower, KindsAtMost, OwnAtMost, is_held, own-both, own-none}
use Rattle.all_endings.specs.RunStates.{Move, OwnByte, RunState, answers_to, behind, moved, operates, puts_out}
use Rattle.all_endings.specs.StoreLists.{Stored}
use Rattle.all_endings.proofs.Lowering.{carried_down, carried_most, kinds_below, kinds_most, rises, same}
use Rattle.all_endings.proofs.Times.{carried_below_after, kinds_below_after}

-- what is no operation leaves bounds that its time has no part in
kinds_idle : (y : Access) (b : KindBounds) (n k : ℕ) → (loads y || stores y) ≡ false → kinds_after b y (loads y || stores y) n ≡ kinds_after b y (loads y || stores y) k
kinds_idle (Load w p x r) b n k e = absurd (cc)
kinds_idle (Store w p x v) b n k e = absurd (cc)
kinds_idle (LoadReserved w o p x r) b n k e = absurd (cc)
kinds_idle (StoreConditional w o p x None) b n k e = refl
kinds_idle (StoreConditional w o p x (Some v)) b n k e = absurd (cc)
kinds_idle (Atomic w o p x r v) b n k e = absurd (cc)
kinds_idle (Fence before after mode p) b n k e = refl

carried_idle : (c : Carried) (x : Registers) (h : ℕ) (y : Access) (n k : ℕ) → (loads y || stores y) ≡ false →
    carried_after c x (step_event h (Some y)) n ≡ carried_after c x (step_event h (Some y)) k
carried_idle c x h (Load w p z r) n k e = absurd (cc)
carried_idle c x h (Store w p z v) n k e = absurd (cc)
carried_idle c x h (LoadReserved w o p z r) n k e = absurd (cc)
carried_idle c x h (StoreConditional w o p z None) n k e = refl
carried_idle c x h (StoreConditional w o p z (Some v)) n k e = absurd (cc)
carried_idle c x h (Atomic w o p z r v) n k e = absurd (cc)
carried_idle c x h (Fence before after mode p) n k e = refl

lr_operates : (y : Access) → is_lr y ≡ true → loads y ≡ true
lr_operates (Load w p x r) e = absurd (cc)
lr_operates (Store w p x v) e = absurd (cc)
lr_operates (LoadReserved w o p x r) e = refl
lr_operates (StoreConditional w o p x v) e = absurd (cc)
lr_operates (Atomic w o p x r v) e = absurd (cc)
lr_operates (Fence before after mode p) e = absurd (cc)

-- an LR reserves what it covers
lr_covers : (y : Access) (s : Option Span) (x : ℕ) → is_lr y ≡ true → is_held (held_after_own y s) x ≡ true → covers y x ≡ true
lr_covers (Load w p z r) s x e k = absurd (cc)
lr_covers (Store w p z v) s x e k = absurd (cc)
lr_covers (LoadReserved w o p z r) s x e k = k
lr_covers (StoreConditional w o p z v) s x e k = absurd (cc)
lr_covers (Atomic w o p z r v) s x e k = absurd (cc)
lr_covers (Fence before after mode p) s x e k = absurd (cc)

or_true : (a b : Bool) → a ≡ true → (a || b) ≡ true
or_true true b e = refl
or_true false b e = absurd (cc)

module _ (h : ℕ) (m : List Stored) (a : RunState) (v w : Move) (sound : IsLower a a) (fit : AreRegisters (registers_of v.instruction)) (earlier : IsNoLater m a v w) where
  kinds_low : (b : Bool) → operates v ≡ b → KindsAtMost (kinds_after a.kinds v.access (operates v) (behind m v)) (kinds_after a.kinds v.access (operates v) (behind m w))
  kinds_low true op = kinds_most _ _ (kinds_below_after same rises a.kinds a.kinds v.access (operates v) (behind m v) (behind m w) (earlier.time op) (kinds_below a.kinds a.kinds sound.kinds))
  kinds_low false op =
      subst (λ (k : KindBounds). KindsAtMost (kinds_after a.kinds v.access (operates v) (behind m v)) k) (kinds_idle v.access a.kinds (behind m v) (behind m w) op)
      (kinds_most _ _ (kinds_below_after same rises a.kinds a.kinds v.access (operates v) (behind m v) (behind m v) (omega arith) (kinds_below a.kinds a.kinds sound.kinds)))

  carried_low : (b : Bool) → operates v ≡ b →
      CarriedAtMost (carried_after a.carried (registers_of v.instruction) (step_event h (Some v.access)) (behind m v)) (carried_after a.carried (registers_of v.instruction) (step_event h (Some v.access)) (behind m w))
  carried_low true op = carried_most _ _ (carried_below_after same rises a.carried a.carried (registers_of v.instruction) (step_event h (Some v.access)) (behind m v) (behind m w) fit (earlier.time op)
      (carried_down a.carried a.carried sound.carried))
  carried_low false op =
      subst (λ (c : Carried). CarriedAtMost (carried_after a.carried (registers_of v.instruction) (step_event h (Some v.access)) (behind m v)) c)
      (carried_idle a.carried (registers_of v.instruction) h v.access (behind m v) (behind m w) op)
      (carried_most _ _ (carried_below_after same rises a.carried a.carried (registers_of v.instruction) (step_event h (Some v.access)) (behind m v) (behind m v) fit (omega arith)
      (carried_down a.carried a.carried sound.carried)))

  touched_low : (c : Bool) (u : ℕ) → (c ≡ true → behind m v ≤ behind m w) → (if c then max u (behind m v) else u) ≤ (if c then max u (behind m w) else u)
  touched_low true u l = let k = l refl in omega (arith, k)
  touched_low false u l = omega arith

  seen_low : (c : Bool) (u s t : ℕ) → (c ≡ true → s ≡ t) → (if c then max u s else u) ≤ (if c then max u t else u)
  seen_low true u s t e = let k = e refl in omega (arith, k)
  seen_low false u s t e = omega arith

  own_low : (c : Bool) (x : ℕ) → (c ≡ true → (behind m v ≡ behind m w) × (v.written ≡ w.written)) →
      OwnAtMost (if c then Some (record { place = behind m v; byte = option_map (λ n. byte_of n (x - address_of v.access)) v.written; atomic = is_amo v.access || is_sc v.access; needs = operand_bound a.carried (registers_of v.instruction) }) else a.own x)
      (if c then Some (record { place = behind m w; byte = option_map (λ n. byte_of n (x - address_of v.access)) w.written; atomic = is_amo v.access || is_sc v.access; needs = operand_bound a.carried (registers_of v.instruction) }) else a.own x)
  own_low true x e = own-both _ _ (e refl).0 (ap (λ (o : Option ℕ). option_map (λ n. byte_of n (x - address_of v.access)) o) (e refl).1) refl (omega arith)
  own_low false x e = sound.own x

  reserved_low : (c : Bool) → (c ≡ true → behind m v ≤ behind m w) → (if c then behind m v else a.reserved) ≤ (if c then behind m w else a.reserved)
  reserved_low true l = l refl
  reserved_low false l = omega arith

  sources_low : (c : Bool) (x : ℕ) → (c ≡ true → v.source x ≡ w.source x) → (if c then w.source else a.sources) x ≤ (if c then v.source else a.sources) x
  sources_low true x e = let k = e refl in omega (arith, k)
  sources_low false x e = omega arith

  -- what w leaves, if its instruction and its access are named as those of v
  pub earlier_low : IsLower (moved h m a v) (record {
    pc = w.next;
    registers = set_view a.registers (answers_to v.instruction) w.result;
    kinds = kinds_after a.kinds v.access (operates v) (behind m w);
    carried = carried_after a.carried (registers_of v.instruction) (step_event h (Some v.access)) (behind m w);
    touched = λ x. if operates v && covers v.access x then max (a.touched x) (behind m w) else a.touched x;
    seen = λ x. if loads v.access && covers v.access x then max (a.seen x) (w.source x) else a.seen x;
    own = λ x. if writes v.access x
        then Some (record {
          place = behind m w;
          byte = option_map (λ n. byte_of n (x - address_of v.access)) w.written;
          atomic = is_amo v.access || is_sc v.access;
          needs = operand_bound a.carried (registers_of v.instruction);
        })
        else a.own x;
    held = held_after_own v.access a.held;
    reserved = (if is_lr v.access then behind m w else a.reserved);
    sources = (if is_lr v.access then w.source else a.sources);
    output = a.output ++ puts_out a.registers v.instruction;
  })
  earlier_low = record {
    pc = earlier.next;
    registers = earlier.registers;
    kinds = kinds_low (operates v) refl;
    carried = carried_low (operates v) refl;
    touched = λ x. touched_low (operates v && covers v.access x) (a.touched x) (λ e. earlier.time (and_parts (operates v) (covers v.access x) e).0);
    seen = λ x. seen_low (loads v.access && covers v.access x) (a.seen x) (v.source x) (w.source x) (λ e. earlier.source (and_parts (loads v.access) (covers v.access x) e).0 x (and_parts (loads v.access) (covers v.access x) e).1);
    own = λ x. own_low (writes v.access x) x (λ e. let s = (and_parts (stores v.access) (covers v.access x) e).0 in (earlier.place s, earlier.written s));
    held = refl;
    reserved = reserved_low (is_lr v.access) (λ e. earlier.time (or_true (loads v.access) (stores v.access) (lr_operates v.access e)));
    sources = λ x s. sources_low (is_lr v.access) x (λ e. earlier.source (lr_operates v.access e) x (lr_covers v.access a.held x e s));
    output = refl;
  }

own_self : (o : Option OwnByte) → OwnAtMost o o
own_self None = own-none
own_self (Some o) = own-both o o refl refl refl (omega arith)

pub lower_self : (a : RunState) → length a.carried.registers ≡ 32 → IsLower a a
lower_self a size = record {
  pc = refl;
  registers = refl;
  kinds = record {
    loads = omega arith;
    stores = omega arith;
    acquires = omega arith;
    annotated = omega arith;
    load_load = omega arith;
    load_store = omega arith;
    store_load = omega arith;
    store_store = omega arith;
  };
  carried = record { small = size; size = size; registers = λ r l. omega arith; steered = omega arith; addressed = omega arith };
  touched = λ x. omega arith;
  seen = λ x. omega arith;
  own = λ x. own_self (a.own x);
  held = refl;
  reserved = omega arith;
  sources = λ x s. omega arith;
  output = refl;
}

-- moves of one instruction and one access
abbrev Named : ℕ → List Stored → RunState → Move → Move → Instr → Access → Type 0
Named h m a v w i y = IsLower (moved h m a v) (record {
  pc = w.next;
  registers = set_view a.registers (answers_to i) w.result;
  kinds = kinds_after a.kinds y (loads y || stores y) (behind m w);
  carried = carried_after a.carried (registers_of i) (step_event h (Some y)) (behind m w);
  touched = λ x. if (loads y || stores y) && covers y x then max (a.touched x) (behind m w) else a.touched x;
  seen = λ x. if loads y && covers y x then max (a.seen x) (w.source x) else a.seen x;
  own = λ x. if writes y x
      then Some (record {
        place = behind m w;
        byte = option_map (λ n. byte_of n (x - address_of y)) w.written;
        atomic = is_amo y || is_sc y;
        needs = operand_bound a.carried (registers_of i);
      })
      else a.own x;
  held = held_after_own y a.held;
  reserved = (if is_lr y then behind m w else a.reserved);
  sources = (if is_lr y then w.source else a.sources);
  output = a.output ++ puts_out a.registers i;
})

pub earlier_moves_lower : EarlierMovesAreLower
earlier_moves_lower h m a v w size fit earlier =
    subst (λ (y : Access). Named h m a v w w.instruction y) earlier.access
    (subst (λ (i : Instr). Named h m a v w i v.access) earlier.instruction (earlier_low h m a v w (lower_self a size) fit earlier))
