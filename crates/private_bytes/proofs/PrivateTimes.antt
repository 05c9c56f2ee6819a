-- Of moves on own bytes the earliest is the best.
use Rattle.std.proofs.Common.{◌≡◌, ℕ, ◌-◌, ◌≤◌, ◌&&◌, ◌||◌, max, min, Bool, true, false, if◌then◌else◌, List, Option, Some, None, option_map, refl, sym, ap, ◌∙◌, subst, arith}
use Rattle.std.proofs.lemmas.Bool.{and_parts}
use Rattle.pages.specs.declared.access.Width.{Width}
use Rattle.pages.specs.Memory.{Memory, byte_of, width_bytes}
use Rattle.rv64_decode.specs.declared.instruction.Instr.{Instr}
use Rattle.round_schedule.specs.declared.access.Access.{Access}
use Rattle.round_schedule.specs.declared.access.Access.TheVariants.{Load, Store}
use Rattle.round_schedule.specs.Accesses.{address_of, is_lr, is_sc, loads, stores, writes}
use Rattle.hart_step.specs.Effect.{Action, Read, Write, action}
use Rattle.hart_step.specs.Numbers.{plus}
use Rattle.hart_step.specs.Step.{cut, extended_to}
use Rattle.memory_order.specs.Operations.{covers, is_amo, is_plain_store}
use Rattle.memory_order.specs.Registers.{registers_of}
use Rattle.rule_checker.specs.CarriedBounds.{AreRegisters, operand_bound}
use Rattle.execution.specs.Progressing.{step_event}
use Rattle.all_endings.specs.Earlier.{IsSized}
use Rattle.all_endings.specs.HartRuns.{Acts, IsPlaced, acts, branches, calls, data_of, exchanges, exchanges-unknown, fails, jumps, orders, puts, puts-unknown, reads, reserves, succeeds}
use Rattle.all_endings.specs.HartRuns.{stores as stores_it}
use Rattle.all_endings.specs.Locality.{filled, set_view, view, without_data}
use Rattle.all_endings.specs.Lowering.{IsLower, OwnAtMost, own-both, own-none}
use Rattle.all_endings.specs.RunStates.{Move, OwnByte, RunState, answers_to, operates}
use Rattle.all_endings.specs.StoreLists.{Stored, later}
use Rattle.all_endings.proofs.DecodedRegisters.{decoded_fits}
use Rattle.all_endings.proofs.Lowering.{carried_most, kinds_most, rises, same}
use Rattle.all_endings.proofs.Moves.{writes_to}
use Rattle.all_endings.proofs.Times.{CarriedBelow, KindsBelow, carried_below_after, kinds_below_after}
use Rattle.private_bytes.specs.Owners.{is_private}
use Rattle.private_bytes.specs.PrivateMoves.{ActsApart, keeps, moved_privately, own_number, recalls, shares, without_place}
use Rattle.private_bytes.specs.PrivateTimes.{EarliestPrivateMoveIsLowest}

-- they do the same
record Alike (a : RunState) (v w : Move) : Type 0 where
  instruction : v.instruction ≡ w.instruction
  access : v.access ≡ w.access
  next : v.next ≡ w.next
  registers : set_view a.registers (answers_to v.instruction) v.result ≡ set_view a.registers (answers_to w.instruction) w.result
  written : stores v.access ≡ true → v.written ≡ w.written
  source : loads v.access ≡ true → (x : ℕ) → v.source x ≡ w.source x
  plain : is_lr v.access ≡ false

abbrev pub move_of : Instr → Access → ℕ → Option ℕ → Option ℕ → (ℕ → ℕ) → ℕ → Move
move_of i y t r w s n = record { instruction = i; access = y; time = t; result = r; written = w; source = s; next = n }

pub move_same : (i j : Instr) (y z : Access) (t : ℕ) (r w : Option ℕ) (s : ℕ → ℕ) (n k : ℕ) → i ≡ j → y ≡ z → n ≡ k → move_of i y t r w s n ≡ move_of j z t r w s k
move_same i j y z t r w s n k e f g = cc

-- a state's bounds are at most its own
pub kinds_self : (a : RunState) → KindsBelow same a.kinds a.kinds
kinds_self a = record {
  loads = omega arith;
  stores = omega arith;
  acquires = omega arith;
  annotated = omega arith;
  load_load = omega arith;
  load_store = omega arith;
  store_load = omega arith;
  store_store = omega arith;
}

pub carried_self : (a : RunState) → IsSized a → CarriedBelow same a.carried a.carried
carried_self a sized = record { small = sized; size = sized; registers = λ r l. omega arith; steered = omega arith; addressed = omega arith }

-- ---- what they leave

module _ (h : ℕ) (m : List Stored) (a : RunState) (v w : Move) (sized : IsSized a) (fit : AreRegisters (registers_of w.instruction)) (alike : Alike a v w) (sooner : v.time ≤ w.time) where
  after : min v.time (later m) ≤ min w.time (later m)
  after = omega (arith, sooner)

  raised : (c : Bool) (u : ℕ) → (if c then max u (min v.time (later m)) else u) ≤ (if c then max u (min w.time (later m)) else u)
  raised true u = let l = after in omega (arith, l)
  raised false u = omega arith

  seen_at : (c : Bool) (x : ℕ) → (c ≡ true → v.source x ≡ w.source x) → (if c then max (a.seen x) (v.source x) else a.seen x) ≤ (if c then max (a.seen x) (w.source x) else a.seen x)
  seen_at true x e = let q = e refl in omega (arith, q)
  seen_at false x e = omega arith

  own_self : (o : Option OwnByte) → OwnAtMost o o
  own_self None = own-none
  own_self (Some o) = own-both o o refl refl refl (omega arith)

  own_at : (x : ℕ) (c : Bool) (p q : Option ℕ) → (c ≡ true → p ≡ q) →
      OwnAtMost
      (if c then option_map without_place (if c then Some (record { place = min v.time (later m); byte = option_map (λ n. byte_of n (x - address_of w.access)) p; atomic = is_amo w.access || is_sc w.access; needs = operand_bound a.carried (registers_of w.instruction) }) else a.own x) else a.own x)
      (if c then option_map without_place (if c then Some (record { place = min w.time (later m); byte = option_map (λ n. byte_of n (x - address_of w.access)) q; atomic = is_amo w.access || is_sc w.access; needs = operand_bound a.carried (registers_of w.instruction) }) else a.own x) else a.own x)
  own_at x true p q e = own-both _ _ refl (ap (option_map (λ n. byte_of n (x - address_of w.access))) (e refl)) refl (omega arith)
  own_at x false p q e = own_self (a.own x)

  reserved_at : (b : Bool) → b ≡ false → (if b then min v.time (later m) else a.reserved) ≤ (if b then min w.time (later m) else a.reserved)
  reserved_at true e = absurd (cc)
  reserved_at false e = omega arith

  sources_at : (b : Bool) → b ≡ false → (x : ℕ) → (if b then w.source else a.sources) x ≤ (if b then v.source else a.sources) x
  sources_at true e x = absurd (cc)
  sources_at false e x = omega arith

  -- v, with the other's instruction, access and next pc
  abbrev as_other : Move
  as_other = record w { time = v.time; result = v.result; written = v.written; source = v.source }

  is_it : v ≡ as_other
  is_it = move_same v.instruction w.instruction v.access w.access v.time v.result v.written v.source v.next w.next alike.instruction alike.access alike.next

  registers_same : set_view a.registers (answers_to w.instruction) v.result ≡ set_view a.registers (answers_to w.instruction) w.result
  registers_same = ap (λ (i : Instr). set_view a.registers (answers_to i) v.result) (sym alike.instruction) ∙ alike.registers

  other_lower : IsLower (moved_privately h m a as_other) (moved_privately h m a w)
  other_lower = record {
    pc = refl;
    registers = registers_same;
    kinds = kinds_most _ _ (kinds_below_after same rises a.kinds a.kinds w.access (operates w) (min v.time (later m)) (min w.time (later m)) after (kinds_self a));
    carried = carried_most _ _ (carried_below_after same rises a.carried a.carried (registers_of w.instruction) (step_event h (Some w.access)) (min v.time (later m)) (min w.time (later m)) fit after (carried_self a sized));
    touched = λ x. raised (operates w && covers w.access x) (a.touched x);
    seen = λ x. seen_at (loads w.access && covers w.access x) x (λ e. alike.source (ap loads alike.access ∙ (and_parts (loads w.access) (covers w.access x) e).0) x);
    own = λ x. own_at x (writes w.access x) v.written w.written (λ e. alike.written (ap stores alike.access ∙ (and_parts (stores w.access) (covers w.access x) e).0));
    held = refl;
    reserved = reserved_at (is_lr w.access) (sym (ap is_lr alike.access) ∙ alike.plain);
    sources = λ x e. sources_at (is_lr w.access) (sym (ap is_lr alike.access) ∙ alike.plain) x;
    output = refl;
  }

  sooner_lower : IsLower (moved_privately h m a v) (moved_privately h m a w)
  sooner_lower = subst (λ (u : Move). IsLower (moved_privately h m a u) (moved_privately h m a w)) (sym is_it) other_lower

-- ---- that they do the same

-- a plain store
record Storing (image : Memory) (a : RunState) (v : Move) : Type 0 where
  address : ℕ
  width : Width
  is : without_data (acts a v) ≡ Write address width 0
  access : v.access ≡ Store width 0 address 0
  written : v.written ≡ option_map (cut width) (data_of a v)
  next : v.next ≡ plus a.pc 4

storing : (image : Memory) (h : ℕ) (m : List Stored) (opening : ℕ → ℕ) (P : Move → Type 0) (a : RunState) (v : Move) → is_plain_store v.access ≡ true → Acts image h m opening P a v → Storing image a v
storing image h m opening P a v s (puts rd n k is e r x) = absurd (let q = ap is_plain_store e in cc)
storing image h m opening P a v s (puts-unknown rd n k is e r x) = absurd (let q = ap is_plain_store e in cc)
storing image h m opening P a v s (jumps rd target k is even e r x) = absurd (let q = ap is_plain_store e in cc)
storing image h m opening P a v s (branches taken target k is even e x) = absurd (let q = ap is_plain_store e in cc)
storing image h m opening P a v s (orders before after mode is e x) = absurd (let q = ap is_plain_store e in cc)
storing image h m opening P a v s (reads rd address w signed number k is safe e g r x) = absurd (let q = ap is_plain_store e in cc)
storing image h m opening P a v s (stores_it address w k is safe e d p x) = record { address = address; width = w; is = is; access = e; written = d; next = x }
storing image h m opening P a v s (reserves rd address w o number k is safe e g r x) = absurd (let q = ap is_plain_store e in cc)
storing image h m opening P a v s (fails rd address w o k is safe e r x) = absurd (let q = ap is_plain_store e in cc)
storing image h m opening P a v s (succeeds rd address w o k is safe e d held reserved p unbroken r x) = absurd (let q = ap is_plain_store e in cc)
storing image h m opening P a v s (exchanges rd address w g o number k is safe e get r d p x) = absurd (let q = ap is_plain_store e in cc)
storing image h m opening P a v s (exchanges-unknown rd address w o k none is safe e get r d x) = absurd (let q = ap is_plain_store e in cc)
storing image h m opening P a v s (calls number answer ecall at nonzero answered e r x) = absurd (let q = ap is_plain_store e in cc)

-- a store writes no register
writes_no_register : (a : RunState) (v : Move) (b : Action) (address : ℕ) (w : Width) → acts a v ≡ b → without_data b ≡ Write address w 0 → answers_to v.instruction ≡ 0
writes_no_register a v (Write address w n) _ _ is e = sym (writes_to v.instruction (filled a.registers) a.pc (Write address w n) is (λ q. cc))
writes_no_register a v _ address w is e = absurd (cc)

same_write : (p q : ℕ) (w u : Width) → Write p w 0 ≡ Write q u 0 → (p ≡ q) × (w ≡ u)
same_write p q w u e = (cc, cc)

same_read : (r s p q : ℕ) (w u : Width) (b c : Bool) → Read r p w b ≡ Read s q u c → (r ≡ s) × (p ≡ q) × (w ≡ u) × (b ≡ c)
same_read r s p q w u b c e = (cc, cc, cc, cc)

module _ (owns : ℕ → ℕ → Bool) (image : Memory) (h : ℕ) (m : List Stored) (opening : ℕ → ℕ) (P : Move → Type 0) (a : RunState) (v w : Move) (same_instruction : v.instruction ≡ w.instruction)
    (private : is_private owns h v.access ≡ true) (private2 : is_private owns h w.access ≡ true) where
  acts_alike : acts a v ≡ acts a w
  acts_alike = ap (λ (i : Instr). action i (filled a.registers) a.pc) same_instruction

  both_store : Storing image a v → Storing image a w → Alike a v w
  both_store p q =
      let e = same_write p.address q.address p.width q.width (sym p.is ∙ ap without_data acts_alike ∙ q.is) in
      let none = writes_no_register a v (acts a v) p.address p.width refl p.is in
      let none2 = writes_no_register a w (acts a w) q.address q.width refl q.is in
      record {
        instruction = same_instruction;
        access = p.access ∙ ap (λ (y : Width). Store y 0 p.address 0) e.1 ∙ ap (λ (y : ℕ). Store q.width 0 y 0) e.0 ∙ sym q.access;
        next = p.next ∙ sym q.next;
        registers = ap (λ (d : ℕ). set_view a.registers d v.result) none ∙ sym (ap (λ (d : ℕ). set_view a.registers d w.result) none2);
        written = λ s. p.written ∙ ap (λ (y : Width). option_map (cut y) (data_of a v)) e.1 ∙ ap (λ (i : Instr). option_map (cut q.width) (view a.registers (registers_of i).value)) same_instruction ∙ sym q.written;
        source = λ load. absurd (let z = ap loads p.access in cc);
        plain = ap is_lr p.access;
      }

  alike_of : ActsApart owns image h m opening P a v → ActsApart owns image h m opening P a w → Alike a v w
  alike_of (shares public doing) other = absurd (cc)
  alike_of (keeps _ plain doing) (shares public doing2) = absurd (cc)
  alike_of (recalls rd address width signed _ k is safe e n r z x) (shares public doing2) = absurd (cc)
  alike_of (keeps _ plain doing) (keeps _ plain2 doing2) = both_store (storing image h m opening (λ u. Unit {0}) a v plain doing) (storing image h m opening (λ u. Unit {0}) a w plain2 doing2)
  alike_of (keeps _ plain doing) (recalls rd address width signed _ k is safe e n r z x) =
      let p = storing image h m opening (λ u. Unit {0}) a v plain doing in
      let q : Write p.address p.width 0 ≡ Read rd address width signed = sym p.is ∙ ap without_data (acts_alike ∙ is) in
      absurd (cc)
  alike_of (recalls rd address width signed _ k is safe e n r z x) (keeps _ plain doing) =
      let p = storing image h m opening (λ u. Unit {0}) a w plain doing in
      let q : Write p.address p.width 0 ≡ Read rd address width signed = sym p.is ∙ ap without_data (sym acts_alike ∙ is) in
      absurd (cc)
  alike_of (recalls rd address width signed _ k is safe e n r z x) (recalls rd2 address2 width2 signed2 _ k2 is2 safe2 e2 n2 r2 z2 x2) =
      let s = same_read rd rd2 address address2 width width2 signed signed2 (sym is ∙ acts_alike ∙ is2) in
      let to : v.result ≡ w.result =
      r ∙ ap (λ (b : Bool). option_map (extended_to b width) (own_number opening a address (width_bytes width))) s.3
      ∙ ap (λ (y : Width). option_map (extended_to signed2 y) (own_number opening a address (width_bytes y))) s.2
      ∙ ap (λ (y : ℕ). option_map (extended_to signed2 width2) (own_number opening a y (width_bytes width2))) s.1 ∙ sym r2 in
      record {
        instruction = same_instruction;
        access = e ∙ ap (λ (y : Width). Load y 0 address 0) s.2 ∙ ap (λ (y : ℕ). Load width2 0 y 0) s.1 ∙ sym e2;
        next = x ∙ sym x2;
        registers = ap (λ (i : Instr). set_view a.registers (answers_to i) v.result) same_instruction ∙ ap (set_view a.registers (answers_to w.instruction)) to;
        written = λ store. absurd (let q = ap stores e in cc);
        source = λ load y. z y ∙ sym (z2 y);
        plain = ap is_lr e;
      }

pub earliest_lowest : EarliestPrivateMoveIsLowest
earliest_lowest owns image h m opening a v w sized at at2 private private2 doing doing2 sooner =
    let o : Some v.instruction ≡ Some w.instruction = sym at ∙ at2 in
    let i : v.instruction ≡ w.instruction = cc in
    sooner_lower h m a v w sized (decoded_fits image a.pc w.instruction at2) (alike_of owns image h m opening (IsPlaced h m) a v w i private private2 doing doing2) sooner
