-- What a hart did, as the rules, the load value axiom and atomicity have it in times, is what a move may do.
use Rattle.std.proofs.Common.{◌≡◌, ℕ, ◌+◌, ◌-◌, ◌^◌, ◌<◌, ◌≤◌, ◌||◌, min, Bool, true, false, if◌then◌else◌, List, length, get_or, Option, Some, None, refl, sym, ap, ◌∙◌, subst, inl, inr, arith}
use Rattle.std.proofs.lemmas.Bool.Decides.{nat_tests}
use Rattle.pages.specs.declared.access.Width.{Width}
use Rattle.pages.specs.Memory.{byte_of, in_range, width_bytes}
use Rattle.round_schedule.specs.declared.access.Access.{Access}
use Rattle.round_schedule.specs.declared.span.Span.{Span}
use Rattle.round_schedule.specs.Accesses.{address_of, byte_read, byte_written, bytes_of, is_given, is_sc, loads, number_or_zero, read_of, stores, written_of}
use Rattle.round_schedule.specs.Positions.{ProgramBefore, event, reads_at, writes_at}
use Rattle.hart_step.specs.declared.hart.Hart.{Hart}
use Rattle.hart_step.specs.Registers.{reg}
use Rattle.hart_step.specs.Step.{width_bits}
use Rattle.memory_order.specs.Operations.{covers, is_amo, is_operation, is_store}
use Rattle.memory_order.specs.declared.registers.Registers.{Registers}
use Rattle.memory_order.specs.Dependencies.{registers_at}
use Rattle.memory_order.specs.Registers.{registers_of}
use Rattle.memory_order.proofs.Facts.{store_is_operation}
use Rattle.rule_checker.specs.CarriedBounds.{AllowedBy, operand_bound}
use Rattle.rule_checker.specs.Kinds.{AllowedByKind}
use Rattle.rule_checker.specs.declared.annotated.KindBounds.{KindBounds}
use Rattle.rule_checker.specs.declared.carried.Carried.{Carried}
use Rattle.all_endings.specs.Endings.{opening_bytes}
use Rattle.all_endings.specs.HartRuns.{Gets, IsListed, IsPast, IsPlaced, IsRead, Stands, forwarded, gets, remembered}
use Rattle.all_endings.specs.RunStates.{Move, OwnByte, RunState, bare, behind, operates}
use Rattle.all_endings.specs.StoreLists.{Stored, last_place, later, no_store, told}
use Rattle.all_endings.specs.Times.{StandsInTime, kinds_before, touched_before}
use Rattle.all_endings.proofs.Bare.{address_bare, bytes_bare, carried_allow_bare, covers_bare, kinds_allow_bare, stores_bare}
use Rattle.all_endings.proofs.Following.{Follows, OwnIs, OwnLast, Setting, Source, after, after_other, after_store, carried_at_index, list, place, time, time_small}
use Rattle.all_endings.proofs.OwnSteps.{operates_as}
use Rattle.all_endings.proofs.Seen.{same_place}
use Rattle.all_endings.proofs.Sources.{loads_read, both}
use Rattle.all_endings.proofs.StoreLists.{stores_stand}
use Rattle.all_endings.proofs.Times.{stand_in_time}

-- ---- times behind moves

stores_as : (s : Setting) (i : ℕ) (v : Move) (b : Bool) → v.access ≡ bare (event s.t i).access → stores (event s.t i).access ≡ b → stores v.access ≡ b
stores_as s i v b e st = ap stores e ∙ stores_bare (event s.t i).access ∙ st

behind_by : (m : List Stored) (v : Move) (b : Bool) → stores v.access ≡ b → behind m v ≡ min (if b then v.time + 1 else v.time) (length m + 1)
behind_by m v b e = ap (λ (c : Bool). min (if c then v.time + 1 else v.time) (length m + 1)) e

pub behind_other : (s : Setting) (i : ℕ) (v : Move) → v.access ≡ bare (event s.t i).access → stores (event s.t i).access ≡ false → v.time ≡ time s i → behind (list s) v ≡ after s i
behind_other s i v e st at =
    let b = behind_by (list s) v false (stores_as s i v false e st) in
    let a = after_other s i st in
    let l = time_small s i in
    let m = s.many in
    omega (arith, a, b, l, m, at)

pub behind_listed : (s : Setting) (i : ℕ) (v : Move) → v.access ≡ bare (event s.t i).access → stores (event s.t i).access ≡ true → v.time ≡ time s i → time s i < s.n →
    behind (list s) v ≡ after s i
behind_listed s i v e st at l =
    let b = behind_by (list s) v true (stores_as s i v true e st) in
    let a = after_store s i st in
    let m = s.many in
    omega (arith, a, b, l, m, at)

pub behind_later : (s : Setting) (i : ℕ) (v : Move) → v.access ≡ bare (event s.t i).access → stores (event s.t i).access ≡ true → v.time ≡ s.n + 1 → s.n ≤ time s i →
    behind (list s) v ≡ after s i
behind_later s i v e st at l =
    let b = behind_by (list s) v true (stores_as s i v true e st) in
    let a = after_store s i st in
    let m = s.many in
    omega (arith, a, b, l, m, at)

-- the store that comes next is LATER
pub waits : (s : Setting) (h i : ℕ) (v : Move) → v.access ≡ bare (event s.t i).access → stores (event s.t i).access ≡ true → behind (list s) v ≡ after s i → time s i ≡ s.n →
    IsPlaced h (list s) v → v.time ≡ later (list s)
waits s h i v e st passed now (inl late) = late
waits s h i v e st passed now (inr is) =
    let b = behind_by (list s) v true (stores_as s i v true e st) in
    let a = after_store s i st in
    let m = s.many in
    let w = is.within in
    absurd (omega (arith, a, b, m, w, passed, now))

-- ---- the bounds

kinds_rise : (b : KindBounds) (a : Access) (p q : ℕ) → p ≤ q → AllowedByKind b a p → AllowedByKind b a q
kinds_rise b a p q l x = (
  up b.acquires x.0,
  λ h. (up b.load_load (x.1 h).0, up b.store_load (x.1 h).1),
  λ h. (up b.load_store (x.2 h).0, up b.store_store (x.2 h).1),
  λ h. (up b.loads (x.3 h).0, up b.stores (x.3 h).1),
  λ h. up b.annotated (x.4 h),
)
  where
    up : (u : ℕ) → u ≤ p → u ≤ q
    up u k = omega (arith, k, l)

carried_rise : (c : Carried) (x : Registers) (a : Access) (p q : ℕ) → p ≤ q → AllowedBy c x a p → AllowedBy c x a q
carried_rise c x a p q l y = (
  up (reg c.registers x.address) y.0,
  λ h. (up (reg c.registers x.value) (y.1 h).0, up c.steered (y.1 h).1, up c.addressed (y.1 h).2),
)
  where
    up : (u : ℕ) → u ≤ p → u ≤ q
    up u k = omega (arith, k, l)

pub in_time : (s : Setting) (i : ℕ) → is_operation (event s.t i) ≡ true → StandsInTime s.n s.is s.t s.g i
in_time s i op = stand_in_time s.is s.t (opening_bytes s.image) s.g s.fit s.meets s.n i op

-- what the hart did stands where the bounds of the run let it, at its time or later
pub stands : (s : Setting) (h i : ℕ) (held : Option Span) (a : RunState) (k : Hart) (v : Move) → Follows s h i held a k → (event s.t i).hart ≡ h →
    registers_of v.instruction ≡ registers_at s.is i → v.access ≡ bare (event s.t i).access → time s i ≤ v.time → operates v ≡ true → Stands a v
stands s h i held a k v f here regs e l op =
    let is : is_operation (event s.t i) ≡ true = sym (operates_as s i v e) ∙ op in
    let st = in_time s i is in record {
      kinds = subst (λ (b : KindBounds). AllowedByKind b v.access v.time) (sym f.kinds)
          (subst (λ (y : Access). AllowedByKind (kinds_before (after s) s.t h i) y v.time) (sym e)
          (kinds_allow_bare (event s.t i).access (kinds_before (after s) s.t h i) v.time (kinds_rise (kinds_before (after s) s.t h i) (event s.t i).access (time s i) v.time l
          (subst (λ (y : ℕ). AllowedByKind (kinds_before (after s) s.t y i) (event s.t i).access (time s i)) here st.kinds))));
      carried = subst (λ (c : Carried). AllowedBy c (registers_of v.instruction) v.access v.time) (sym f.carried)
          (subst (λ (x : Registers). AllowedBy (carried_at_index s h i) x v.access v.time) (sym regs)
          (subst (λ (y : Access). AllowedBy (carried_at_index s h i) (registers_at s.is i) y v.time) (sym e)
          (carried_allow_bare (event s.t i).access (carried_at_index s h i) (registers_at s.is i) v.time
          (carried_rise (carried_at_index s h i) (registers_at s.is i) (event s.t i).access (time s i) v.time l
          (subst (λ (y : ℕ). AllowedBy (carried_at_index s y i) (registers_at s.is i) (event s.t i).access (time s i)) here st.carried)))));
      touched = λ x store c.
          let b : touched_before (after s) s.t (event s.t i).hart x i ≤ time s i =
          st.touched x (sym (ap stores e ∙ stores_bare (event s.t i).access) ∙ store) (sym (ap (λ (y : Access). covers y x) e ∙ covers_bare (event s.t i).access x) ∙ c) in
          let t = f.touched x in
          let q : touched_before (after s) s.t (event s.t i).hart x i ≡ touched_before (after s) s.t h x i = ap (λ (y : ℕ). touched_before (after s) s.t y x i) here in
          omega (arith, b, t, q, l);
    }

-- rule 10: what a known store writes is known
pub data_in_time : (s : Setting) (h i : ℕ) (held : Option Span) (a : RunState) (k : Hart) → Follows s h i held a k → (event s.t i).hart ≡ h → is_store (event s.t i) ≡ true →
    reg a.carried.registers (registers_at s.is i).value ≤ time s i
data_in_time s h i held a k f here store =
    let st = in_time s i (store_is_operation (event s.t i) store) in
    let b = (st.carried.1 store).0 in
    let q : reg (carried_at_index s (event s.t i).hart i).registers (registers_at s.is i).value ≡ reg (carried_at_index s h i).registers (registers_at s.is i).value =
    ap (λ (y : ℕ). reg (carried_at_index s y i).registers (registers_at s.is i).value) here in
    let c : reg a.carried.registers (registers_at s.is i).value ≡ reg (carried_at_index s h i).registers (registers_at s.is i).value =
    ap (λ (y : Carried). reg y.registers (registers_at s.is i).value) f.carried in
    omega (arith, b, q, c)

-- rule 9: an address that is looked at is known
pub address_in_time : (s : Setting) (h i : ℕ) (held : Option Span) (a : RunState) (k : Hart) → Follows s h i held a k → (event s.t i).hart ≡ h → is_operation (event s.t i) ≡ true →
    reg a.carried.registers (registers_at s.is i).address ≤ time s i
address_in_time s h i held a k f here op =
    let b = (in_time s i op).carried.0 in
    let q : reg (carried_at_index s (event s.t i).hart i).registers (registers_at s.is i).address ≡ reg (carried_at_index s h i).registers (registers_at s.is i).address =
    ap (λ (y : ℕ). reg (carried_at_index s y i).registers (registers_at s.is i).address) here in
    let c : reg a.carried.registers (registers_at s.is i).address ≡ reg (carried_at_index s h i).registers (registers_at s.is i).address =
    ap (λ (y : Carried). reg y.registers (registers_at s.is i).address) f.carried in
    omega (arith, b, q, c)

-- ---- loads

-- the place behind the source of each byte that is read
abbrev source_by : (s : Setting) (i x : ℕ) (b : Bool) → reads_at s.t i x ≡ b → ℕ
source_by s i x true e = place s (s.meets.load_value i x e).0
source_by s i x false e = 0

abbrev pub source_at : Setting → ℕ → ℕ → ℕ
source_at s i x = source_by s i x (reads_at s.t i x) refl

pub source_is : (s : Setting) (i x : ℕ) (u : Option ℕ) → reads_at s.t i x ≡ true → Source s i x u → source_at s i x ≡ place s u
source_is s i x u r source = by_test (reads_at s.t i x) refl r
  where
    by_test : (b : Bool) (e : reads_at s.t i x ≡ b) → b ≡ true → source_by s i x b e ≡ place s u
    by_test true e q =
        let value = s.meets.load_value i x e in
        let l = same_place s.n s.t s.g i x value.0 u value.1 source in
        let m = same_place s.n s.t s.g i x u value.0 source value.1 in
        omega (arith, l, m)
    by_test false e q = absurd (cc)

-- the last own store before the load is the one that the run has
own_is : (s : Setting) (h i x w : ℕ) (o : Option OwnByte) → (event s.t i).hart ≡ h → writes_at s.t w x ≡ true → ProgramBefore s.t w i →
    ((v : ℕ) → (writes_at s.t v x ≡ true) × ProgramBefore s.t v i → v ≤ w) → OwnIs s h i x o → (q : OwnByte) × (o ≡ Some q) × (own : OwnLast s h i x q) × (own.index ≡ w)
own_is s h i x w None here wet before last none = absurd (none w before.earlier (before.same_hart ∙ here) wet)
own_is s h i x w (Some q) here wet before last own =
    let a = own.last w before.earlier (before.same_hart ∙ here) wet in
    let b = last own.index (own.writes, record { earlier = own.earlier; same_hart = own.hart ∙ sym here }) in
    (q, refl, own, omega (arith, a, b))

past_is : (s : Setting) (h i x : ℕ) (o : Option OwnByte) → (event s.t i).hart ≡ h →
    ((v : ℕ) → (writes_at s.t v x ≡ true) × ProgramBefore s.t v i → after s v ≤ time s i) → OwnIs s h i x o → IsPast o (time s i)
past_is s h i x None here past own = tt
past_is s h i x (Some o) here past own =
    let l = past own.index (own.writes, record { earlier = own.earlier; same_hart = own.hart ∙ sym here }) in
    let p = own.place in
    omega (arith, l, p)

read_byte : (s : Setting) (h i x : ℕ) (held : Option Span) (a : RunState) (k : Hart) → Follows s h i held a k → (event s.t i).hart ≡ h → reads_at s.t i x ≡ true → time s i ≤ s.n →
    IsRead (list s) (opening_bytes s.image) a (time s i) x (source_at s i x) (byte_read (event s.t i).access x)
read_byte s h i x held a k f here r known =
    let q = loads_read s.is s.t (opening_bytes s.image) s.g s.fit s.meets s.n i x r known in
    let at : source_at s i x ≡ place s q.0 = source_is s i x q.0 r q.1 in
    let seen : a.seen x ≤ place s q.0 = f.seen i x q.0 (omega arith) here r q.1 in
    elim q.2 [
      | inr m ↦
          subst (λ (p : ℕ). IsRead (list s) (opening_bytes s.image) a (time s i) x p (byte_read (event s.t i).access x)) (m.place ∙ sym at)
          (subst (λ (b : ℕ). IsRead (list s) (opening_bytes s.image) a (time s i) x (last_place (list s) x (time s i)) b) (sym m.byte)
          (remembered (past_is s h i x (a.own x) here m.past (f.own x)) (let p = m.place in omega (arith, seen, p))))
      | inl w ↦
          let m = w.2 in
          let o = own_is s h i x w.0 (a.own x) here m.own.0 m.own.1 m.last (f.own x) in
          let place_is : o.0.place ≡ place s q.0 = o.2.place ∙ ap (after s) o.3 ∙ sym (ap (place s) w.1) in
          let late = m.behind in
          let behind_it : time s i < o.0.place = let e = o.2.place ∙ ap (after s) o.3 in omega (arith, late, e) in
          let plain : o.0.atomic ≡ false = o.2.atomic ∙ ap (λ (j : ℕ). is_amo (event s.t j).access || is_sc (event s.t j).access) o.3 ∙ m.plain in
          let hart_is : (event s.t w.0).hart ≡ h = m.own.1.same_hart ∙ here in
          let needs : o.0.needs ≤ time s i =
          let a1 = o.2.needs in
          let a2 : operand_bound (carried_at_index s h o.2.index) (registers_at s.is o.2.index) ≡ operand_bound (carried_at_index s (event s.t w.0).hart w.0) (registers_at s.is w.0) =
          ap (λ (j : ℕ). operand_bound (carried_at_index s h j) (registers_at s.is j)) o.3 ∙ ap (λ (y : ℕ). operand_bound (carried_at_index s y w.0) (registers_at s.is w.0)) (sym hart_is) in
          let a3 = m.needs in
          omega (arith, a1, a2, a3) in
          let byte_is : o.0.byte ≡ Some (byte_read (event s.t i).access x) = elim o.2.byte [
            | inl b ↦ b ∙ ap (λ (j : ℕ). Some (byte_written (event s.t j).access x)) o.3 ∙ ap (λ (c : ℕ). Some c) (sym m.byte)
            | inr b ↦ elim b [
              | inl c ↦ absurd (omega (arith, c, needs, known))
              | inr c ↦ absurd (cc)
            ]
          ] in
          subst (λ (p : ℕ). IsRead (list s) (opening_bytes s.image) a (time s i) x p (byte_read (event s.t i).access x)) (place_is ∙ sym at)
          (forwarded o.0 (byte_read (event s.t i).access x) o.1 behind_it plain needs (omega (arith, seen, place_is)) byte_is)
    ]

pub within_range : (a n k : ℕ) → k < n → in_range a n (a + k) ≡ true
within_range a n k l =
    let p : a ≤ a + k = omega arith in
    let q : a + k < a + n = omega (arith, l) in
    grind (arith, nat_tests)

-- the number that was read at a time that is known
pub gets_known : (s : Setting) (h i address number : ℕ) (w : Width) (held : Option Span) (a : RunState) (k : Hart) (v : Move) → Follows s h i held a k → (event s.t i).hart ≡ h →
    address_of (event s.t i).access ≡ address → bytes_of (event s.t i).access ≡ width_bytes w → read_of (event s.t i).access ≡ Some number → number < 2 ^ width_bits w →
    time s i ≤ s.n →
    v.time ≡ time s i → ((x : ℕ) → v.source x ≡ source_at s i x) → Gets (list s) (opening_bytes s.image) a v address w (Some number)
gets_known s h i address number w held a k v f here at bytes reading fits known t sources = gets number (let m = s.many in omega (arith, m, known, t)) fits (λ j l.
    let x : ℕ = address + j in
    let covered : in_range (address_of (event s.t i).access) (bytes_of (event s.t i).access) (address + j) ≡ true =
    ap (λ (y : ℕ). in_range y (bytes_of (event s.t i).access) (address + j)) at ∙ ap (λ (y : ℕ). in_range address y (address + j)) bytes ∙ within_range address (width_bytes w) j l in
    let given : loads (event s.t i).access ≡ true = ap (λ (o : Option ℕ). is_given o) reading in
    let r : reads_at s.t i (address + j) ≡ true = both (loads (event s.t i).access) (in_range (address_of (event s.t i).access) (bytes_of (event s.t i).access) (address + j)) given covered in
    let byte_is : byte_read (event s.t i).access (address + j) ≡ byte_of number j =
    ap (λ (o : Option ℕ). byte_of (number_or_zero o) (address + j - address_of (event s.t i).access)) reading
    ∙ ap (λ (y : ℕ). byte_of number (address + j - y)) at ∙ ap (byte_of number) (let e : address + j - address ≡ j = omega arith in e) in
    subst (λ (y : ℕ). IsRead (list s) (opening_bytes s.image) a y (address + j) (v.source (address + j)) (byte_of number j)) (sym t)
    (subst (λ (y : ℕ). IsRead (list s) (opening_bytes s.image) a (time s i) (address + j) y (byte_of number j)) (sym (sources (address + j)))
    (subst (λ (y : ℕ). IsRead (list s) (opening_bytes s.image) a (time s i) (address + j) (source_at s i (address + j)) y) byte_is
    (read_byte s h i (address + j) held a k f here r known))))

-- ---- stores

pub stored_number : (y : Access) → stores y ≡ true → written_of y ≡ Some (number_or_zero (written_of y))
stored_number y store = by_number (written_of y) store
  where
    by_number : (o : Option ℕ) → is_given o ≡ true → o ≡ Some (number_or_zero o)
    by_number None e = absurd (cc)
    by_number (Some m) e = refl

-- a store at a time that is known is that of the list
pub listed : (s : Setting) (h i : ℕ) (v : Move) → (event s.t i).hart ≡ h → is_store (event s.t i) ≡ true → v.access ≡ bare (event s.t i).access →
    v.written ≡ written_of (event s.t i).access →
    v.time ≡ time s i → time s i < s.n → IsListed h (list s) v
listed s h i v here store e number t l =
    let at : get_or (list s) v.time no_store ≡ told (event s.t i) = ap (λ (y : ℕ). get_or (list s) y no_store) t ∙ (stores_stand s.t s.g s.meets.lists s.n i store).0 l in record {
      within = (let m = s.many in omega (arith, m, l, t));
      hart = ap (λ (y : Stored). y.hart) at ∙ here;
      address = ap (λ (y : Stored). y.address) at ∙ sym (ap address_of e ∙ address_bare (event s.t i).access);
      bytes = ap (λ (y : Stored). y.bytes) at ∙ sym (ap bytes_of e ∙ bytes_bare (event s.t i).access);
      number = number ∙ stored_number (event s.t i).access store ∙ ap (λ (y : Stored). Some y.number) (sym at);
    }
