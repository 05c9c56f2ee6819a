-- What depends on one operation, instruction by instruction of its hart.
use Rattle.std.proofs.Common.{◌≡◌, ◌≢◌, ℕ, ◌+◌, ◌<◌, ◌==◌, ◌⊎◌, ◌↔◌, ◌&&◌, ◌||◌, Bool, true, false, List, length, get_or, slice_set, replicate, refl, sym, ap, ◌∙◌, subst, inl, inr, arith}
use Rattle.std.proofs.lemmas.List.{get_or_default, get_or-replicate, get_or-set_other, get_or-set_same, length-replicate, length-set}
use Rattle.std.proofs.lemmas.Bool.{cases_eq, cases_lt, cond-true, cond-false, eq-eqb, ne_eqb, and_parts, and_from}
use Rattle.rv64_decode.specs.declared.instruction.Instr.{Instr}
use Rattle.rv64_decode.specs.declared.instruction.Instr.TheVariants.{Ecall}
use Rattle.round_schedule.specs.declared.event.Event.{Event}
use Rattle.round_schedule.specs.Positions.{ProgramBefore, event}
use Rattle.memory_order.proofs.Facts.{or_cases, or_left, or_right}
use Rattle.memory_order.specs.declared.registers.Registers.{Registers}
use Rattle.memory_order.specs.Dependencies.{AddressDependency, AnyDependency, DataDependency, Depends, IsSourceRegister, destination_at, registers_at}
use Rattle.memory_order.specs.Registers.{registers_of}
use Rattle.memory_order.proofs.Steps.{Carried_on, depends_earlier, depends_register, stays_down, stays_up, new_down, new_here, new_up}
use Rattle.memory_order.proofs.Sourcing.{same_number}
use Rattle.order_rules.specs.declared.dependents.Dependents.{Dependents}
use Rattle.order_rules.specs.Dependents.{AreDependents, AreRegisters, any_source, dependents_after, is_dependent, marked}
use Rattle.order_rules.specs.Orders.{AddressedBetween}

-- ---- at the operation itself

abbrev pub no_dependents : Dependents
no_dependents = record { registers = replicate 32 false; steered = false; addressed = false }

pub dependents_none : (is : List Instr) (t : List Event) (i h : ℕ) → AreDependents is t i h i no_dependents
dependents_none is t i h = record {
  size = length-replicate {A = Bool} 32 false;
  registers = λ r l. (
    (λ e. absurd (let f = get_or-replicate {A = Bool} 32 r false false l in cc)),
    (λ d. absurd (let k = depends_earlier is t h i r i d in omega (arith, k))),
  );
  steered = (
    (λ e. absurd cc),
    (λ s. absurd (let k = depends_earlier is t (event t s.0).hart s.0 s.4.0 i s.4.2 in omega (arith, k, s.1))),
  );
  addressed = (
    (λ e. absurd cc),
    (λ s. absurd (let k = depends_earlier is t (event t s.0).hart s.0 (registers_at is s.0).address i s.3 in omega (arith, k, s.1))),
  );
}

-- ---- sources

abbrev pub AnyOf : List Instr → List Event → ℕ → ℕ → ℕ → Registers → Type 0
AnyOf is t i h j x = (p : ℕ) × IsSourceRegister x p × Depends is t h j p i

pub any_source_is : (is : List Instr) (t : List Event) (i h j : ℕ) (d : Dependents) (x : Registers) → AreRegisters x → AreDependents is t i h j d →
    (any_source d x ≡ true) ↔ AnyOf is t i h j x
any_source_is is t i h j d x fit k = (forth, back)
  where
    forth : any_source d x ≡ true → AnyOf is t i h j x
    forth e = elim (or_cases (is_dependent d x.address || is_dependent d x.value || is_dependent d x.first) (is_dependent d x.second) e) [
      | inl abc ↦ elim (or_cases (is_dependent d x.address || is_dependent d x.value) (is_dependent d x.first) abc) [
        | inl ab ↦ elim (or_cases (is_dependent d x.address) (is_dependent d x.value) ab) [
          | inl a ↦ (x.address, inl (inl refl), (k.registers x.address fit.address).0 a)
          | inr b ↦ (x.value, inl (inr refl), (k.registers x.value fit.value).0 b)
        ]
        | inr c ↦ (x.first, inr (inl refl), (k.registers x.first fit.first).0 c)
      ]
      | inr s ↦ (x.second, inr (inr refl), (k.registers x.second fit.second).0 s)
    ]

    back : AnyOf is t i h j x → any_source d x ≡ true
    back o = elim o.1 [
      | inl low ↦ elim low [
        | inl s ↦
            let a = (k.registers x.address fit.address).1 (subst (λ r. Depends is t h j r i) s o.2) in
            or_left _ (is_dependent d x.second) (or_left _ (is_dependent d x.first) (or_left (is_dependent d x.address) (is_dependent d x.value) a))
        | inr s ↦
            let b = (k.registers x.value fit.value).1 (subst (λ r. Depends is t h j r i) s o.2) in
            or_left _ (is_dependent d x.second) (or_left _ (is_dependent d x.first) (or_right (is_dependent d x.address) (is_dependent d x.value) b))
      ]
      | inr high ↦ elim high [
        | inl s ↦
            let c = (k.registers x.first fit.first).1 (subst (λ r. Depends is t h j r i) s o.2) in
            or_left _ (is_dependent d x.second) (or_right (is_dependent d x.address || is_dependent d x.value) (is_dependent d x.first) c)
        | inr s ↦
            let e = (k.registers x.second fit.second).1 (subst (λ r. Depends is t h j r i) s o.2) in
            or_right (is_dependent d x.address || is_dependent d x.value || is_dependent d x.first) (is_dependent d x.second) e
      ]
    ]

-- ---- one more instruction

marked_same : (xs : List Bool) (d : ℕ) (v : Bool) → d ≢ 0 → d < length xs → get_or (marked xs d v) d false ≡ v
marked_same xs d v nonzero l =
    ap (λ (ys : List Bool). get_or ys d false) (cond-false (d == 0) xs (slice_set xs d v) (ne_eqb d 0 nonzero)) ∙ get_or-set_same xs d v false l

marked_other : (xs : List Bool) (d r : ℕ) (v : Bool) → r ≢ d → get_or (marked xs d v) r false ≡ get_or xs r false
marked_other xs d r v other = elim (cases_eq d 0) [
  | inl z ↦ ap (λ (ys : List Bool). get_or ys r false) (cond-true (d == 0) xs (slice_set xs d v) (eq-eqb d 0 z))
  | inr z ↦
      ap (λ (ys : List Bool). get_or ys r false) (cond-false (d == 0) xs (slice_set xs d v) (ne_eqb d 0 z)) ∙ get_or-set_other xs d r v false other
]

marked_none : (xs : List Bool) (d r : ℕ) (v : Bool) → d ≡ 0 → get_or (marked xs d v) r false ≡ get_or xs r false
marked_none xs d r v z = ap (λ (ys : List Bool). get_or ys r false) (cond-true (d == 0) xs (slice_set xs d v) (eq-eqb d 0 z))

length-marked : (xs : List Bool) (d : ℕ) (v : Bool) → length (marked xs d v) ≡ length xs
length-marked xs d v = elim (cases_eq d 0) [
  | inl z ↦ ap length (cond-true (d == 0) xs (slice_set xs d v) (eq-eqb d 0 z))
  | inr z ↦ ap length (cond-false (d == 0) xs (slice_set xs d v) (ne_eqb d 0 z)) ∙ length-set xs d v
]

-- what the destination register is marked with
abbrev value_after : List Instr → ℕ → ℕ → Dependents → Bool
value_after is i j d = (j == i) || ((registers_at is j).carries && any_source d (registers_at is j))

registers_more : (is : List Instr) (t : List Event) (i h j : ℕ) (d : Dependents) → (event t j).hart ≡ h → AreRegisters (registers_at is j) → AreDependents is t i h j d →
    (r : ℕ) → r < 32 → (get_or (marked d.registers (destination_at is t j) (value_after is i j d)) r false ≡ true) ↔ Depends is t h (j + 1) r i
registers_more is t i h j d here fit k r l = elim (cases_eq r to) [
  | inl same ↦ elim (cases_eq to 0) [
    | inl z ↦ (
      (λ e. absurd (depends_register is t h j r i ((k.registers r l).0 (sym (marked_none d.registers to r v z) ∙ e)) (same ∙ z))),
      (λ e. absurd (depends_register is t h (j + 1) r i e (same ∙ z))),
    )
    | inr nonzero ↦
        let inside : to < length d.registers = omega (arith, k.size, l, same) in
        let at : get_or (marked d.registers to v) r false ≡ v = ap (λ n. get_or (marked d.registers to v) n false) same ∙ marked_same d.registers to v nonzero inside in (
          (λ e. subst (λ n. Depends is t h (j + 1) n i) (sym same) (forth nonzero (sym at ∙ e))),
          (λ e. at ∙ back (new_down is t h j (j + 1) to i refl here refl (subst (λ n. Depends is t h (j + 1) n i) same e))),
        )
  ]
  | inr other ↦
      let at = marked_other d.registers to r v other in (
        (λ e. stays_up is t h j r i (λ _ s. other (sym s)) ((k.registers r l).0 (sym at ∙ e))),
        (λ e. at ∙ (k.registers r l).1 (stays_down is t h j (j + 1) r i refl (λ _ s. other (sym s)) e)),
      )
]
  where
    to : ℕ
    to = destination_at is t j

    v : Bool
    v = value_after is i j d

    forth : destination_at is t j ≢ 0 → value_after is i j d ≡ true → Depends is t h (j + 1) (destination_at is t j) i
    forth nonzero e = elim (or_cases (j == i) ((registers_at is j).carries && any_source d (registers_at is j)) e) [
      | inl itself ↦ subst (Depends is t h (j + 1) (destination_at is t j)) (same_number j i itself) (new_here is t h j (destination_at is t j) here refl nonzero)
      | inr on ↦
          let p = and_parts (registers_at is j).carries (any_source d (registers_at is j)) on in
          new_up is t h j (destination_at is t j) i here refl nonzero (p.0, (any_source_is is t i h j d (registers_at is j) fit k).0 p.1)
    ]

    back : (i ≡ j) ⊎ Carried_on is t h j i → value_after is i j d ≡ true
    back (inl s) = or_left (j == i) ((registers_at is j).carries && any_source d (registers_at is j)) (eq-eqb j i (sym s))
    back (inr o) = or_right (j == i) ((registers_at is j).carries && any_source d (registers_at is j))
        (and_from (registers_at is j).carries (any_source d (registers_at is j)) o.0 ((any_source_is is t i h j d (registers_at is j) fit k).1 o.1))

split_place : (j m : ℕ) → m < j + 1 → (m < j) ⊎ (m ≡ j)
split_place j m l = elim (cases_lt m j) [ inl b ↦ inl b | inr b ↦ inr (omega (arith, b, l)) ]

dependents_more : (is : List Instr) (t : List Event) (i h j : ℕ) (d : Dependents) → (event t j).hart ≡ h → AreRegisters (registers_at is j) → AreDependents is t i h j d →
    AreDependents is t i h (j + 1) (dependents_after d (registers_at is j) (destination_at is t j) (j == i))
dependents_more is t i h j d here fit k = record {
  size = length-marked d.registers (destination_at is t j) (value_after is i j d) ∙ k.size;
  registers = registers_more is t i h j d here fit k;
  steered = (steered_up, steered_down);
  addressed = (addressed_up, addressed_down);
}
  where
    x : Registers
    x = registers_at is j

    Steered : ℕ → Type 0
    Steered n = (m : ℕ) × (m < n) × ((event t m).hart ≡ h) × ((registers_at is m).steers ≡ true) × AnyDependency is t i m

    Addressed : ℕ → Type 0
    Addressed n = (m : ℕ) × (m < n) × ((event t m).hart ≡ h) × AddressDependency is t i m

    any : (any_source d (registers_at is j) ≡ true) ↔ AnyOf is t i h j (registers_at is j)
    any = any_source_is is t i h j d (registers_at is j) fit k

    steered_up : (d.steered || ((registers_at is j).steers && any_source d (registers_at is j))) ≡ true → Steered (j + 1)
    steered_up e = elim (or_cases d.steered ((registers_at is j).steers && any_source d (registers_at is j)) e) [
      | inl old ↦ let s = k.steered.0 old in (s.0, omega (arith, s.1), s.2, s.3, s.4)
      | inr new ↦
          let p = and_parts (registers_at is j).steers (any_source d (registers_at is j)) new in
          let o = any.0 p.1 in
          (j, omega arith, here, p.0, (o.0, o.1, subst (λ n. Depends is t n j o.0 i) (sym here) o.2))
    ]

    steered_down : Steered (j + 1) → (d.steered || ((registers_at is j).steers && any_source d (registers_at is j))) ≡ true
    steered_down s = elim (split_place j s.0 s.1) [
      | inl old ↦ or_left d.steered ((registers_at is j).steers && any_source d (registers_at is j)) (k.steered.1 (s.0, old, s.2, s.3, s.4))
      | inr same ↦
          let o : AnyDependency is t i j = subst (AnyDependency is t i) same s.4 in
          or_right d.steered ((registers_at is j).steers && any_source d (registers_at is j))
          (and_from (registers_at is j).steers (any_source d (registers_at is j)) (subst (λ n. (registers_at is n).steers ≡ true) same s.3)
          (any.1 (o.0, o.1, subst (λ n. Depends is t n j o.0 i) here o.2)))
    ]

    addressed_up : (d.addressed || is_dependent d (registers_at is j).address) ≡ true → Addressed (j + 1)
    addressed_up e = elim (or_cases d.addressed (is_dependent d (registers_at is j).address) e) [
      | inl old ↦ let s = k.addressed.0 old in (s.0, omega (arith, s.1), s.2, s.3)
      | inr new ↦ (j, omega arith, here, subst (λ n. Depends is t n j (registers_at is j).address i) (sym here) ((k.registers (registers_at is j).address fit.address).0 new))
    ]

    addressed_down : Addressed (j + 1) → (d.addressed || is_dependent d (registers_at is j).address) ≡ true
    addressed_down s = elim (split_place j s.0 s.1) [
      | inl old ↦ or_left d.addressed (is_dependent d (registers_at is j).address) (k.addressed.1 (s.0, old, s.2, s.3))
      | inr same ↦
          let o : AddressDependency is t i j = subst (AddressDependency is t i) same s.3 in
          or_right d.addressed (is_dependent d (registers_at is j).address)
          ((k.registers (registers_at is j).address fit.address).1 (subst (λ n. Depends is t n j (registers_at is j).address i) here o))
    ]

-- an instruction of another hart
pub dependents_skip : (is : List Instr) (t : List Event) (i h j : ℕ) (d : Dependents) → (event t j).hart ≢ h → AreDependents is t i h j d → AreDependents is t i h (j + 1) d
dependents_skip is t i h j d other k = record {
  size = k.size;
  registers = λ r l. (
    (λ e. stays_up is t h j r i (λ s. absurd (other s)) ((k.registers r l).0 e)),
    (λ e. (k.registers r l).1 (stays_down is t h j (j + 1) r i refl (λ s. absurd (other s)) e)),
  );
  steered = (
    (λ e. let s = k.steered.0 e in (s.0, omega (arith, s.1), s.2, s.3, s.4)),
    (λ s. k.steered.1 (s.0, before s.0 s.1 s.2, s.2, s.3, s.4)),
  );
  addressed = (
    (λ e. let s = k.addressed.0 e in (s.0, omega (arith, s.1), s.2, s.3)),
    (λ s. k.addressed.1 (s.0, before s.0 s.1 s.2, s.2, s.3)),
  );
}
  where
    before : (m : ℕ) → m < j + 1 → (event t m).hart ≡ h → m < j
    before m l s = elim (split_place j m l) [ inl b ↦ b | inr e ↦ absurd (other (sym (ap (λ n. (event t n).hart) e) ∙ s)) ]

-- the same of what the code has at hand
pub dependents_step : (is : List Instr) (t : List Event) (i h j to : ℕ) (x : Registers) (itself : Bool) (old new : Dependents) →
    x ≡ registers_at is j → to ≡ destination_at is t j → itself ≡ (j == i) → new ≡ dependents_after old x to itself →
    (event t j).hart ≡ h → AreRegisters x → AreDependents is t i h j old → AreDependents is t i h (j + 1) new
dependents_step is t i h j to x itself old new known at same made here fit k =
    let e : new ≡ dependents_after old (registers_at is j) (destination_at is t j) (j == i) =
    made ∙ ap (λ (y : Registers). dependents_after old y to itself) known ∙ ap (λ n. dependents_after old (registers_at is j) n itself) at
    ∙ ap (λ b. dependents_after old (registers_at is j) (destination_at is t j) b) same in
    subst (AreDependents is t i h (j + 1)) (sym e) (dependents_more is t i h j old here (subst AreRegisters known fit) k)

-- ---- what they say of a later operation of the hart

pub between_is : (is : List Instr) (t : List Event) (a b : ℕ) (d : Dependents) → ProgramBefore t a b → AreDependents is t a (event t a).hart b d →
    (d.addressed ≡ true) ↔ AddressedBetween is t a b
between_is is t a b d before k = (
  (λ e. let s = k.addressed.0 e in (s.0, record { earlier = s.1; same_hart = s.2 ∙ before.same_hart }, s.3)),
  (λ s. k.addressed.1 (s.0, s.1.earlier, s.1.same_hart ∙ sym before.same_hart, s.2)),
)

pub operand_earlier : (is : List Instr) (t : List Event) (a m : ℕ) → AddressDependency is t a m ⊎ DataDependency is t a m → a < m
operand_earlier is t a m (inl d) = depends_earlier is t (event t m).hart m (registers_at is m).address a d
operand_earlier is t a m (inr d) = depends_earlier is t (event t m).hart m (registers_at is m).value a d

-- the registers of what was read of the list of instructions
pub registers_read : (is : List Instr) (i : ℕ) (x : Registers) (r : Instr) → i < length is → x ≡ registers_of r → r ≡ get_or is i r → x ≡ registers_at is i
registers_read is i x r l known at = known ∙ ap registers_of (at ∙ get_or_default is i r Ecall l)
