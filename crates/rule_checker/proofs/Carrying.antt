-- The bounds of registers along the instructions of a hart say which dependencies an order has to keep.
use Rattle.std.proofs.Common.{◌≡◌, ◌≢◌, ℕ, ◌+◌, ◌-◌, ◌<◌, ◌≤◌, ◌==◌, ◌⊎◌, max, Bool, true, false, if◌then◌else◌, List, [], ◌∷◌, ◌++◌, length, get_or, slice_set, replicate, Some, refl, sym, ap, ◌∙◌, subst, inl, inr, arith}
use Rattle.std.proofs.lemmas.List.{get_or-replicate, get_or_append_left, get_or-set_other, get_or-set_same, length-append, length-replicate, length-set}
use Rattle.std.proofs.lemmas.Grind.{common_steps}
use Rattle.std.proofs.lemmas.Bool.{cases_lt, cases_eq, cases_Bool, cond-true, cond-false, eq-eqb, ne_eqb}
use Rattle.rv64_decode.specs.declared.instruction.Instr.{Instr}
use Rattle.round_schedule.specs.declared.event.Event.{Event}
use Rattle.round_schedule.specs.Accesses.{stores}
use Rattle.round_schedule.specs.Positions.{ProgramBefore, event, reads_at}
use Rattle.hart_step.specs.Registers.{reg, set_reg}
use Rattle.memory_order.specs.Operations.{is_operation, is_store}
use Rattle.memory_order.specs.Orders.{ListsOperations, order_position}
use Rattle.memory_order.specs.Rvwmo.{IsSource, MaySee}
use Rattle.memory_order.proofs.Placing.{position_of_contained}
use Rattle.memory_order.proofs.Sources.{store_at}
use Rattle.memory_order.specs.declared.registers.Registers.{Registers}
use Rattle.memory_order.specs.Dependencies.{AddressDependency, AnyDependency, DataDependency, DependencyRule, Depends, IsSourceRegister, RespectsAt, by-address, by-address-between, by-control, by-data, by-forwarding, destination_at, registers_at}
use Rattle.memory_order.proofs.Steps.{Carried_on, depends_earlier, depends_hart, depends_register, stays_down, stays_up, new_down, new_here, new_up}
use Rattle.rule_checker.specs.declared.carried.Carried.{Carried}
use Rattle.memory_order.specs.Checking.{IsMax}
use Rattle.rule_checker.specs.CarriedBounds.{AllowedBy, AreOperands, AreRegisters, MayForwardAll, carried_after, none_carried, operand_bound, result_bound, sources_bound}
use Rattle.memory_order.proofs.Bounding.{below_max, max_alike, max_below, max_join, max_join_if, max_none, max_one}

-- ---- registers

reg_same : (xs : List ℕ) (d v : ℕ) → d ≢ 0 → d < length xs → reg (set_reg xs d v) d ≡ v
reg_same xs d v nonzero l =
    let z = ne_eqb d 0 nonzero in
    cond-false (d == 0) 0 (get_or (set_reg xs d v) d 0) z
    ∙ ap (λ (ys : List ℕ). get_or ys d 0) (cond-false (d == 0) xs (slice_set xs d v) z)
    ∙ get_or-set_same xs d v 0 l

reg_other : (xs : List ℕ) (d r v : ℕ) → r ≢ d → reg (set_reg xs d v) r ≡ reg xs r
reg_other xs d r v other = elim (cases_eq d 0) [
  | inl z ↦ ap (λ (ys : List ℕ). reg ys r) (cond-true (d == 0) xs (slice_set xs d v) (eq-eqb d 0 z))
  | inr z ↦
      ap (λ (ys : List ℕ). reg ys r) (cond-false (d == 0) xs (slice_set xs d v) (ne_eqb d 0 z))
      ∙ ap (λ n. if r == 0 then 0 else n) (get_or-set_other xs d r v 0 other)
]

length-set_reg : (xs : List ℕ) (d v : ℕ) → length (set_reg xs d v) ≡ length xs
length-set_reg xs d v = elim (cases_eq d 0) [
  | inl z ↦ ap length (cond-true (d == 0) xs (slice_set xs d v) (eq-eqb d 0 z))
  | inr z ↦ ap length (cond-false (d == 0) xs (slice_set xs d v) (ne_eqb d 0 z)) ∙ length-set xs d v
]

-- ---- the bounds of a hart before index j

-- memory operations that register r depends on
abbrev pub Reached : List Instr → List Event → ℕ → ℕ → ℕ → ℕ → Type 0
Reached is t h j r a = (is_operation (event t a) ≡ true) × Depends is t h j r a

-- memory operations that a branch or indirect jump before index j depends on
abbrev pub Steered : List Instr → List Event → ℕ → ℕ → ℕ → Type 0
Steered is t h j a = (is_operation (event t a) ≡ true) × ((m : ℕ) × (m < j) × ((event t m).hart ≡ h) × ((registers_at is m).steers ≡ true) × AnyDependency is t a m)

-- memory operations that the address of an instruction before index j depends on
abbrev pub Addressed : List Instr → List Event → ℕ → ℕ → ℕ → Type 0
Addressed is t h j a = (is_operation (event t a) ≡ true) × ((m : ℕ) × (m < j) × ((event t m).hart ≡ h) × AddressDependency is t a m)

pub record Carries (is : List Instr) (t : List Event) (pos : ℕ → ℕ) (h j : ℕ) (c : Carried) : Type 0 where
  pub size : length c.registers ≡ 32
  pub registers : (r : ℕ) → r < 32 → IsMax pos (Reached is t h j r) (reg c.registers r)
  pub steered : IsMax pos (Steered is t h j) c.steered
  pub addressed : IsMax pos (Addressed is t h j) c.addressed

nothing_before : (is : List Instr) (t : List Event) (h r i : ℕ) → Depends is t h 0 r i → ⊥
nothing_before is t h r i d = let l = depends_earlier is t h 0 r i d in omega (arith, l)

pub carries_none : (is : List Instr) (t : List Event) (pos : ℕ → ℕ) (h : ℕ) → Carries is t pos h 0 none_carried
carries_none is t pos h = record {
  size = length-replicate {A = ℕ} 32 0;
  registers = λ r l. subst (IsMax pos (Reached is t h 0 r)) (sym (zero_reg r l)) (max_none pos (Reached is t h 0 r) (λ a p. nothing_before is t h r a p.1));
  steered = max_none pos (Steered is t h 0) (λ a p. omega (arith, p.1.1));
  addressed = max_none pos (Addressed is t h 0) (λ a p. omega (arith, p.1.1));
}
  where
    zero_reg : (r : ℕ) → r < 32 → reg (replicate 32 0) r ≡ 0
    zero_reg r l = elim (cases_Bool (r == 0)) [
      | inl z ↦ cond-true (r == 0) 0 (get_or (replicate 32 0) r 0) z
      | inr z ↦ cond-false (r == 0) 0 (get_or (replicate 32 0) r 0) z ∙ get_or-replicate {A = ℕ} 32 r 0 0 l
    ]

-- the bound of an instruction's operands, and of all its sources
pub operands_are : (is : List Instr) (t : List Event) (pos : ℕ → ℕ) (h j : ℕ) (c : Carried) (x : Registers) → AreRegisters x → Carries is t pos h j c →
    IsMax pos (λ a. (is_operation (event t a) ≡ true) × (Depends is t h j x.address a ⊎ Depends is t h j x.value a)) (operand_bound c x)
operands_are is t pos h j c x fit k =
    max_join pos (Reached is t h j x.address) (Reached is t h j x.value) _ (reg c.registers x.address) (reg c.registers x.value)
    (λ a p. (p.0, inl p.1)) (λ a p. (p.0, inr p.1)) (λ a p. elim p.1 [ inl d ↦ inl (p.0, d) | inr d ↦ inr (p.0, d) ])
    (k.registers x.address fit.address) (k.registers x.value fit.value)

abbrev AnyOf : List Instr → List Event → ℕ → ℕ → Registers → ℕ → Type 0
AnyOf is t h j x a = (is_operation (event t a) ≡ true) × ((p : ℕ) × IsSourceRegister x p × Depends is t h j p a)

pub sources_are : (is : List Instr) (t : List Event) (pos : ℕ → ℕ) (h j : ℕ) (c : Carried) (x : Registers) → AreRegisters x → Carries is t pos h j c →
    IsMax pos (AnyOf is t h j x) (sources_bound c x)
sources_are is t pos h j c x fit k =
    max_join pos Operands Others (AnyOf is t h j x) (operand_bound c x) (max (reg c.registers x.first) (reg c.registers x.second))
    (λ a p. elim p.1 [ inl d ↦ (p.0, (x.address, inl (inl refl), d)) | inr d ↦ (p.0, (x.value, inl (inr refl), d)) ])
    (λ a p. elim p.1 [ inl d ↦ (p.0, (x.first, inr (inl refl), d)) | inr d ↦ (p.0, (x.second, inr (inr refl), d)) ])
    (λ a p. elim p.1.1 [
      | inl o ↦ elim o [
        | inl s ↦ inl (p.0, inl (subst (λ r. Depends is t h j r a) s p.1.2))
        | inr s ↦ inl (p.0, inr (subst (λ r. Depends is t h j r a) s p.1.2))
      ]
      | inr o ↦ elim o [
        | inl s ↦ inr (p.0, inl (subst (λ r. Depends is t h j r a) s p.1.2))
        | inr s ↦ inr (p.0, inr (subst (λ r. Depends is t h j r a) s p.1.2))
      ]
    ])
    (operands_are is t pos h j c x fit k)
    (max_join pos (Reached is t h j x.first) (Reached is t h j x.second) Others (reg c.registers x.first) (reg c.registers x.second)
    (λ a p. (p.0, inl p.1)) (λ a p. (p.0, inr p.1)) (λ a p. elim p.1 [ inl d ↦ inl (p.0, d) | inr d ↦ inr (p.0, d) ])
    (k.registers x.first fit.first) (k.registers x.second fit.second))
  where
    Operands : ℕ → Type 0
    Operands a = (is_operation (event t a) ≡ true) × (Depends is t h j x.address a ⊎ Depends is t h j x.value a)

    Others : ℕ → Type 0
    Others a = (is_operation (event t a) ≡ true) × (Depends is t h j x.first a ⊎ Depends is t h j x.second a)

-- ---- one more instruction

-- the instruction itself, where it is a memory operation, and what it carries on
result_is : (is : List Instr) (t : List Event) (pos : ℕ → ℕ) (h j next : ℕ) (c : Carried) → AreRegisters (registers_at is j) → next ≡ pos j + 1 → Carries is t pos h j c →
    IsMax pos (λ a. (is_operation (event t a) ≡ true) × ((a ≡ j) ⊎ Carried_on is t h j a)) (result_bound c (registers_at is j) (is_operation (event t j)) next)
result_is is t pos h j next c fit at k =
    max_join pos Itself On _ (if is_operation (event t j) then next else 0) (if (registers_at is j).carries then sources_bound c (registers_at is j) else 0)
    (λ a p. (p.1, inl p.0)) (λ a p. (p.1, inr p.0)) (λ a p. elim p.1 [ inl s ↦ inl (s, p.0) | inr o ↦ inr (o, p.0) ])
    (itself (is_operation (event t j)) refl) (on (registers_at is j).carries refl)
  where
    Itself : ℕ → Type 0
    Itself a = (a ≡ j) × (is_operation (event t a) ≡ true)

    On : ℕ → Type 0
    On a = Carried_on is t h j a × (is_operation (event t a) ≡ true)

    itself : (b : Bool) → is_operation (event t j) ≡ b → IsMax pos Itself (if b then next else 0)
    itself true o = max_alike pos (λ a. a ≡ j) Itself next (λ a s. (s, ap (λ n. is_operation (event t n)) s ∙ o)) (λ a p. p.0) (max_one pos j next at)
    itself false o = max_none pos Itself (λ a p. let no = ap (λ n. is_operation (event t n)) p.0 in let q = p.1 in cc)

    on : (b : Bool) → (registers_at is j).carries ≡ b → IsMax pos On (if b then sources_bound c (registers_at is j) else 0)
    on true o = max_alike pos (AnyOf is t h j (registers_at is j)) On (sources_bound c (registers_at is j))
        (λ a p. ((o, p.1), p.0)) (λ a p. (p.1, p.0.1)) (sources_are is t pos h j c (registers_at is j) fit k)
    on false o = max_none pos On (λ a p. let yes = p.0.0 in cc)

registers_more : (is : List Instr) (t : List Event) (pos : ℕ → ℕ) (h j next : ℕ) (c : Carried) → (event t j).hart ≡ h → AreRegisters (registers_at is j) → next ≡ pos j + 1 → Carries is t pos h j c →
    (r : ℕ) → r < 32 → IsMax pos (Reached is t h (j + 1) r) (reg (carried_after c (registers_at is j) (event t j) next).registers r)
registers_more is t pos h j next c here fit at k r l = elim (cases_eq r d) [
  | inl same ↦ elim (cases_eq d 0) [
    | inl z ↦
        let y : r ≡ 0 = same ∙ z in
        subst (IsMax pos (Reached is t h (j + 1) r)) (ap (λ n. reg (set_reg c.registers d v) n) (sym y))
        (max_none pos (Reached is t h (j + 1) r) (λ a p. depends_register is t h (j + 1) r a p.1 y))
    | inr nonzero ↦
        let inside : d < length c.registers = omega (arith, k.size, l, same) in
        subst (λ n. IsMax pos (Reached is t h (j + 1) n) (reg (set_reg c.registers d v) n)) (sym same)
        (subst (IsMax pos (Reached is t h (j + 1) d)) (sym (reg_same c.registers d v nonzero inside))
        (max_alike pos _ (Reached is t h (j + 1) d) v
        (λ a p. (
          p.0,
          elim p.1 [
            | inl s ↦ subst (Depends is t h (j + 1) d) (sym s) (new_here is t h j d here refl nonzero)
            | inr o ↦ new_up is t h j d a here refl nonzero o
          ],
        ))
        (λ a p. (p.0, new_down is t h j (j + 1) d a refl here refl p.1))
        (result_is is t pos h j next c fit at k)))
  ]
  | inr other ↦
      subst (IsMax pos (Reached is t h (j + 1) r)) (sym (reg_other c.registers d r v other))
      (max_alike pos (Reached is t h j r) (Reached is t h (j + 1) r) (reg c.registers r)
      (λ a p. (p.0, stays_up is t h j r a (λ _ s. other (sym s)) p.1))
      (λ a p. (p.0, stays_down is t h j (j + 1) r a refl (λ _ s. other (sym s)) p.1))
      (k.registers r l))
]
  where
    d : ℕ
    d = destination_at is t j

    v : ℕ
    v = result_bound c (registers_at is j) (is_operation (event t j)) next

-- what held before an index holds before the next, and what is new is of the index itself
pub split_place : (j m : ℕ) → m < j + 1 → (m < j) ⊎ (m ≡ j)
split_place j m l = elim (cases_lt m j) [ inl b ↦ inl b | inr b ↦ inr (omega (arith, b, l)) ]

any_here : (is : List Instr) (t : List Event) (h j a : ℕ) → (event t j).hart ≡ h → (p : ℕ) × IsSourceRegister (registers_at is j) p × Depends is t h j p a → AnyDependency is t a j
any_here is t h j a here o = (o.0, o.1, subst (λ n. Depends is t n j o.0 a) (sym here) o.2)

any_there : (is : List Instr) (t : List Event) (h j a : ℕ) → (event t j).hart ≡ h → AnyDependency is t a j → (p : ℕ) × IsSourceRegister (registers_at is j) p × Depends is t h j p a
any_there is t h j a here o = (o.0, o.1, subst (λ n. Depends is t n j o.0 a) here o.2)

steered_more : (is : List Instr) (t : List Event) (pos : ℕ → ℕ) (h j : ℕ) (c : Carried) → (event t j).hart ≡ h → AreRegisters (registers_at is j) → Carries is t pos h j c →
    IsMax pos (Steered is t h (j + 1)) (if (registers_at is j).steers then max c.steered (sources_bound c (registers_at is j)) else c.steered)
steered_more is t pos h j c here fit k =
    max_join_if pos (Steered is t h j) (AnyOf is t h j (registers_at is j)) (Steered is t h (j + 1)) c.steered (sources_bound c (registers_at is j)) (registers_at is j).steers
    (λ a p. (p.0, (p.1.0, omega (arith, p.1.1), p.1.2, p.1.3, p.1.4)))
    (λ s a p. (p.0, (j, omega arith, here, s, any_here is t h j a here p.1)))
    (λ a p. elim (split_place j p.1.0 p.1.1) [
      | inl l ↦ inl (p.0, (p.1.0, l, p.1.2, p.1.3, p.1.4))
      | inr s ↦ inr ((p.0, any_there is t h j a here (subst (AnyDependency is t a) s p.1.4)), subst (λ n. (registers_at is n).steers ≡ true) s p.1.3)
    ])
    k.steered (λ s. sources_are is t pos h j c (registers_at is j) fit k)

addressed_more : (is : List Instr) (t : List Event) (pos : ℕ → ℕ) (h j : ℕ) (c : Carried) → (event t j).hart ≡ h → AreRegisters (registers_at is j) → Carries is t pos h j c →
    IsMax pos (Addressed is t h (j + 1)) (max c.addressed (reg c.registers (registers_at is j).address))
addressed_more is t pos h j c here fit k =
    max_join pos (Addressed is t h j) (Reached is t h j (registers_at is j).address) (Addressed is t h (j + 1)) c.addressed (reg c.registers (registers_at is j).address)
    (λ a p. (p.0, (p.1.0, omega (arith, p.1.1), p.1.2, p.1.3)))
    (λ a p. (p.0, (j, omega arith, here, subst (λ n. Depends is t n j (registers_at is j).address a) (sym here) p.1)))
    (λ a p. elim (split_place j p.1.0 p.1.1) [
      | inl l ↦ inl (p.0, (p.1.0, l, p.1.2, p.1.3))
      | inr s ↦ inr (p.0, subst (λ n. Depends is t n j (registers_at is j).address a) here (subst (AddressDependency is t a) s p.1.3))
    ])
    k.addressed (k.registers (registers_at is j).address fit.address)

carries_more : (is : List Instr) (t : List Event) (pos : ℕ → ℕ) (h j next : ℕ) (c : Carried) → (event t j).hart ≡ h → AreRegisters (registers_at is j) → next ≡ pos j + 1 → Carries is t pos h j c →
    Carries is t pos h (j + 1) (carried_after c (registers_at is j) (event t j) next)
carries_more is t pos h j next c here fit at k = record {
  size = length-set_reg c.registers (destination_at is t j) (result_bound c (registers_at is j) (is_operation (event t j)) next) ∙ k.size;
  registers = registers_more is t pos h j next c here fit at k;
  steered = steered_more is t pos h j c here fit k;
  addressed = addressed_more is t pos h j c here fit k;
}

carries_skip : (is : List Instr) (t : List Event) (pos : ℕ → ℕ) (h j : ℕ) (c : Carried) → (event t j).hart ≢ h → Carries is t pos h j c → Carries is t pos h (j + 1) c
carries_skip is t pos h j c other k = record {
  size = k.size;
  registers = λ r l. max_alike pos (Reached is t h j r) (Reached is t h (j + 1) r) (reg c.registers r)
      (λ a p. (p.0, stays_up is t h j r a (λ s. absurd (other s)) p.1))
      (λ a p. (p.0, stays_down is t h j (j + 1) r a refl (λ s. absurd (other s)) p.1))
      (k.registers r l);
  steered = max_alike pos (Steered is t h j) (Steered is t h (j + 1)) c.steered
      (λ a p. (p.0, (p.1.0, omega (arith, p.1.1), p.1.2, p.1.3, p.1.4)))
      (λ a p. (p.0, (p.1.0, before p.1.0 p.1.1 p.1.2, p.1.2, p.1.3, p.1.4)))
      k.steered;
  addressed = max_alike pos (Addressed is t h j) (Addressed is t h (j + 1)) c.addressed
      (λ a p. (p.0, (p.1.0, omega (arith, p.1.1), p.1.2, p.1.3)))
      (λ a p. (p.0, (p.1.0, before p.1.0 p.1.1 p.1.2, p.1.2, p.1.3)))
      k.addressed;
}
  where
    before : (m : ℕ) → m < j + 1 → (event t m).hart ≡ h → m < j
    before m l s = elim (split_place j m l) [ inl b ↦ b | inr e ↦ absurd (other (sym (ap (λ n. (event t n).hart) e) ∙ s)) ]

pub carries_step : (is : List Instr) (t : List Event) (pos : ℕ → ℕ) (i next : ℕ) (e : Event) (x : Registers) (c : Carried) (old new : ℕ → Carried) → e ≡ event t i → x ≡ registers_at is i → AreRegisters x →
    next ≡ pos i + 1 → c ≡ old e.hart → ((h : ℕ) → new h ≡ (if h == e.hart then carried_after c x e next else old h)) →
    ((h : ℕ) → Carries is t pos h i (old h)) → (h : ℕ) → Carries is t pos h (i + 1) (new h)
carries_step is t pos i next e x c old new is_event is_registers fit at known set k h = elim (cases_eq h e.hart) [
  | inl same ↦
      let n : new h ≡ carried_after (old h) (registers_at is i) (event t i) next =
      set h ∙ cond-true (h == e.hart) (carried_after c x e next) (old h) (eq-eqb h e.hart same)
      ∙ ap (λ b. carried_after b x e next) (known ∙ ap old (sym same)) ∙ ap (λ y. carried_after (old h) y e next) is_registers
      ∙ ap (λ f. carried_after (old h) (registers_at is i) f next) is_event in
      subst (Carries is t pos h (i + 1)) (sym n)
      (carries_more is t pos h i next (old h) (ap (λ (f : Event). f.hart) (sym is_event) ∙ sym same) (subst AreRegisters is_registers fit) at (k h))
  | inr other ↦
      let n : new h ≡ old h = set h ∙ cond-false (h == e.hart) (carried_after c x e next) (old h) (ne_eqb h e.hart other) in
      subst (Carries is t pos h (i + 1)) (sym n) (carries_skip is t pos h i (old h) (λ s. other (sym s ∙ ap (λ (f : Event). f.hart) (sym is_event))) (k h))
]

-- ---- sources

pub bound_of_source : (t : List Event) (pos : ℕ → ℕ) (b x m s : ℕ) → IsSource t pos b x (Some m) → IsMax pos (MaySee t pos b x) s → s ≡ pos m + 1
bound_of_source t pos b x m s source k =
    let u = k.upper m source.0 in
    elim k.attained [
      | inl z ↦ absurd (omega (arith, z, u))
      | inr v ↦ let l = source.1 v.0 v.1 in omega (arith, u, l, v.2)
    ]

pub listed_at : (t : List Event) (g : List ℕ) (m s : ℕ) → ListsOperations t g → is_operation (event t m) ≡ true → s ≡ order_position g m + 1 → get_or g (s - 1) 0 ≡ m
listed_at t g m s lists op e =
    let f = position_of_contained g m (lists.each m op) in
    let k : s - 1 ≡ order_position g m = omega (arith, e) in
    ap (λ n. get_or g n 0) k ∙ f.1

pub source_of_bound : (t : List Event) (g : List ℕ) (b x s : ℕ) → ListsOperations t g → IsMax (order_position g) (MaySee t (order_position g) b x) s → s ≢ 0 → IsSource t (order_position g) b x (Some (get_or g (s - 1) 0))
source_of_bound t g b x s lists k nonzero = elim k.attained [
  | inl z ↦ absurd (nonzero z)
  | inr v ↦
      let m : get_or g (s - 1) 0 ≡ v.0 = listed_at t g v.0 s lists (store_at t v.0 x v.1.0) (sym v.2) in
      subst (λ n. IsSource t (order_position g) b x (Some n)) (sym m) (v.1, λ u q. let l = k.upper u q in omega (arith, l, v.2))
]

-- ---- what the bounds say

pub respected_from_allowed : (is : List Instr) (t : List Event) (g : List ℕ) (b p : ℕ) (e : Event) (x : Registers) (c : Carried) (operands : List ℕ) (sources : ℕ → ℕ) → e ≡ event t b → x ≡ registers_at is b →
    AreRegisters x → p ≡ order_position g b → ListsOperations t g → Carries is t (order_position g) e.hart b c → AreOperands is t (order_position g) b operands →
    ((y : ℕ) → reads_at t b y ≡ true → IsMax (order_position g) (MaySee t (order_position g) b y) (sources y)) →
    AllowedBy c x e.access p → MayForwardAll t g operands sources b p → RespectsAt is t (order_position g) b
respected_from_allowed is t g b p e x c operands sources is_event is_registers fit at lists k are max allowed forwards a op rule = by_rule rule
  where
    pos : ℕ → ℕ
    pos = order_position g

    hart : e.hart ≡ (event t b).hart
    hart = ap (λ (f : Event). f.hart) is_event

    here : Carries is t pos (event t b).hart b c
    here = subst (λ h. Carries is t pos h b c) hart k

    storing : is_store (event t b) ≡ true → stores e.access ≡ true
    storing s = ap (λ (f : Event). stores f.access) is_event ∙ s

    below : pos a < p → pos a < pos b
    below l = omega (arith, l, at)

    via : (r : ℕ) → r < 32 → reg c.registers r ≤ p → Depends is t (event t b).hart b r a → pos a < pos b
    via r l limit d = below (below_max pos (Reached is t (event t b).hart b r) (reg c.registers r) p (here.registers r l) limit a (op, d))

    address_limit : reg c.registers (registers_at is b).address ≤ p
    address_limit = subst (λ (y : Registers). reg c.registers y.address ≤ p) is_registers allowed.0

    data_limit : is_store (event t b) ≡ true → reg c.registers (registers_at is b).value ≤ p
    data_limit s = subst (λ (y : Registers). reg c.registers y.value ≤ p) is_registers (allowed.1 (storing s)).0

    fits : AreRegisters (registers_at is b)
    fits = subst AreRegisters is_registers fit

    by_rule : DependencyRule is t pos a b → pos a < pos b
    by_rule (by-address d) = via (registers_at is b).address fits.address address_limit d
    by_rule (by-data s d) = via (registers_at is b).value fits.value (data_limit s) d
    by_rule (by-control s w) = below (below_max pos (Steered is t (event t b).hart b) c.steered p here.steered (allowed.1 (storing s)).1 a
        (op, (w.0, w.1.earlier, w.1.same_hart, w.2, w.3)))
    by_rule (by-forwarding m y before d reads source) =
        let s = bound_of_source t pos b y m (sources y) source (max y reads) in
        let n = listed_at t g m (sources y) lists (store_at t m y source.0.0) s in
        let limit : get_or operands m 0 ≤ p = subst (λ i. get_or operands i 0 ≤ p) n
        (forwards y reads (λ z. omega (arith, z, s)) (subst (λ i. i < b) (sym n) before.earlier) (ap (λ i. (event t i).hart) n ∙ before.same_hart)) in
        below (below_max pos _ (get_or operands m 0) p (are.1 m before.earlier) limit a (op, d))
    by_rule (by-address-between m s before d) = below (below_max pos (Addressed is t (event t b).hart b) c.addressed p here.addressed (allowed.1 (storing s)).2 a
        (op, (m, before.earlier, before.same_hart, d)))

pub allowed_from_respected : (is : List Instr) (t : List Event) (g : List ℕ) (b p : ℕ) (e : Event) (x : Registers) (c : Carried) → e ≡ event t b → x ≡ registers_at is b →
    AreRegisters x → p ≡ order_position g b → Carries is t (order_position g) e.hart b c → RespectsAt is t (order_position g) b → AllowedBy c x e.access p
allowed_from_respected is t g b p e x c is_event is_registers fit at k respected = (
  subst (λ (y : Registers). reg c.registers y.address ≤ p) (sym is_registers) (via (registers_at is b).address fits.address (λ a d. by-address d)),
  λ s. (
    subst (λ (y : Registers). reg c.registers y.value ≤ p) (sym is_registers) (via (registers_at is b).value fits.value (λ a d. by-data (storing s) d)),
    max_below pos (Steered is t (event t b).hart b) c.steered p here.steered
        (λ a q. below a (respected a q.0 (by-control (storing s) (q.1.0, record { earlier = q.1.1; same_hart = q.1.2 }, q.1.3, q.1.4)))),
    max_below pos (Addressed is t (event t b).hart b) c.addressed p here.addressed
        (λ a q. below a (respected a q.0 (by-address-between q.1.0 (storing s) (record { earlier = q.1.1; same_hart = q.1.2 }) q.1.3))),
  ),
)
  where
    pos : ℕ → ℕ
    pos = order_position g

    here : Carries is t pos (event t b).hart b c
    here = subst (λ h. Carries is t pos h b c) (ap (λ (f : Event). f.hart) is_event) k

    fits : AreRegisters (registers_at is b)
    fits = subst AreRegisters is_registers fit

    storing : stores e.access ≡ true → is_store (event t b) ≡ true
    storing s = sym (ap (λ (f : Event). stores f.access) is_event) ∙ s

    below : (a : ℕ) → pos a < pos b → pos a < p
    below a l = omega (arith, l, at)

    via : (r : ℕ) → r < 32 → ((a : ℕ) → Depends is t (event t b).hart b r a → DependencyRule is t pos a b) → reg c.registers r ≤ p
    via r l rule = max_below pos (Reached is t (event t b).hart b r) (reg c.registers r) p (here.registers r l) (λ a q. below a (respected a q.0 (rule a q.1)))

pub forwards_from_respected : (is : List Instr) (t : List Event) (g : List ℕ) (b p : ℕ) (operands : List ℕ) (sources : ℕ → ℕ) → p ≡ order_position g b → ListsOperations t g →
    AreOperands is t (order_position g) b operands → ((y : ℕ) → reads_at t b y ≡ true → IsMax (order_position g) (MaySee t (order_position g) b y) (sources y)) →
    RespectsAt is t (order_position g) b → MayForwardAll t g operands sources b p
forwards_from_respected is t g b p operands sources at lists are max respected y reads nonzero l hart =
    max_below (order_position g) _ (get_or operands (get_or g (sources y - 1) 0) 0) p (are.1 (get_or g (sources y - 1) 0) l)
    (λ a q. let k = respected a q.0 (by-forwarding (get_or g (sources y - 1) 0) y (record { earlier = l; same_hart = hart }) q.1 reads
    (source_of_bound t g b y (sources y) lists (max y reads) nonzero)) in omega (arith, k, at))

-- one more event's operands
pub operands_step : (is : List Instr) (t : List Event) (pos : ℕ → ℕ) (i : ℕ) (e : Event) (x : Registers) (c : Carried) (operands : List ℕ) → e ≡ event t i → x ≡ registers_at is i → AreRegisters x →
    Carries is t pos e.hart i c → AreOperands is t pos i operands → AreOperands is t pos (i + 1) (operands ++ operand_bound c x ∷ [])
operands_step is t pos i e x c operands is_event is_registers fit k are = (
  length-append operands (operand_bound c x ∷ []) ∙ ap (λ n. n + 1) are.0,
  λ m l. elim (cases_lt m i) [
    | inl b ↦ subst (IsMax pos (Operands m)) (sym (get_or_append_left operands (operand_bound c x ∷ []) 0 m (omega (arith, are.0, b)))) (are.1 m b)
    | inr b ↦
        let same : m ≡ i = omega (arith, b, l) in
        let last : get_or (operands ++ operand_bound c x ∷ []) m 0 ≡ operand_bound c x = grind (arith, common_steps, same, are.0) in
        subst (IsMax pos (Operands m)) (sym last) (subst (λ n. IsMax pos (Operands n) (operand_bound c x)) (sym same) here)
  ],
)
  where
    Operands : ℕ → ℕ → Type 0
    Operands m a = (is_operation (event t a) ≡ true) × (AddressDependency is t a m ⊎ DataDependency is t a m)

    here : IsMax pos (Operands i) (operand_bound c x)
    here = subst (λ h. IsMax pos (λ a. (is_operation (event t a) ≡ true) × (Depends is t h i (registers_at is i).address a ⊎ Depends is t h i (registers_at is i).value a)) (operand_bound c x))
        (ap (λ (f : Event). f.hart) is_event)
        (subst (λ (y : Registers). IsMax pos (λ a. (is_operation (event t a) ≡ true) × (Depends is t e.hart i y.address a ⊎ Depends is t e.hart i y.value a)) (operand_bound c x)) is_registers
        (operands_are is t pos e.hart i c x fit k))

rule_between : (is : List Instr) (t : List Event) (a m b : ℕ) → ProgramBefore t m b → (r : ℕ) → Depends is t (event t m).hart m r a → ProgramBefore t a b
rule_between is t a m b q r d = record {
  earlier = (let l = depends_earlier is t (event t m).hart m r a d in let k = q.earlier in omega (arith, l, k));
  same_hart = depends_hart is t (event t m).hart m r a d ∙ q.same_hart;
}

pub rule_before : (is : List Instr) (t : List Event) (pos : ℕ → ℕ) (a b : ℕ) → DependencyRule is t pos a b → ProgramBefore t a b
rule_before is t pos a b (by-address d) = record { earlier = depends_earlier is t (event t b).hart b _ a d; same_hart = depends_hart is t (event t b).hart b _ a d }
rule_before is t pos a b (by-data s d) = record { earlier = depends_earlier is t (event t b).hart b _ a d; same_hart = depends_hart is t (event t b).hart b _ a d }
rule_before is t pos a b (by-control s w) = rule_between is t a w.0 b w.1 w.3.0 w.3.2
rule_before is t pos a b (by-forwarding m x before d reads source) = elim d [
  | inl e ↦ rule_between is t a m b before _ e
  | inr e ↦ rule_between is t a m b before _ e
]
rule_before is t pos a b (by-address-between m s before d) = rule_between is t a m b before _ d
