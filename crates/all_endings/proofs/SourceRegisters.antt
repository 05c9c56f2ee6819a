-- Which source registers the instructions of each class have.
use Rattle.std.proofs.Common.{◌≡◌, ℕ, ◌<◌, ◌≤◌, ◌==◌, ◌&&◌, ◌||◌, ◌⊎◌, Bool, true, false, List, Option, Some, None, is_some, refl, sym, ap, subst, inl, inr, arith}
use Rattle.std.proofs.lemmas.Bool.{and_parts, cases_lt, eqb-true}
use Rattle.rv64_decode.specs.declared.instruction.Instr.{Instr}
use Rattle.rv64_decode.specs.declared.instruction.Instr.TheVariants.{Ecall}
use Rattle.hart_step.specs.Effect.{Action, Put, Jump, Branch, Read, Write, Order, Reserve, Conditional, Exchange, action}
use Rattle.hart_step.specs.Registers.{reg}
use Rattle.memory_order.specs.declared.registers.Registers.{Registers}
use Rattle.memory_order.specs.Registers.{registers_of}
use Rattle.rule_checker.specs.CarriedBounds.{AreRegisters, sources_bound}
use Rattle.rule_checker.specs.declared.carried.Carried.{Carried}
use Rattle.all_endings.specs.Locality.{Knows, KnowsButData, view}

abbrev pub without_others : Registers → Bool
without_others r = r.first == 0 && r.second == 0

abbrev pub without_any : Registers → Bool
without_any r = (r.address == 0 && r.value == 0) && without_others r

-- a result that comes from registers is carried, a jump or branch that does steers; what accesses memory has its address alone, and its data
abbrev pub fits : Registers → Action → Bool
fits r (Put rd v) = r.carries || without_any r
fits r (Jump rd target) = r.steers || without_any r
fits r (Branch taken target) = r.steers
fits r (Read rd a w signed) = r.value == 0 && without_others r
fits r (Reserve rd a w o) = r.value == 0 && without_others r
fits r (Write a w v) = without_others r
fits r (Conditional rd a w v o) = without_others r
fits r (Exchange rd a w f o) = without_others r
fits r (Order before after mode) = without_any r
fits r _ = true

pub registers_fit : (i : Instr) (x : List ℕ) (pc : ℕ) → fits (registers_of i) (action i x pc) ≡ true
registers_fit Ecall x pc = refl
registers_fit _ x pc = refl

-- ---- what is known of them

abbrev pub IsKnown : ℕ → List (Option ℕ) → Carried → Type 0
IsKnown n v c = (r : ℕ) → r < 32 → reg c.registers r ≤ n → is_some (view v r) ≡ true

zero_known : (v : List (Option ℕ)) (r : ℕ) → (r == 0) ≡ true → is_some (view v r) ≡ true
zero_known v r e = subst (λ (k : ℕ). is_some (view v k) ≡ true) (sym (eqb-true r 0 e)) refl

pub some_or_none : (o : Option ℕ) → (is_some o ≡ true) ⊎ (o ≡ None)
some_or_none None = inr refl
some_or_none (Some x) = inl refl

-- a register is known, or depends on what is LATER
one_known : (n : ℕ) (v : List (Option ℕ)) (c : Carried) (r : ℕ) → r < 32 → IsKnown n v c → (is_some (view v r) ≡ true) ⊎ ((view v r ≡ None) × (n < reg c.registers r))
one_known n v c r small k = elim (some_or_none (view v r)) [
  | inl s ↦ inl s
  | inr none ↦ inr (
    none,
    (elim (cases_lt n (reg c.registers r)) [
      | inl l ↦ l
      | inr l ↦ let s = k r small l in let u : is_some (view v r) ≡ false = ap (λ o. is_some o) none in absurd (cc)
    ]),
  )
]

-- without other registers: all but the data is known where the address is
pub most_known : (n : ℕ) (v : List (Option ℕ)) (c : Carried) (x : Registers) → AreRegisters x → without_others x ≡ true → IsKnown n v c →
    KnowsButData x v ⊎ ((view v x.address ≡ None) × (n < reg c.registers x.address))
most_known n v c x fit only k =
    let p = and_parts (x.first == 0) (x.second == 0) only in
    elim (one_known n v c x.address fit.address k) [
      | inl s ↦ inl (record { address = s; first = zero_known v x.first p.0; second = zero_known v x.second p.1 })
      | inr l ↦ inr l
    ]

-- and its data is, or depends on what is LATER
pub data_known : (n : ℕ) (v : List (Option ℕ)) (c : Carried) (x : Registers) → AreRegisters x → IsKnown n v c →
    (is_some (view v x.value) ≡ true) ⊎ ((view v x.value ≡ None) × (n < reg c.registers x.value))
data_known n v c x fit k = one_known n v c x.value fit.value k

-- all is, or something depends on what is LATER
pub all_known : (n : ℕ) (v : List (Option ℕ)) (c : Carried) (x : Registers) → AreRegisters x → IsKnown n v c → Knows x v ⊎ ((Knows x v → ⊥) × (n < sources_bound c x))
all_known n v c x fit k = elim (one_known n v c x.address fit.address k) [
  | inr l ↦ inr (λ all. known_not _ all.but_data.address l.0, let q = l.1 in omega (arith, q))
  | inl a ↦ elim (one_known n v c x.value fit.value k) [
    | inr l ↦ inr (λ all. known_not _ all.value l.0, let q = l.1 in omega (arith, q))
    | inl b ↦ elim (one_known n v c x.first fit.first k) [
      | inr l ↦ inr (λ all. known_not _ all.but_data.first l.0, let q = l.1 in omega (arith, q))
      | inl d ↦ elim (one_known n v c x.second fit.second k) [
        | inr l ↦ inr (λ all. known_not _ all.but_data.second l.0, let q = l.1 in omega (arith, q))
        | inl e ↦ inl (record { but_data = record { address = a; first = d; second = e }; value = b })
      ]
    ]
  ]
]
  where
    known_not : (o : Option ℕ) → is_some o ≡ true → o ≡ None → ⊥
    known_not o s none = let u : is_some o ≡ false = ap (λ p. is_some p) none in cc

pub none_known : (v : List (Option ℕ)) (x : Registers) → without_any x ≡ true → Knows x v
none_known v x none =
    let p = and_parts (x.address == 0 && x.value == 0) (without_others x) none in
    let a = and_parts (x.address == 0) (x.value == 0) p.0 in
    let b = and_parts (x.first == 0) (x.second == 0) p.1 in
    record { but_data = record { address = zero_known v x.address a.0; first = zero_known v x.first b.0; second = zero_known v x.second b.1 }; value = zero_known v x.value a.1 }

-- an access without data
pub data_less : (v : List (Option ℕ)) (x : Registers) → (x.value == 0) ≡ true → KnowsButData x v → Knows x v
data_less v x zero k = record { but_data = k; value = zero_known v x.value zero }
