-- Where a run breaks off, its hart stores nothing more among the first stores: by the rules 9, 11 and 13.
use Rattle.std.proofs.Common.{◌≡◌, ℕ, zero, suc, ◌<◌, ◌≤◌, ◌==◌, max, Bool, true, false, if◌then◌else◌, Option, sym, ap, ◌∙◌, subst, inl, inr, arith}
use Rattle.std.proofs.lemmas.Bool.{cases_eq, eq-eqb}
use Rattle.rv64_decode.specs.declared.instruction.Instr.{Instr}
use Rattle.round_schedule.specs.declared.event.Event.{Event}
use Rattle.round_schedule.specs.declared.span.Span.{Span}
use Rattle.round_schedule.specs.Positions.{event}
use Rattle.hart_step.specs.declared.hart.Hart.{Hart}
use Rattle.hart_step.specs.Registers.{reg}
use Rattle.memory_order.specs.Operations.{is_store}
use Rattle.memory_order.specs.declared.registers.Registers.{Registers}
use Rattle.memory_order.specs.Dependencies.{registers_at}
use Rattle.memory_order.specs.Registers.{registers_of}
use Rattle.memory_order.proofs.Facts.{store_is_operation}
use Rattle.rule_checker.specs.CarriedBounds.{carried_after, sources_bound}
use Rattle.rule_checker.specs.declared.carried.Carried.{Carried}
use Rattle.all_endings.specs.RunStates.{RunState}
use Rattle.all_endings.proofs.Following.{Follows, Setting, after, carried_at_index, time}
use Rattle.all_endings.proofs.StepTimes.{in_time}

raised : (c : Bool) (u v : ℕ) → u ≤ (if c then max u v else u)
raised true u v = omega arith
raised false u v = omega arith

raised_to : (c : Bool) (u v : ℕ) → c ≡ true → v ≤ (if c then max u v else u)
raised_to true u v e = omega arith
raised_to false u v e = absurd (cc)

one_rises : (c : Bool) (x : Carried) (r : Registers) (e : Event) (n : ℕ) →
    (x.steered ≤ (if c then carried_after x r e n else x).steered) × (x.addressed ≤ (if c then carried_after x r e n else x).addressed)
one_rises true x r e n = (raised r.steers x.steered (sources_bound x r), omega arith)
one_rises false x r e n = (omega arith, omega arith)

abbrev Rises : Setting → ℕ → ℕ → ℕ → Type 0
Rises s h i b = ((carried_at_index s h i).steered ≤ (carried_at_index s h b).steered) × ((carried_at_index s h i).addressed ≤ (carried_at_index s h b).addressed)

same_rises : (s : Setting) (h i b : ℕ) → i ≡ b → Rises s h i b
same_rises s h i b e = subst (Rises s h i) e (omega arith, omega arith)

bounds_rise : (s : Setting) (h i b : ℕ) → i ≤ b → Rises s h i b
bounds_rise s h i zero l = same_rises s h i zero (omega (arith, l))
bounds_rise s h i (suc b) l = elim (cases_eq i (suc b)) [
  | inl e ↦ same_rises s h i (suc b) e
  | inr other ↦
      let r = bounds_rise s h i b (omega (arith, l, other)) in
      let o = one_rises (h == (event s.t b).hart) (carried_at_index s h b) (registers_at s.is b) (event s.t b) (after s b) in
      (let p = r.0 in let q = o.0 in omega (arith, p, q), let p = r.1 in let q = o.1 in omega (arith, p, q))
]

here_rises : (c : Bool) (x : Carried) (r : Registers) (e : Event) (n : ℕ) → c ≡ true →
    (r.steers ≡ true → sources_bound x r ≤ (if c then carried_after x r e n else x).steered) × (reg x.registers r.address ≤ (if c then carried_after x r e n else x).addressed)
here_rises true x r e n at = (λ steers. raised_to r.steers x.steered (sources_bound x r) steers, omega arith)
here_rises false x r e n at = absurd (cc)

module _ (s : Setting) (h i : ℕ) (held : Option Span) (a : RunState) (k : Hart) (instr : Instr) (follows : Follows s h i held a k) (here : (event s.t i).hart ≡ h) (regs : registers_of instr ≡ registers_at s.is i) where
  at_here : ((registers_at s.is i).steers ≡ true → sources_bound (carried_at_index s h i) (registers_at s.is i) ≤ (carried_at_index s h (suc i)).steered) ×
      (reg (carried_at_index s h i).registers (registers_at s.is i).address ≤ (carried_at_index s h (suc i)).addressed)
  at_here = here_rises (h == (event s.t i).hart) (carried_at_index s h i) (registers_at s.is i) (event s.t i) (after s i) (eq-eqb h (event s.t i).hart (sym here))

  pub target_later : (registers_of instr).steers ≡ true → s.n < sources_bound a.carried (registers_of instr) → is_store (event s.t i) ≡ false →
      (b : ℕ) → i ≤ b → (event s.t b).hart ≡ h → is_store (event s.t b) ≡ true → s.n < time s b
  target_later steers late dry b l at store = elim (cases_eq i b) [
    | inl e ↦ let q : is_store (event s.t i) ≡ true = ap (λ (j : ℕ). is_store (event s.t j)) e ∙ store in absurd (cc)
    | inr other ↦
        let st = in_time s b (store_is_operation (event s.t b) store) in
        let q = (st.carried.1 store).1 in
        let e : (carried_at_index s (event s.t b).hart b).steered ≡ (carried_at_index s h b).steered = ap (λ (y : ℕ). (carried_at_index s y b).steered) at in
        let r = (bounds_rise s h (suc i) b (omega (arith, l, other))).0 in
        let p = at_here.0 (ap (λ (x : Registers). x.steers) (sym regs) ∙ steers) in
        let d : sources_bound a.carried (registers_of instr) ≡ sources_bound (carried_at_index s h i) (registers_at s.is i) =
        ap (λ (x : Carried). sources_bound x (registers_of instr)) follows.carried ∙ ap (sources_bound (carried_at_index s h i)) regs in
        omega (arith, q, e, r, p, d, late)
  ]

  pub address_later : s.n < reg a.carried.registers (registers_of instr).address →
      (b : ℕ) → i ≤ b → (event s.t b).hart ≡ h → is_store (event s.t b) ≡ true → s.n < time s b
  address_later late b l at store =
      let d : reg a.carried.registers (registers_of instr).address ≡ reg (carried_at_index s h i).registers (registers_at s.is i).address =
      ap (λ (x : Carried). reg x.registers (registers_of instr).address) follows.carried ∙ ap (λ (x : Registers). reg (carried_at_index s h i).registers x.address) regs in
      let st = in_time s b (store_is_operation (event s.t b) store) in
      elim (cases_eq i b) [
        | inl e ↦
            let q = st.carried.0 in
            let f : reg (carried_at_index s (event s.t b).hart b).registers (registers_at s.is b).address ≡ reg (carried_at_index s h i).registers (registers_at s.is i).address =
            ap (λ (y : ℕ). reg (carried_at_index s y b).registers (registers_at s.is b).address) at ∙ ap (λ (y : ℕ). reg (carried_at_index s h y).registers (registers_at s.is y).address) (sym e) in
            omega (arith, q, f, d, late)
        | inr other ↦
            let q = (st.carried.1 store).2 in
            let e : (carried_at_index s (event s.t b).hart b).addressed ≡ (carried_at_index s h b).addressed = ap (λ (y : ℕ). (carried_at_index s y b).addressed) at in
            let r = (bounds_rise s h (suc i) b (omega (arith, l, other))).1 in
            let p = at_here.1 in
            omega (arith, q, e, r, p, d, late)
      ]
