-- Moves without memory operations: what computes, jumps and branches, fences and calls.
use Rattle.std.proofs.Common.{◌≡◌, ◌≢◌, ℕ, ◌%◌, ◌<◌, ◌||◌, ◌⊎◌, Bool, true, false, if◌then◌else◌, List, slice_index_or, Option, Some, None, is_some, refl, sym, ap, ◌∙◌, inl, inr, subst}
use Rattle.std.proofs.lemmas.Bool.{and_parts}
use Rattle.rv64_decode.specs.declared.instruction.Instr.{Instr}
use Rattle.rv64_decode.specs.declared.instruction.Instr.TheVariants.{Ecall}
use Rattle.rv64_decode.specs.declared.ordering.FenceMode.{FenceMode}
use Rattle.rv64_decode.specs.declared.ordering.FenceSet.{FenceSet}
use Rattle.round_schedule.specs.declared.access.Access.{Access}
use Rattle.round_schedule.specs.declared.access.Access.TheVariants.{Fence}
use Rattle.round_schedule.specs.declared.span.Span.{Span}
use Rattle.round_schedule.specs.Accesses.{loads, stores, written_of}
use Rattle.round_schedule.specs.Positions.{event}
use Rattle.hart_step.specs.declared.hart.Hart.{Hart}
use Rattle.hart_step.specs.Effect.{Action, Put, Jump, Branch, Order, Call, action}
use Rattle.hart_step.specs.Numbers.{plus}
use Rattle.hart_step.specs.Registers.{reg, set_reg}
use Rattle.hart_step.specs.Step.{next_pc, went_on}
use Rattle.memory_order.specs.Operations.{covers, is_operation, is_store}
use Rattle.memory_order.specs.Dependencies.{has_failed}
use Rattle.memory_order.proofs.Facts.{or_cases}
use Rattle.memory_order.specs.Registers.{registers_of}
use Rattle.rule_checker.specs.CarriedBounds.{AreRegisters, destination_with, result_bound, sources_bound}
use Rattle.execution.specs.Executions.{no_access}
use Rattle.all_endings.specs.Endings.{opening_bytes}
use Rattle.all_endings.specs.HartRuns.{Acts, IsPlaced, branches, calls, jumps, orders, puts, puts-unknown, IsAnswer}
use Rattle.all_endings.specs.Locality.{Knows, filled, view, written_register}
use Rattle.all_endings.specs.RunStates.{Move, RunState, answers_to, bare, behind, operates}
use Rattle.all_endings.proofs.Following.{Follows, Setting, after, list, time}
use Rattle.all_endings.proofs.Locality.{not_both, some_value}
use Rattle.all_endings.proofs.Moves.{Moves, MovesOrBlocks, acts_all, answers_small, blocked-call, blocked-target, carried_bound, destination_of, registers_are, registers_fit_at, writes_to}
use Rattle.all_endings.proofs.OwnSteps.{operates_as}
use Rattle.all_endings.proofs.SourceRegisters.{all_known, fits, none_known, registers_fit, without_any}
use Rattle.all_endings.proofs.StepTimes.{behind_other}

-- whether an action puts a number into a register, and whether it is a call: of an instruction, whatever registers hold
abbrev pub is_put : Action → Bool
is_put (Put rd v) = true
is_put _ = false

abbrev is_call : Action → Bool
is_call Call = true
is_call _ = false

pub puts_alike : (instr : Instr) (x y : List ℕ) (pc qc : ℕ) → is_put (action instr x pc) ≡ is_put (action instr y qc)
puts_alike Ecall x y pc qc = refl
puts_alike _ x y pc qc = refl

pub put_of : (b : Action) → is_put b ≡ true → (rd : ℕ) × (n : ℕ) × (b ≡ Put rd n)
put_of (Put rd n) e = (rd, n, refl)
put_of _ e = absurd (cc)

calls_only : (instr : Instr) (x : List ℕ) (pc : ℕ) → is_call (action instr x pc) ≡ true → instr ≡ Ecall
calls_only Ecall x pc e = refl
calls_only _ x pc e = absurd (cc)

-- an access that is no memory operation
abbrev pub IsIdle : Access → Type 0
IsIdle y = (loads y ≡ false) × (stores y ≡ false) × (written_of y ≡ None)

abbrev pub idle_of : Setting → ℕ → Instr → Option ℕ → ℕ → Move
idle_of s i instr result next = record {
  instruction = instr;
  access = bare (event s.t i).access;
  time = time s i;
  result = result;
  written = None;
  source = λ x. 0;
  next = next;
}

-- what rd gets is known, or depends on what is LATER
abbrev pub IsGiven : Setting → RunState → Move → Type 0
IsGiven s a v = (is_some v.result ≡ true) ⊎
    ((answers_to v.instruction ≡ destination_with (registers_of v.instruction) v.access) ×
    (s.n < result_bound a.carried (registers_of v.instruction) (operates v) (behind (list s) v)))

pub idle_moves : (s : Setting) (h i : ℕ) (held : Option Span) (a : RunState) (k j : Hart) (instr : Instr) (y : Access) (result : Option ℕ) (number next : ℕ) →
    (event s.t i).hart ≡ h →
    slice_index_or s.is i Ecall ≡ instr → (event s.t i).access ≡ y → IsIdle y → ((m : ℕ) → result ≡ Some m → number ≡ m) → j.x ≡ set_reg k.x (answers_to instr) number →
    next ≡ j.pc →
    IsGiven s a (idle_of s i instr result next) → Acts s.image h (list s) (opening_bytes s.image) (IsPlaced h (list s)) a (idle_of s i instr result next) → Moves s h i a k j instr
idle_moves s h i held a k j instr y result number next here inst e idle got changes to given doing = record {
  move = idle_of s i instr result next;
  instruction = refl;
  acts = doing;
  stands = λ op. let q : is_operation (event s.t i) ≡ true = sym (operates_as s i (idle_of s i instr result next) refl) ∙ op in
      let none : is_operation (event s.t i) ≡ false = ap (λ (z : Access). loads z || stores z) e ∙ ap (λ (b : Bool). b || stores y) idle.0 ∙ idle.1 in
      absurd (cc);
  matches = record {
    hart = here;
    registers = registers_are s i instr inst;
    access = refl;
    passed = behind_other s i (idle_of s i instr result next) refl (ap stores e ∙ idle.1) refl;
    listed = λ store l. let dry : stores (event s.t i).access ≡ false = ap stores e ∙ idle.1 in absurd (cc);
    next = to;
    number = number;
    result = got;
    changes = changes;
    answered = answers_small instr (registers_fit_at s i instr inst);
    known = given;
    written = inl (sym (ap written_of e ∙ idle.2));
    source = λ x u r source. let none : loads (event s.t i).access ≡ false = ap loads e ∙ idle.0 in
        let some : loads (event s.t i).access ≡ true = (and_parts (loads (event s.t i).access) (covers (event s.t i).access x) r).0 in absurd (cc);
  };
}

no_access_idle : IsIdle no_access
no_access_idle = (refl, refl, refl)

module _ (s : Setting) (h i : ℕ) (held : Option Span) (a : RunState) (k j : Hart) (instr : Instr) (follows : Follows s h i held a k) (here : (event s.t i).hart ≡ h)
    (inst : slice_index_or s.is i Ecall ≡ instr) where
  fitting : AreRegisters (registers_of instr)
  fitting = registers_fit_at s i instr inst

  refines : (r n : ℕ) → view a.registers r ≡ Some n → reg k.x r ≡ n
  refines = follows.lags.registers

  following : plus a.pc 4 ≡ next_pc k
  following = ap (λ (p : ℕ). plus p 4) follows.lags.pc

  -- a number that rd gets, where the rest is known
  changed : (rd number pc : ℕ) (b : Action) → j ≡ went_on k rd number pc → action instr k.x k.pc ≡ b → (b ≢ Call) → written_register b ≡ rd →
      j.x ≡ set_reg k.x (answers_to instr) number
  changed rd number pc b e is other at = ap (λ (g : Hart). g.x) e ∙ ap (λ (d : ℕ). set_reg k.x d number) (sym at ∙ writes_to instr k.x k.pc b is other)

  pc_is : (rd number pc : ℕ) → j ≡ went_on k rd number pc → pc ≡ j.pc
  pc_is rd number pc e = sym (ap (λ (g : Hart). g.pc) e)

  pub put_moves : (rd number : ℕ) → (event s.t i).access ≡ no_access → action instr k.x k.pc ≡ Put rd number → j ≡ went_on k rd number (next_pc k) → MovesOrBlocks s h i a k j instr
  put_moves rd number e is g = inl (elim (all_known s.n a.registers a.carried (registers_of instr) fitting follows.known) [
    | inl all ↦ idle_moves s h i held a k j instr no_access (Some number) number (plus a.pc 4) here inst e no_access_idle (some_value number)
        (changed rd number (next_pc k) (Put rd number) g is (λ q. cc) refl) (following ∙ pc_is rd number (next_pc k) g) (inl refl)
        (puts rd number all (acts_all instr a k follows.lags.pc refines all ∙ is) (ap bare e) refl refl)
    | inr late ↦
        let class = ap is_put is in
        let p = put_of (action instr (filled a.registers) a.pc) (puts_alike instr (filled a.registers) k.x a.pc k.pc ∙ class) in
        idle_moves s h i held a k j instr no_access None number (plus a.pc 4) here inst e no_access_idle (λ m q. absurd (not_both m None refl q))
        (changed rd number (next_pc k) (Put rd number) g is (λ q. cc) refl) (following ∙ pc_is rd number (next_pc k) g)
        (inr (
          destination_of instr k.x k.pc (Put rd number) is (λ q. cc) ∙ sym (ap (λ (y : Access). if has_failed y then 0 else (registers_of instr).destination) (ap bare e)),
          carried_bound s.n _ (registers_of instr).carries (sources_bound a.carried (registers_of instr)) (carries is late.0) late.1,
        ))
        (puts-unknown p.0 p.1 late.0 p.2 (ap bare e) refl refl)
  ])
    where
      carries : action instr k.x k.pc ≡ Put rd number → (Knows (registers_of instr) a.registers → ⊥) → (registers_of instr).carries ≡ true
      carries q unknown = elim (or_cases (registers_of instr).carries (without_any (registers_of instr)) (sym (ap (fits (registers_of instr)) q) ∙ registers_fit instr k.x k.pc)) [
        | inl c ↦ c
        | inr none ↦ absurd (unknown (none_known a.registers (registers_of instr) none))
      ]

  not_store : (y : Access) → (event s.t i).access ≡ y → stores y ≡ false → is_store (event s.t i) ≡ false
  not_store y e d = ap stores e ∙ d

  pub jump_moves : (rd target : ℕ) → (event s.t i).access ≡ no_access → action instr k.x k.pc ≡ Jump rd target → target % 4 ≡ 0 → j ≡ went_on k rd (next_pc k) target →
      MovesOrBlocks s h i a k j instr
  jump_moves rd target e is even g = elim (all_known s.n a.registers a.carried (registers_of instr) fitting follows.known) [
    | inl all ↦ inl (idle_moves s h i held a k j instr no_access (Some (plus a.pc 4)) (next_pc k) target here inst e no_access_idle (λ m q. sym following ∙ some_value (plus a.pc 4) m q)
        (changed rd (next_pc k) target (Jump rd target) g is (λ q. cc) refl) (pc_is rd (next_pc k) target g) (inl refl)
        (jumps rd target all (acts_all instr a k follows.lags.pc refines all ∙ is) even (ap bare e) refl refl))
    | inr late ↦ inr (blocked-target (elim (or_cases (registers_of instr).steers (without_any (registers_of instr)) (sym (ap (fits (registers_of instr)) is) ∙ registers_fit instr k.x k.pc)) [
      | inl c ↦ c
      | inr none ↦ absurd (late.0 (none_known a.registers (registers_of instr) none))
    ]) late.0 late.1 (not_store no_access e refl))
  ]

  pub branch_moves : (taken : Bool) (target : ℕ) → (event s.t i).access ≡ no_access → action instr k.x k.pc ≡ Branch taken target → (taken ≡ true → target % 4 ≡ 0) →
      j ≡ went_on k 0 0 (if taken then target else next_pc k) → MovesOrBlocks s h i a k j instr
  branch_moves taken target e is even g = elim (all_known s.n a.registers a.carried (registers_of instr) fitting follows.known) [
    | inl all ↦ inl (idle_moves s h i held a k j instr no_access (Some 0) 0 (if taken then target else plus a.pc 4) here inst e no_access_idle (some_value 0)
        (changed 0 0 (if taken then target else next_pc k) (Branch taken target) g is (λ q. cc) refl)
        (ap (λ (p : ℕ). if taken then target else p) following ∙ pc_is 0 0 (if taken then target else next_pc k) g) (inl refl)
        (branches taken target all (acts_all instr a k follows.lags.pc refines all ∙ is) even (ap bare e) refl))
    | inr late ↦ inr (blocked-target (sym (ap (fits (registers_of instr)) is) ∙ registers_fit instr k.x k.pc) late.0 late.1 (not_store no_access e refl))
  ]

  pub order_moves : (before after : FenceSet) (mode : FenceMode) → (event s.t i).access ≡ Fence before after mode k.done → action instr k.x k.pc ≡ Order before after mode →
      j ≡ went_on k 0 0 (next_pc k) → MovesOrBlocks s h i a k j instr
  order_moves before after mode e is g =
      let all = none_known a.registers (registers_of instr) (sym (ap (fits (registers_of instr)) is) ∙ registers_fit instr k.x k.pc) in
      inl (idle_moves s h i held a k j instr (Fence before after mode k.done) (Some 0) 0 (plus a.pc 4) here inst e (refl, refl, refl) (some_value 0)
      (changed 0 0 (next_pc k) (Order before after mode) g is (λ q. cc) refl) (following ∙ pc_is 0 0 (next_pc k) g) (inl refl)
      (orders before after mode (acts_all instr a k follows.lags.pc refines all ∙ is) (ap bare e) refl))

  pub call_moves : (answer : ℕ) → (event s.t i).access ≡ no_access → action instr k.x k.pc ≡ Call → reg k.x 17 ≢ 0 → IsAnswer (reg k.x 17) answer →
      j ≡ went_on k 10 answer (next_pc k) → MovesOrBlocks s h i a k j instr
  call_moves answer e is nonzero answered g =
      let ecall : instr ≡ Ecall = calls_only instr k.x k.pc (ap is_call is) in
      by_number (view a.registers 17) refl ecall
    where
      by_number : (o : Option ℕ) → view a.registers 17 ≡ o → instr ≡ Ecall → MovesOrBlocks s h i a k j instr
      by_number None at ecall = inr (blocked-call ecall at)
      by_number (Some number) at ecall = inl (idle_moves s h i held a k j instr no_access (Some answer) answer (plus a.pc 4) here inst e no_access_idle (some_value answer)
          (ap (λ (q : Hart). q.x) g ∙ ap (λ (y : Instr). set_reg k.x (answers_to y) answer) (sym ecall)) (following ∙ pc_is 10 answer (next_pc k) g) (inl refl)
          (calls number answer ecall at (λ z. nonzero (refines 17 number at ∙ z)) (subst (λ (m : ℕ). IsAnswer m answer) (refines 17 number at) answered) (ap bare e) refl refl))
