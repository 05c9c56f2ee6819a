-- What a move is that computes, jumps or branches.
use Rattle.std.proofs.Common.{◌≡◌, ℕ, ◌%◌, ◌==◌, ◌<◌, ◌&&◌, Bool, true, false, if◌then◌else◌, inl, inr, List, length, Option, Some, None, is_some, refl, sym, ap, ◌∙◌, subst, set, slice_index}
use Rattle.std.proofs.lemmas.Bool.{and_parts, cases_Bool, cases_eq, eq-eqb, ne_eqb}
use Rattle.std.proofs.lemmas.List.{get_or-set_same}
use Rattle.pages.specs.Memory.{Memory}
use Rattle.rv64_decode.specs.declared.instruction.Instr.{Instr}
use Rattle.rv64_decode.specs.declared.instruction.Instr.TheVariants.{Ecall, Fence}
use Rattle.rv64_decode.specs.declared.ordering.FenceMode.{FenceMode}
use Rattle.rv64_decode.specs.declared.ordering.FenceSet.{FenceSet}
use Rattle.hart_step.specs.declared.hart.Hart.{Hart}
use Rattle.hart_step.specs.Effect.{Action, Put, Jump, Branch, Order, action}
use Rattle.hart_step.specs.Numbers.{plus}
use Rattle.hart_step.specs.Registers.{reg, set_reg}
use Rattle.hart_step.specs.Step.{performed, put_to, stopped_by}
use Rattle.memory_order.specs.declared.registers.Registers.{Registers}
use Rattle.memory_order.specs.Registers.{registers_of}
use Rattle.all_endings.specs.HartRuns.{Acts, IsPlaced, acts, branches, calls, exchanges, exchanges-unknown, fails, jumps, orders, puts, puts-unknown, reads, reserves, stores, succeeds}
use Rattle.all_endings.specs.Locality.{DestinationsAreWritten, Knows, filled, set_view, view, without_data, written_register}
use Rattle.all_endings.specs.RunStates.{Move, RunState, answers_to}
use Rattle.all_endings.specs.StoreLists.{Stored}
use Rattle.run_bounds.specs.declared.operation.Operation.{Operation}
use Rattle.hart_moves.specs.Choosing.{ComputesSo, knows}
use Rattle.run_bounds.specs.Operations.{operation_in}
use Rattle.hart_states.proofs.Choices.{answers_elsewhere}
use Rattle.hart_moves.proofs.Inverting.{same_operation}

knows_all : (r : Registers) (v : List (Option ℕ)) → Knows r v → knows r v ≡ true
knows_all r v k =
    ap (λ (b : Bool). (b && is_some (view v r.value)) && (is_some (view v r.first) && is_some (view v r.second))) k.but_data.address
    ∙ ap (λ (b : Bool). b && (is_some (view v r.first) && is_some (view v r.second))) k.value
    ∙ ap (λ (b : Bool). b && is_some (view v r.second)) k.but_data.first ∙ k.but_data.second

all_known : (r : Registers) (v : List (Option ℕ)) → knows r v ≡ true → Knows r v
all_known r v e =
    let p = and_parts (is_some (view v r.address) && is_some (view v r.value)) (is_some (view v r.first) && is_some (view v r.second)) e in
    let q = and_parts (is_some (view v r.address)) (is_some (view v r.value)) p.0 in
    let s = and_parts (is_some (view v r.first)) (is_some (view v r.second)) p.1 in
    record { but_data = record { address = q.0; first = s.0; second = s.1 }; value = q.1 }

knows_less : (r : Registers) (v : List (Option ℕ)) → (Knows r v → ⊥) → knows r v ≡ false
knows_less r v n = elim (cases_Bool (knows r v)) [ inl e ↦ absurd (n (all_known r v e)) | inr e ↦ e ]

pub order_only : (i : Instr) (x : List ℕ) (pc : ℕ) (before after : FenceSet) (mode : FenceMode) → action i x pc ≡ Order before after mode → i ≡ Fence before after mode
order_only (Fence b a m) x pc before after mode e = cc
order_only Ecall x pc before after mode e = absurd (cc)
order_only _ x pc before after mode e = absurd (cc)

-- what a hart has in a register that it got a number for
pub put_same : (v : List (Option ℕ)) (x : List ℕ) (rd n : ℕ) (k : Bool) → rd < length x →
    set_view v rd (if k then Some (reg (set_reg x rd n) rd) else None) ≡ set_view v rd (if k then Some n else None)
put_same v x rd n k l = elim (cases_eq rd 0) [
  | inl e ↦ subst (λ (r : ℕ). set_view v r (if k then Some (reg (set_reg x r n) r) else None) ≡ set_view v r (if k then Some n else None)) (sym e) refl
  | inr d ↦ ap (λ (y : ℕ). set_view v rd (if k then Some y else None))
      (ap (λ (b : Bool). if b then 0 else slice_index (if b then x else set x rd n) rd) (ne_eqb rd 0 d) ∙ get_or-set_same x rd n 0 l)
]

module _ (image : Memory) (h : ℕ) (m : List Stored) (opening : ℕ → ℕ) (a : RunState) (v : Move) (law : DestinationsAreWritten) (other : v.instruction ≡ Ecall → ⊥)
    (no_fence : (before after : FenceSet) (mode : FenceMode) → v.instruction ≡ Fence before after mode → ⊥) (idle : operation_in (acts a v) ≡ None) where
  acts_there : (g : Hart) → g.x ≡ filled a.registers → g.pc ≡ a.pc → action v.instruction g.x g.pc ≡ acts a v
  acts_there g ex ep = ap (λ (y : List ℕ). action v.instruction y g.pc) ex ∙ ap (λ (p : ℕ). action v.instruction (filled a.registers) p) ep

  answers : (b : Action) (rd : ℕ) → acts a v ≡ b → written_register b ≡ rd → answers_to v.instruction ≡ rd
  answers b rd is at = answers_elsewhere v.instruction other ∙ sym (law v.instruction (filled a.registers) a.pc other) ∙ ap written_register is ∙ at

  operates_not : (b : Action) (o : Operation) → acts a v ≡ b → operation_in b ≡ Some o → ⊥
  operates_not b o is some = let d : operation_in (acts a v) ≡ operation_in b = ap operation_in is in cc

  stores_not : (b : Action) (o : Operation) → without_data (acts a v) ≡ b → operation_in b ≡ Some o → ⊥
  stores_not b o is some = let d : operation_in (without_data (acts a v)) ≡ operation_in b = ap operation_in is in let f = same_operation (acts a v) in cc

  known_result : (rd n : ℕ) (o : Option ℕ) (b : Bool) → knows (registers_of v.instruction) a.registers ≡ b → o ≡ (if b then Some n else None) →
      set_view a.registers rd o ≡ set_view a.registers rd (if knows (registers_of v.instruction) a.registers then Some n else None)
  known_result rd n o b e r = ap (λ (y : Option ℕ). set_view a.registers rd y) (r ∙ sym (ap (λ (c : Bool). if c then Some n else None) e))

  even_jump : (g : Hart) (rd target : ℕ) → target % 4 ≡ 0 → (if target % 4 == 0 then put_to g rd (plus g.pc 4) target else stopped_by g 4) ≡ put_to g rd (plus g.pc 4) target
  even_jump g rd target even = ap (λ (b : Bool). if b then put_to g rd (plus g.pc 4) target else stopped_by g 4) (eq-eqb (target % 4) 0 even)

  pub computes_so : Acts image h m opening (IsPlaced h m) a v → ComputesSo a v
  computes_so (puts rd n k is e r x) = record {
    register = rd;
    number = n;
    performs = λ g mem ex ep. ap (λ (b : Action). performed b g mem) (acts_there g ex ep ∙ is) ∙ ap (λ (p : ℕ). put_to g rd n (plus p 4)) ep ∙ ap (λ (p : ℕ). put_to g rd n p) (sym x);
    answers = answers (Put rd n) rd is refl;
    result = known_result rd n v.result true (knows_all (registers_of v.instruction) a.registers k) r;
    access = e;
  }
  computes_so (puts-unknown rd n k is e r x) = record {
    register = rd;
    number = n;
    performs = λ g mem ex ep. ap (λ (b : Action). performed b g mem) (acts_there g ex ep ∙ is) ∙ ap (λ (p : ℕ). put_to g rd n (plus p 4)) ep ∙ ap (λ (p : ℕ). put_to g rd n p) (sym x);
    answers = answers (Put rd n) rd is refl;
    result = known_result rd n v.result false (knows_less (registers_of v.instruction) a.registers k) r;
    access = e;
  }
  computes_so (jumps rd target k is even e r x) = record {
    register = rd;
    number = plus a.pc 4;
    performs = λ g mem ex ep. ap (λ (b : Action). performed b g mem) (acts_there g ex ep ∙ is) ∙ even_jump g rd target even
        ∙ ap (λ (p : ℕ). put_to g rd (plus p 4) target) ep ∙ ap (λ (p : ℕ). put_to g rd (plus a.pc 4) p) (sym x);
    answers = answers (Jump rd target) rd is refl;
    result = known_result rd (plus a.pc 4) v.result true (knows_all (registers_of v.instruction) a.registers k) r;
    access = e;
  }
  computes_so (branches true target k is even e x) = record {
    register = 0;
    number = plus a.pc 4;
    performs = λ g mem ex ep. ap (λ (b : Action). performed b g mem) (acts_there g ex ep ∙ is) ∙ even_jump g 0 target (even refl)
        ∙ ap (λ (p : ℕ). put_to g 0 (plus p 4) target) ep ∙ ap (λ (p : ℕ). put_to g 0 (plus a.pc 4) p) (sym x);
    answers = answers (Branch true target) 0 is refl;
    result = refl;
    access = e;
  }
  computes_so (branches false target k is even e x) = record {
    register = 0;
    number = 0;
    performs = λ g mem ex ep. ap (λ (b : Action). performed b g mem) (acts_there g ex ep ∙ is) ∙ ap (λ (p : ℕ). put_to g 0 0 (plus p 4)) ep ∙ ap (λ (p : ℕ). put_to g 0 0 p) (sym x);
    answers = answers (Branch false target) 0 is refl;
    result = refl;
    access = e;
  }
  computes_so (orders before after mode is e x) = absurd (no_fence before after mode (order_only v.instruction (filled a.registers) a.pc before after mode is))
  computes_so (reads rd address w signed number k is safe e g r x) = absurd (operates_not _ _ is refl)
  computes_so (stores address w k is safe e d p x) = absurd (stores_not _ _ is refl)
  computes_so (reserves rd address w o number k is safe e g r x) = absurd (operates_not _ _ is refl)
  computes_so (fails rd address w o k is safe e r x) = absurd (stores_not _ _ is refl)
  computes_so (succeeds rd address w o k is safe e d held reserved p unbroken r x) = absurd (stores_not _ _ is refl)
  computes_so (exchanges rd address w f o number k is safe e g r d p x) = absurd (operates_not _ _ is refl)
  computes_so (exchanges-unknown rd address w o k none is safe e g r d x) = absurd (stores_not _ _ is refl)
  computes_so (calls number answer ecall at nonzero answered e r x) = absurd (other ecall)
