-- What a move of a fence or of a call is.
use Rattle.std.proofs.Common.{◌≡◌, ◌≢◌, ℕ, ◌==◌, ◌||◌, Bool, true, false, if◌then◌else◌, inl, inr, List, Option, Some, refl, sym, ap, ◌∙◌}
use Rattle.std.proofs.lemmas.Bool.{cases_eq, eq-eqb, ne_eqb}
use Rattle.hart_step.specs.Console.{all_ones}
use Rattle.pages.specs.Memory.{Memory}
use Rattle.round_schedule.specs.declared.access.Access.TheVariants.{Fence as FenceOf}
use Rattle.rv64_decode.specs.declared.instruction.Instr.{Instr}
use Rattle.rv64_decode.specs.declared.instruction.Instr.TheVariants.{Ecall, Fence}
use Rattle.rv64_decode.specs.declared.ordering.FenceMode.{FenceMode}
use Rattle.rv64_decode.specs.declared.ordering.FenceSet.{FenceSet}
use Rattle.hart_step.specs.Effect.{Action, Call, Order, action}
use Rattle.all_endings.specs.HartRuns.{Acts, IsAnswer, acts, branches, calls, exchanges, exchanges-unknown, fails, jumps, orders, puts, puts-unknown, reads, reserves, stores, succeeds}
use Rattle.all_endings.specs.Locality.{filled, without_data}
use Rattle.all_endings.specs.RunStates.{Move, RunState}
use Rattle.all_endings.specs.StoreLists.{Stored}
use Rattle.hart_moves.specs.Choosing.{CallsSo, OrdersSo, answer_of}
use Rattle.hart_moves.specs.Moves.{has_any_answer}

module _ (image : Memory) (h : ℕ) (m : List Stored) (opening : ℕ → ℕ) (HasPlace : Move → Type 0) (a : RunState) (v : Move) where
  other_action : (b c : Action) → acts a v ≡ b → acts a v ≡ c → b ≡ c
  other_action b c is there = sym is ∙ there

  other_store : (b c : Action) → without_data (acts a v) ≡ b → acts a v ≡ c → b ≡ without_data c
  other_store b c is there = sym is ∙ ap without_data there

  module _ (before after : FenceSet) (mode : FenceMode) (same : v.instruction ≡ Fence before after mode) where
    order_there : acts a v ≡ Order before after mode
    order_there = ap (λ (i : Instr). action i (filled a.registers) a.pc) same

    same_fence : (b c : FenceSet) (d : FenceMode) → Order b c d ≡ Order before after mode → FenceOf b c d 0 ≡ FenceOf before after mode 0
    same_fence b c d e = cc

    pub orders_so : Acts image h m opening HasPlace a v → OrdersSo before after mode a v
    orders_so (puts rd n k is y r x) = absurd (let e = other_action _ _ is order_there in cc)
    orders_so (puts-unknown rd n k is y r x) = absurd (let e = other_action _ _ is order_there in cc)
    orders_so (jumps rd target k is even y r x) = absurd (let e = other_action _ _ is order_there in cc)
    orders_so (branches taken target k is even y x) = absurd (let e = other_action _ _ is order_there in cc)
    orders_so (orders b c d is y x) = record { access = y ∙ same_fence b c d (other_action _ _ is order_there); next = x }
    orders_so (reads rd address w signed number k is safe y g r x) = absurd (let e = other_action _ _ is order_there in cc)
    orders_so (stores address w k is safe y d p x) = absurd (let e = other_store _ _ is order_there in cc)
    orders_so (reserves rd address w ordering number k is safe y g r x) = absurd (let e = other_action _ _ is order_there in cc)
    orders_so (fails rd address w ordering k is safe y r x) = absurd (let e = other_store _ _ is order_there in cc)
    orders_so (succeeds rd address w ordering k is safe y d held reserved p unbroken r x) = absurd (let e = other_store _ _ is order_there in cc)
    orders_so (exchanges rd address w f ordering number k is safe y g r d p x) = absurd (let e = other_action _ _ is order_there in cc)
    orders_so (exchanges-unknown rd address w ordering k none is safe y g r d x) = absurd (let e = other_store _ _ is order_there in cc)
    orders_so (calls number answer ecall at nonzero answered y r x) = absurd (let e : Ecall ≡ Fence before after mode = sym ecall ∙ same in cc)

  module _ (same : v.instruction ≡ Ecall) where
    call_there : acts a v ≡ Call
    call_there = ap (λ (i : Instr). action i (filled a.registers) a.pc) same

    pub calls_so : Acts image h m opening HasPlace a v → CallsSo a v
    calls_so (puts rd n k is y r x) = absurd (let e = other_action _ _ is call_there in cc)
    calls_so (puts-unknown rd n k is y r x) = absurd (let e = other_action _ _ is call_there in cc)
    calls_so (jumps rd target k is even y r x) = absurd (let e = other_action _ _ is call_there in cc)
    calls_so (branches taken target k is even y x) = absurd (let e = other_action _ _ is call_there in cc)
    calls_so (orders before after mode is y x) = absurd (let e = other_action _ _ is call_there in cc)
    calls_so (reads rd address w signed number k is safe y g r x) = absurd (let e = other_action _ _ is call_there in cc)
    calls_so (stores address w k is safe y d p x) = absurd (let e = other_store _ _ is call_there in cc)
    calls_so (reserves rd address w ordering number k is safe y g r x) = absurd (let e = other_action _ _ is call_there in cc)
    calls_so (fails rd address w ordering k is safe y r x) = absurd (let e = other_store _ _ is call_there in cc)
    calls_so (succeeds rd address w ordering k is safe y d held reserved p unbroken r x) = absurd (let e = other_store _ _ is call_there in cc)
    calls_so (exchanges rd address w f ordering number k is safe y g r d p x) = absurd (let e = other_action _ _ is call_there in cc)
    calls_so (exchanges-unknown rd address w ordering k none is safe y g r d x) = absurd (let e = other_store _ _ is call_there in cc)
    calls_so (calls number answer ecall at nonzero answered y r x) =
        record { number = number; at = at; nonzero = nonzero; answer = answer; answered = answered; access = y; result = r; next = x }

-- ---- answers

not_any : (n : ℕ) → has_any_answer (Some n) ≡ false → (n ≢ 2) × (n ≢ 3)
not_any n e = (
  λ two. let d : (n == 2) ≡ true = ap (λ (k : ℕ). k == 2) two in let f : ((n == 2) || (n == 3)) ≡ true = ap (λ (b : Bool). b || (n == 3)) d in cc,
  λ three. let d : (n == 3) ≡ true = ap (λ (k : ℕ). k == 3) three in let f = or_right (n == 2) (n == 3) d in cc,
)
  where
    or_right : (a b : Bool) → b ≡ true → (a || b) ≡ true
    or_right true b e = refl
    or_right false b e = e

-- the one answer of a call that may have no other
pub answer_is : (number answer : ℕ) (o : Option ℕ) → o ≡ Some number → has_any_answer o ≡ false → IsAnswer number answer → answer ≡ answer_of number
answer_is number answer o at none answered = elim (cases_eq number 1) [
  | inl one ↦ answered.0 one ∙ sym (ap (λ (b : Bool). if b then 0 else all_ones) (eq-eqb number 1 one))
  | inr other ↦
      let d = not_any number (sym (ap has_any_answer at) ∙ none) in
      answered.1 other d.0 d.1 ∙ sym (ap (λ (b : Bool). if b then 0 else all_ones) (ne_eqb number 1 other))
]
