-- What a move is, by the action of its instruction.
use Rattle.std.proofs.Common.{◌≡◌, ℕ, ◌*◌, ◌/◌, ◌⊎◌, Bool, true, false, if◌then◌else◌, inl, inr, List, Option, Some, None, is_some, refl, sym, ap, ◌∙◌, subst}
use Rattle.pages.specs.Memory.{Memory}
use Rattle.round_schedule.specs.declared.access.Access.{Access}
use Rattle.round_schedule.specs.Accesses.{is_sc, loads}
use Rattle.round_schedule.specs.Accesses.{stores as writing}
use Rattle.rv64_decode.specs.declared.instruction.Instr.{Instr}
use Rattle.rv64_decode.specs.declared.instruction.Instr.TheVariants.{Ecall, Fence as FenceWord, Jal, Jalr, Beq, Bne, Blt, Bge, Bltu, Bgeu}
use Rattle.rv64_decode.specs.declared.ordering.FenceMode.{FenceMode}
use Rattle.rv64_decode.specs.declared.ordering.FenceSet.{FenceSet}
use Rattle.hart_step.specs.Effect.{Action, Put, Jump, Branch, Write, Order, Halt, Conditional, Exchange, Call, action}
use Rattle.hart_step.specs.Numbers.{plus}
use Rattle.hart_step.specs.Registers.{reg}
use Rattle.memory_order.specs.Registers.{registers_of}
use Rattle.all_endings.specs.HartRuns.{Acts, IsPlaced, acts, branches, calls, exchanges, exchanges-unknown, fails, jumps, orders, puts, puts-unknown, reads, reserves, succeeds}
use Rattle.all_endings.specs.HartRuns.{stores as stores_it}
use Rattle.all_endings.specs.Locality.{KnowsButData, filled, view, without_data}
use Rattle.all_endings.specs.RunStates.{Move, RunState}
use Rattle.all_endings.specs.StoreLists.{Stored}
use Rattle.all_endings.proofs.Locality.{filled_refines}
use Rattle.hart_moves.proofs.Computes.{order_only}
use Rattle.private_bytes.specs.PrivateMoves.{ActsApart, keeps, recalls, shares}
use Rattle.early_reads.specs.declared.flow.Flow.{Flow}
use Rattle.early_reads.specs.declared.flow.Flow.TheVariants.{On, Jump as JumpBy, Turn, Branch as BranchBy}
use Rattle.early_reads.specs.EarlyMaps.{Agrees}
use Rattle.early_reads.specs.Flows.{FailsThere, HoldsOperands, IsPut, MovesFrom, access_in, flow_of, number_in}

-- ---- actions

-- where an action leads
abbrev pub next_in : ℕ → Action → ℕ
next_in pc (Jump rd target) = target
next_in pc (Branch taken target) = if taken then target else plus pc 4
next_in pc _ = plus pc 4

-- it has no move where its operands are unknown
abbrev pub needs_operands : Action → Bool
needs_operands (Put rd n) = false
needs_operands (Order before after mode) = false
needs_operands (Halt n) = false
needs_operands Call = false
needs_operands _ = true

next_data : (pc : ℕ) (b : Action) → next_in pc (without_data b) ≡ next_in pc b
next_data pc (Write a w v) = refl
next_data pc (Conditional rd a w v o) = refl
next_data pc (Exchange rd a w f o) = refl
next_data pc _ = refl

pub access_data : (b : Action) → access_in (without_data b) ≡ access_in b
access_data (Write a w v) = refl
access_data (Conditional rd a w v o) = refl
access_data (Exchange rd a w f o) = refl
access_data _ = refl

needs_data : (b : Action) → needs_operands (without_data b) ≡ needs_operands b
needs_data (Write a w v) = refl
needs_data (Conditional rd a w v o) = refl
needs_data (Exchange rd a w f o) = refl
needs_data _ = refl

number_data : (pc : ℕ) (b : Action) → number_in pc (without_data b) ≡ number_in pc b
number_data pc (Write a w v) = refl
number_data pc (Conditional rd a w v o) = refl
number_data pc (Exchange rd a w f o) = refl
number_data pc _ = refl

-- ---- moves

-- what is known of a move
pub record IsOf (a : RunState) (v : Move) : Type 0 where
  pub next : v.next ≡ next_in a.pc (acts a v)
  pub access : (v.access ≡ access_in (acts a v)) ⊎ FailsThere v.access (access_in (acts a v))
  pub knows : needs_operands (acts a v) ≡ true → KnowsButData (registers_of v.instruction) a.registers
  pub result : (l : ℕ) → v.result ≡ Some l → KnowsButData (registers_of v.instruction) a.registers × ((n : ℕ) → number_in a.pc (acts a v) ≡ Some n → n ≡ l)

module _ (image : Memory) (h : ℕ) (m : List Stored) (opening : ℕ → ℕ) (a : RunState) (v : Move) where
  abbrev Operands : Type 0
  Operands = KnowsButData (registers_of v.instruction) a.registers

  abbrev Results : Type 0
  Results = (l : ℕ) → v.result ≡ Some l → Operands × ((n : ℕ) → number_in a.pc (acts a v) ≡ Some n → n ≡ l)

  -- of an action that puts no number
  no_number : (b : Action) → acts a v ≡ b → number_in a.pc b ≡ None → Operands → Results
  no_number b is none knows l r = (knows, λ n some. let d : number_in a.pc (acts a v) ≡ number_in a.pc b = ap (number_in a.pc) is in absurd (cc))

  no_number_but : (b : Action) → without_data (acts a v) ≡ b → number_in a.pc b ≡ None → Operands → Results
  no_number_but b is none knows l r = (
    knows,
    λ n some.
        let d : number_in a.pc (without_data (acts a v)) ≡ number_in a.pc b = ap (number_in a.pc) is in
        let e = number_data a.pc (acts a v) in
        absurd (cc),
  )

  a_number : (b : Action) (n : ℕ) → acts a v ≡ b → number_in a.pc b ≡ Some n → v.result ≡ Some n → Operands → Results
  a_number b n is there r knows l q = (knows, λ k some. let d : number_in a.pc (acts a v) ≡ number_in a.pc b = ap (number_in a.pc) is in cc)

  fence_knows : (before after : FenceSet) (mode : FenceMode) → v.instruction ≡ FenceWord before after mode → Operands
  fence_knows before after mode e = subst (λ (i : Instr). KnowsButData (registers_of i) a.registers) (sym e) (record { address = refl; first = refl; second = refl })

  call_knows : v.instruction ≡ Ecall → Operands
  call_knows e = subst (λ (i : Instr). KnowsButData (registers_of i) a.registers) (sym e) (record { address = refl; first = refl; second = refl })

  next_by : (b : Action) (n : ℕ) → acts a v ≡ b → next_in a.pc b ≡ n → v.next ≡ n → v.next ≡ next_in a.pc (acts a v)
  next_by b n is there x = x ∙ sym there ∙ sym (ap (next_in a.pc) is)

  next_but : (b : Action) (n : ℕ) → without_data (acts a v) ≡ b → next_in a.pc b ≡ n → v.next ≡ n → v.next ≡ next_in a.pc (acts a v)
  next_but b n is there x = x ∙ sym there ∙ sym (ap (next_in a.pc) is) ∙ next_data a.pc (acts a v)

  access_by : (b : Action) (y : Access) → acts a v ≡ b → access_in b ≡ y → v.access ≡ y → (v.access ≡ access_in (acts a v)) ⊎ FailsThere v.access (access_in (acts a v))
  access_by b y is there e = inl (e ∙ sym there ∙ sym (ap access_in is))

  access_but : (b : Action) (y : Access) → without_data (acts a v) ≡ b → access_in b ≡ y → v.access ≡ y → (v.access ≡ access_in (acts a v)) ⊎ FailsThere v.access (access_in (acts a v))
  access_but b y is there e = inl (e ∙ sym there ∙ sym (ap access_in is) ∙ access_data (acts a v))

  not_needed : (b : Action) → acts a v ≡ b → needs_operands b ≡ false → needs_operands (acts a v) ≡ true → KnowsButData (registers_of v.instruction) a.registers
  not_needed b is none e = let d : needs_operands (acts a v) ≡ needs_operands b = ap needs_operands is in absurd (cc)

  is_of : (P : Move → Type 0) → Acts image h m opening P a v → IsOf a v
  is_of P (puts rd n k is e r x) = record { next = next_by _ _ is refl x; access = access_by _ _ is refl e; knows = λ q. k.but_data; result = a_number _ n is refl r k.but_data }
  is_of P (puts-unknown rd n k is e r x) = record { next = next_by _ _ is refl x; access = access_by _ _ is refl e; knows = not_needed _ is refl; result = λ l q. absurd (cc) }
  is_of P (jumps rd target k is even e r x) = record { next = next_by _ _ is refl x; access = access_by _ _ is refl e; knows = λ q. k.but_data; result = a_number _ (plus a.pc 4) is refl r k.but_data }
  is_of P (branches taken target k is even e x) = record { next = next_by _ _ is refl x; access = access_by _ _ is refl e; knows = λ q. k.but_data; result = no_number _ is refl k.but_data }
  is_of P (orders before after mode is e x) = record { next = next_by _ _ is refl x; access = access_by _ _ is refl e; knows = not_needed _ is refl; result = no_number _ is refl (fence_knows before after mode (order_only v.instruction (filled a.registers) a.pc before after mode is)) }
  is_of P (reads rd address w signed number k is safe e g r x) = record { next = next_by _ _ is refl x; access = access_by _ _ is refl e; knows = λ q. k.but_data; result = no_number _ is refl k.but_data }
  is_of P (stores_it address w k is safe e d p x) = record { next = next_but _ _ is refl x; access = access_but _ _ is refl e; knows = λ q. k; result = no_number_but _ is refl k }
  is_of P (reserves rd address w o number k is safe e g r x) = record { next = next_by _ _ is refl x; access = access_by _ _ is refl e; knows = λ q. k.but_data; result = no_number _ is refl k.but_data }
  is_of P (fails rd address w o k is safe e r x) = record {
    next = next_but _ _ is refl x;
    access = inr (record {
      sc = sym (ap is_sc (access_data (acts a v))) ∙ ap (λ (b : Action). is_sc (access_in b)) is;
      store = sym (ap writing (access_data (acts a v))) ∙ ap (λ (b : Action). writing (access_in b)) is;
      dry = ap writing e;
      no_load = ap loads e;
    });
    knows = λ q. k;
    result = no_number_but _ is refl k;
  }
  is_of P (succeeds rd address w o k is safe e d held reserved p unbroken r x) = record { next = next_but _ _ is refl x; access = access_but _ _ is refl e; knows = λ q. k; result = no_number_but _ is refl k }
  is_of P (exchanges rd address w f o number k is safe e g r d p x) = record { next = next_by _ _ is refl x; access = access_by _ _ is refl e; knows = λ q. k.but_data; result = no_number _ is refl k.but_data }
  is_of P (exchanges-unknown rd address w o k none is safe e g r d x) = record { next = next_but _ _ is refl x; access = access_but _ _ is refl e; knows = λ q. k; result = no_number_but _ is refl k }
  is_of P (calls number answer ecall at nonzero answered e r x) =
      let is : acts a v ≡ Call = ap (λ (i : Instr). action i (filled a.registers) a.pc) ecall in
      record { next = next_by _ _ is refl x; access = access_by _ _ is refl e; knows = not_needed _ is refl; result = no_number _ is refl (call_knows ecall) }

  pub apart_is_of : (owns : ℕ → ℕ → Bool) → ActsApart owns image h m opening (IsPlaced h m) a v → IsOf a v
  apart_is_of owns (shares private acting) = is_of _ acting
  apart_is_of owns (keeps private plain acting) = is_of _ acting
  apart_is_of owns (recalls rd address w signed private k is safe e needs r source x) =
      record { next = next_by _ _ is refl x; access = access_by _ _ is refl e; knows = λ q. k.but_data; result = no_number _ is refl k.but_data }

-- ---- instructions

-- where an action of an instruction leads
abbrev pub Reaches : Flow → List ℕ → ℕ → ℕ → Type 0
Reaches On x pc n = n ≡ plus pc 4
Reaches (JumpBy imm) x pc n = n ≡ plus pc imm
Reaches (Turn rs1 imm) x pc n = n ≡ plus (reg x rs1) imm / 2 * 2
Reaches (BranchBy imm) x pc n = (n ≡ plus pc 4) ⊎ (n ≡ plus pc imm)

by_branch : (taken : Bool) (n l : ℕ) → ((if taken then l else n) ≡ n) ⊎ ((if taken then l else n) ≡ l)
by_branch true n l = inr refl
by_branch false n l = inl refl

pub reaches : (i : Instr) (x : List ℕ) (pc : ℕ) → Reaches (flow_of i) x pc (next_in pc (action i x pc))
reaches (Jal rd imm) x pc = refl
reaches (Jalr rd rs1 imm) x pc = refl
reaches (Beq rs1 rs2 imm) x pc = by_branch _ _ _
reaches (Bne rs1 rs2 imm) x pc = by_branch _ _ _
reaches (Blt rs1 rs2 imm) x pc = by_branch _ _ _
reaches (Bge rs1 rs2 imm) x pc = by_branch _ _ _
reaches (Bltu rs1 rs2 imm) x pc = by_branch _ _ _
reaches (Bgeu rs1 rs2 imm) x pc = by_branch _ _ _
reaches _ x pc = refl

-- the register of an indirect jump is an operand
pub turns_on : (i : Instr) (x : List ℕ) (pc : ℕ) (rs1 imm : ℕ) → flow_of i ≡ Turn rs1 imm → ((registers_of i).first ≡ rs1) × (needs_operands (action i x pc) ≡ true)
turns_on (Jalr rd r n) x pc rs1 imm e = (cc, refl)
turns_on _ x pc rs1 imm e = absurd (cc)

-- what a state knows and a constant are one number
pub same_there : (k v : List (Option ℕ)) (r n : ℕ) → Agrees k v → view k r ≡ Some n → is_some (view v r) ≡ true → reg (filled v) r ≡ n
same_there k v r n agrees there known = by_view (view v r) refl known
  where
    by_view : (o : Option ℕ) → view v r ≡ o → is_some o ≡ true → reg (filled v) r ≡ n
    by_view None is e = absurd (cc)
    by_view (Some l) is e = filled_refines v r l is ∙ sym (agrees r n l there is)

pub holds_operands : (i : Instr) (k v : List (Option ℕ)) → Agrees k v → KnowsButData (registers_of i) v → HoldsOperands i k (filled v)
holds_operands i k v agrees knows = record {
  first = λ n e. same_there k v (registers_of i).first n agrees e knows.first;
  second = λ n e. same_there k v (registers_of i).second n agrees e knows.second;
}

-- ---- where moves lead

pub goes : (k : List (Option ℕ)) (pc : ℕ) (i : Instr) (f : Flow) → flow_of i ≡ f → MovesFrom k pc i (λ a v. Reaches f (filled a.registers) pc v.next)
goes k pc i f e owns image h m opening a v at is acting agrees =
    let o = apart_is_of image h m opening a v owns acting in
    let r = reaches v.instruction (filled a.registers) a.pc in
    subst (λ (p : ℕ). Reaches f (filled a.registers) p v.next) at
    (subst (λ (n : ℕ). Reaches f (filled a.registers) a.pc n) (sym o.next)
    (subst (λ (g : Flow). Reaches g (filled a.registers) a.pc (next_in a.pc (acts a v))) (ap flow_of is ∙ e) r))

pub turns : (k : List (Option ℕ)) (pc : ℕ) (i : Instr) (base distance : ℕ) → flow_of i ≡ Turn base distance →
    MovesFrom k pc i (λ a v. (n : ℕ) → view k base ≡ Some n → v.next ≡ plus n distance / 2 * 2)
turns k pc i base distance e owns image h m opening a v at is acting agrees n there =
    let o = apart_is_of image h m opening a v owns acting in
    let r = goes k pc i (Turn base distance) e owns image h m opening a v at is acting agrees in
    let both = turns_on v.instruction (filled a.registers) a.pc base distance (ap flow_of is ∙ e) in
    let known : is_some (view a.registers base) ≡ true = ap (λ (q : ℕ). is_some (view a.registers q)) (sym both.0) ∙ (o.knows both.1).first in
    r ∙ ap (λ (u : ℕ). plus u distance / 2 * 2) (same_there k a.registers base n agrees there known)

-- the number that a move leaves is the one of the constants, where it is known
pub puts_number : (k : List (Option ℕ)) (pc : ℕ) (i : Instr) (n : ℕ) → IsPut i k pc n → MovesFrom k pc i (λ a v. (l : ℕ) → v.result ≡ Some l → n ≡ l)
puts_number k pc i n put owns image h m opening a v at is acting agrees l e =
    let o = (apart_is_of image h m opening a v owns acting).result l e in
    o.1 n (there (holds_operands v.instruction k a.registers agrees o.0))
  where
    there : HoldsOperands v.instruction k (filled a.registers) → number_in a.pc (acts a v) ≡ Some n
    there holds =
        let p = put (filled a.registers) (subst (λ (j : Instr). HoldsOperands j k (filled a.registers)) is holds) in
        ap (λ (j : Instr). number_in a.pc (action j (filled a.registers) a.pc)) is ∙ ap (λ (q : ℕ). number_in q (action i (filled a.registers) q)) at ∙ p
