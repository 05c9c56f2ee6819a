-- What a hart does next in an execution is a move of the run that follows it, or the run breaks off before it.
use Rattle.std.proofs.Common.{◌≡◌, ◌≢◌, ℕ, ◌<◌, ◌⊎◌, max, Bool, true, false, if◌then◌else◌, List, slice_index_or, Some, None, refl, sym, ap, ◌∙◌, subst, arith}
use Rattle.rv64_decode.specs.declared.instruction.Instr.{Instr}
use Rattle.rv64_decode.specs.declared.instruction.Instr.TheVariants.{Ecall}
use Rattle.round_schedule.specs.Positions.{event}
use Rattle.hart_step.specs.declared.hart.Hart.{Hart}
use Rattle.hart_step.specs.Effect.{Action, Call, action}
use Rattle.hart_step.specs.Registers.{reg}
use Rattle.memory_order.specs.Operations.{is_store}
use Rattle.memory_order.specs.Dependencies.{registers_at}
use Rattle.memory_order.specs.Registers.{registers_of}
use Rattle.rule_checker.specs.CarriedBounds.{AreRegisters, sources_bound}
use Rattle.all_endings.specs.Endings.{opening_bytes}
use Rattle.all_endings.specs.HartRuns.{Acts, IsPlaced, Stands}
use Rattle.all_endings.specs.Locality.{Knows, KnowsButData, filled, view, without_data, written_register}
use Rattle.all_endings.specs.RunStates.{Move, RunState, answers_to, operates}
use Rattle.all_endings.proofs.Following.{Setting, list}
use Rattle.all_endings.proofs.Locality.{destination_written, filled_acts}
use Rattle.all_endings.proofs.OwnSteps.{Matches}

-- the hart's next instruction is a move
pub record Moves (s : Setting) (h i : ℕ) (a : RunState) (k j : Hart) (instr : Instr) : Type 0 where
  pub move : Move
  pub instruction : move.instruction ≡ instr
  pub acts : Acts s.image h (list s) (opening_bytes s.image) (IsPlaced h (list s)) a move
  pub stands : operates move ≡ true → Stands a move
  pub matches : Matches s h i a k j move

-- or the run breaks off before it: all that the hart stores from here on is LATER
pub data Blocked (s : Setting) (i : ℕ) (a : RunState) (instr : Instr) : Type 0 where
  blocked-target : (registers_of instr).steers ≡ true → (Knows (registers_of instr) a.registers → ⊥) → s.n < sources_bound a.carried (registers_of instr) →
      is_store (event s.t i) ≡ false → Blocked s i a instr
  blocked-address : view a.registers (registers_of instr).address ≡ None → s.n < reg a.carried.registers (registers_of instr).address → Blocked s i a instr
  blocked-call : instr ≡ Ecall → view a.registers 17 ≡ None → Blocked s i a instr

abbrev pub MovesOrBlocks : Setting → ℕ → ℕ → RunState → Hart → Hart → Instr → Type 0
MovesOrBlocks s h i a k j instr = Moves s h i a k j instr ⊎ Blocked s i a instr

-- ---- actions of what is known

pub acts_all : (instr : Instr) (a : RunState) (k : Hart) → a.pc ≡ k.pc → ((r n : ℕ) → view a.registers r ≡ Some n → reg k.x r ≡ n) → Knows (registers_of instr) a.registers →
    action instr (filled a.registers) a.pc ≡ action instr k.x k.pc
acts_all instr a k pc refines all = ap (action instr (filled a.registers)) pc ∙ (filled_acts instr a.registers k.x k.pc refines).0 all

pub acts_most : (instr : Instr) (a : RunState) (k : Hart) → a.pc ≡ k.pc → ((r n : ℕ) → view a.registers r ≡ Some n → reg k.x r ≡ n) →
    KnowsButData (registers_of instr) a.registers →
    without_data (action instr (filled a.registers) a.pc) ≡ without_data (action instr k.x k.pc)
acts_most instr a k pc refines most = ap (λ (p : ℕ). without_data (action instr (filled a.registers) p)) pc ∙ (filled_acts instr a.registers k.x k.pc refines).1 most

-- ---- the register that is written

no_call : (instr : Instr) (x : List ℕ) (pc : ℕ) (b : Action) → action instr x pc ≡ b → b ≢ Call → instr ≢ Ecall
no_call instr x pc b is other e = other (sym is ∙ ap (λ (y : Instr). action y x pc) e)

answers_of : (instr : Instr) → instr ≢ Ecall → answers_to instr ≡ (registers_of instr).destination
answers_of Ecall other = absurd (other refl)
answers_of _ other = refl

pub writes_to : (instr : Instr) (x : List ℕ) (pc : ℕ) (b : Action) → action instr x pc ≡ b → b ≢ Call → written_register b ≡ answers_to instr
writes_to instr x pc b is other =
    let e = no_call instr x pc b is other in
    ap written_register (sym is) ∙ destination_written instr x pc e ∙ sym (answers_of instr e)

pub destination_of : (instr : Instr) (x : List ℕ) (pc : ℕ) (b : Action) → action instr x pc ≡ b → b ≢ Call → answers_to instr ≡ (registers_of instr).destination
destination_of instr x pc b is other = answers_of instr (no_call instr x pc b is other)

pub answers_small : (instr : Instr) → AreRegisters (registers_of instr) → answers_to instr < 32
answers_small instr fit = small instr fit.destination
  where
    small : (y : Instr) → (registers_of y).destination < 32 → answers_to y < 32
    small Ecall l = omega arith
    small _ l = l

pub registers_are : (s : Setting) (i : ℕ) (instr : Instr) → slice_index_or s.is i Ecall ≡ instr → registers_of instr ≡ registers_at s.is i
registers_are s i instr e = ap registers_of (sym e)

pub registers_fit_at : (s : Setting) (i : ℕ) (instr : Instr) → slice_index_or s.is i Ecall ≡ instr → AreRegisters (registers_of instr)
registers_fit_at s i instr e = subst AreRegisters (sym (registers_are s i instr e)) (s.fit i)

-- what an operation gives depends on itself, and a computation on what it is made from
pub operation_bound : (n : ℕ) (o : Bool) (m rest : ℕ) → o ≡ true → n < m → n < max (if o then m else 0) rest
operation_bound n true m rest e l = omega (arith, l)
operation_bound n false m rest e l = absurd (cc)

pub carried_bound : (n own : ℕ) (c : Bool) (m : ℕ) → c ≡ true → n < m → n < max own (if c then m else 0)
carried_bound n own true m e l = omega (arith, l)
carried_bound n own false m e l = absurd (cc)
