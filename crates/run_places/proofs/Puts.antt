-- Whether the number in x17 is a constant of the code.
use Rattle.std.proofs.Common.{◌≡◌, ℕ, ◌==◌, ◌&&◌, ◌||◌, not, Bool, true, false, if◌then◌else◌, List, refl, sym, ap, ◌∙◌, subst}
use Rattle.pages.specs.Memory.{Memory}
use Rattle.rv64_decode.specs.declared.instruction.Instr.{Instr}
use Rattle.round_schedule.specs.declared.access.Access.{Access}
use Rattle.round_schedule.specs.Accesses.{loads}
use Rattle.round_schedule.specs.Accesses.{stores as writing}
use Rattle.rv64_decode.specs.declared.instruction.Instr.TheVariants.{Addi}
use Rattle.hart_step.specs.Effect.{Action, Put, action}
use Rattle.hart_step.specs.Numbers.{plus}
use Rattle.hart_step.specs.Registers.{reg}
use Rattle.memory_order.specs.Registers.{registers_of}
use Rattle.all_endings.specs.HartRuns.{Acts, IsPlaced, acts, branches, calls, exchanges, exchanges-unknown, fails, jumps, orders, puts, puts-unknown, reads, reserves, stores, succeeds}
use Rattle.all_endings.specs.Locality.{filled, without_data}
use Rattle.all_endings.specs.RunStates.{Move, RunState, answers_to, operates}
use Rattle.all_endings.specs.StoreLists.{Stored}
use Rattle.private_bytes.specs.PrivateMoves.{ActsApart, keeps, recalls, shares}
use Rattle.private_bytes.specs.PrivateWalks.{looks_at_none}
use Rattle.run_places.specs.Constants.{LeavesConstant, PutsConstant}

module _ (image : Memory) (h : ℕ) (m : List Stored) (opening : ℕ → ℕ) (a : RunState) (v : Move) (rd n : ℕ) (put : acts a v ≡ Put rd n) where
  other : (b : Action) → acts a v ≡ b → b ≡ Put rd n
  other b is = sym is ∙ put

  but_data : (b : Action) → without_data (acts a v) ≡ b → b ≡ Put rd n
  but_data b is = sym is ∙ ap without_data put

  abbrev is_operation : Access → Bool
  is_operation y = loads y || writing y

  -- what puts a value into a register is no memory operation
  no_operation : (P : Move → Type 0) → Acts image h m opening P a v → operates v ≡ false
  no_operation P (puts rd n k is e r x) = ap is_operation e
  no_operation P (puts-unknown rd n k is e r x) = ap is_operation e
  no_operation P (jumps rd target k is even e r x) = absurd (let q = other _ is in cc)
  no_operation P (branches taken target k is even e x) = absurd (let q = other _ is in cc)
  no_operation P (orders before after mode is e x) = absurd (let q = other _ is in cc)
  no_operation P (reads rd address w signed number k is safe e g r x) = absurd (let q = other _ is in cc)
  no_operation P (stores address w k is safe e d p x) = absurd (let q = but_data _ is in cc)
  no_operation P (reserves rd address w o number k is safe e g r x) = absurd (let q = other _ is in cc)
  no_operation P (fails rd address w o k is safe e r x) = absurd (let q = but_data _ is in cc)
  no_operation P (succeeds rd address w o k is safe e d held reserved p unbroken r x) = absurd (let q = but_data _ is in cc)
  no_operation P (exchanges rd address w g o number k is safe e get r d p x) = absurd (let q = other _ is in cc)
  no_operation P (exchanges-unknown rd address w o k none is safe e get r d x) = absurd (let q = but_data _ is in cc)
  no_operation P (calls number answer ecall at nonzero answered e r x) = ap is_operation e

  none_apart : (owns : ℕ → ℕ → Bool) → ActsApart owns image h m opening (IsPlaced h m) a v → operates v ≡ false
  none_apart owns (shares private acts) = no_operation (IsPlaced h m) acts
  none_apart owns (keeps private plain acts) = no_operation (λ u. Unit {0}) acts
  none_apart owns (recalls rd address w signed private k is safe e needs r source x) = absurd (let q = other _ is in cc)

by_register : (c before looks operation : Bool) → (c ≡ true → looks ≡ true) → (c ≡ true → operation ≡ false) → (c ≡ false → before ≡ true) →
    (if c then looks && not operation else before) ≡ true
by_register true before looks operation l o b = let p = l refl in let q = o refl in cc
by_register false before looks operation l o b = b refl

pub stays_by : (before : Bool) (i : Instr) → ((answers_to i == 17) ≡ true → PutsConstant i) → ((answers_to i == 17) ≡ false → before ≡ true) → LeavesConstant before i
stays_by before i put_by keeps_it owns image h m opening a v is acting =
    subst (λ (j : Instr). (if answers_to j == 17 then looks_at_none (registers_of j) && not (operates v) else before) ≡ true) (sym is)
    (by_register (answers_to i == 17) before (looks_at_none (registers_of i)) (operates v) (λ e. (put_by e).looks)
    (λ e. let p = (put_by e).puts (filled a.registers) a.pc in
    none_apart image h m opening a v p.0 p.1 (ap (λ (j : Instr). action j (filled a.registers) a.pc) is ∙ p.2) owns acting)
    keeps_it)

pub addi_puts : (i : Instr) (rd rs1 imm : ℕ) → i ≡ Addi rd rs1 imm → rs1 ≡ 0 → PutsConstant i
addi_puts i rd rs1 imm is zero = subst PutsConstant (sym is) (record {
  looks = ap (λ (r : ℕ). looks_at_none (registers_of (Addi rd r imm))) zero;
  puts = λ x pc. (rd, plus (reg x rs1) imm, refl);
})
