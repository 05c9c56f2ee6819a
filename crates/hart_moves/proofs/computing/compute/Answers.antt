use Rattle.std.proofs.Common.{◌≡◌, ℕ, Bool, if◌then◌else◌, List, Some, None, refl, sym, ap, ◌∙◌, arith}
use Rattle.rv64_decode.specs.declared.instruction.Instr.{Instr}
use Rattle.hart_step.specs.declared.hart.Hart.{Hart}
use Rattle.hart_step.specs.Effect.{action}
use Rattle.hart_step.specs.Registers.{reg, set_reg}
use Rattle.hart_step.specs.Step.{performed, went_on}
use Rattle.memory_order.specs.declared.registers.Registers.{Registers}
use Rattle.memory_order.specs.Registers.{registers_of}
use Rattle.all_endings.specs.Locality.{set_view}
use Rattle.all_endings.specs.RunStates.{answers_to}
use Rattle.hart_states.specs.declared.choice.Choice.{Choice}
use Rattle.hart_moves.specs.Choosing.{knows}
use Rattle.hart_states.specs.States.{state_of}
use Rattle.hart_moves.proofs.Computes.{put_same}
use Rattle.hart_moves.proofs.Found.{found_idle}
use Rattle.hart_moves.proofs.computing.compute.Goals as goal

pub returns-in-Some-clause-found : goal.returns-in-Some-clause-found
returns-in-Some-clause-found c = λ m v same so.
    let i = c.args.i.now in
    let regs = c.args.state.now.registers in
    let begun = c.hart_of-begun.result in
    let mem = c.args.pages.now.memory in
    let rd = so.register in
    let n = so.number in
    let left = c.in_ok-hart.ensures rd n v.next
    (ap (λ (j : Instr). performed (action j begun.x begun.pc) begun mem) (sym same) ∙ so.performs begun mem c.hart_of-begun.ensures.registers c.hart_of-begun.ensures.pc) in
    let some = c.in-Some.is in
    let one : c.in-Some.hart ≡ went_on begun rd n v.next = cc in
    let at : answers_to i ≡ rd = ap answers_to (sym same) ∙ so.answers in
    let small = c.answers_fit.ensures in
    let size = c.has_each.ensures in
    let known : c.knows-is_known.result ≡ knows (registers_of v.instruction) regs =
    c.knows-is_known.ensures ∙ ap (λ (u : Registers). knows u regs) c.used_registers-used.ensures ∙ ap (λ (j : Instr). knows (registers_of j) regs) (sym same) in
    found_idle m (state_of c.args.state.now) _ _ v (ap (λ (d : Choice). Some d) c.put_of.ensures) (sym same) (sym so.access) (ap (λ (h : Hart). h.pc) one)
    (ap (λ (x : List ℕ). set_view regs (answers_to i) (if c.knows-is_known.result then Some (reg x (answers_to i)) else None)) (ap (λ (h : Hart). h.x) one)
    ∙ ap (λ (r : ℕ). set_view regs r (if c.knows-is_known.result then Some (reg (set_reg begun.x rd n) r) else None)) at
    ∙ put_same regs begun.x rd n c.knows-is_known.result (omega (arith, small, size, at))
    ∙ ap (λ (k : Bool). set_view regs rd (if k then Some n else None)) known
    ∙ sym so.result ∙ ap (λ (r : ℕ). set_view regs r v.result) (sym at))
    refl refl

pub returns-in-None-clause-found : goal.returns-in-None-clause-found
returns-in-None-clause-found c = λ m v same so.
    let i = c.args.i.now in
    let begun = c.hart_of-begun.result in
    let mem = c.args.pages.now.memory in
    let left = c.in_ok-hart.ensures so.register so.number v.next
    (ap (λ (j : Instr). performed (action j begun.x begun.pc) begun mem) (sym same) ∙ so.performs begun mem c.hart_of-begun.ensures.registers c.hart_of-begun.ensures.pc) in
    let none = c.in-None.is in
    absurd (cc)
