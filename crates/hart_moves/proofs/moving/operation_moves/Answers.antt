use Rattle.std.proofs.Common.{ap, sym, ◌∙◌, inl, inr, subst}
use Rattle.rv64_decode.specs.declared.instruction.Instr.{Instr}
use Rattle.hart_step.specs.Effect.{action}
use Rattle.all_endings.specs.HartRuns.{IsPlaced}
use Rattle.all_endings.specs.Locality.{filled}
use Rattle.run_bounds.specs.declared.operation.Operation.{Operation}
use Rattle.run_bounds.specs.Operations.{operation_in}
use Rattle.hart_states.specs.Opening.{opening_of}
use Rattle.hart_states.specs.States.{listed, state_of}
use Rattle.hart_moves.specs.Choosing.{DoesSo, FailsSo, IsAble}
use Rattle.hart_moves.proofs.Inverting.{does_so, placed}
use Rattle.hart_moves.proofs.moving.operation_moves.Goals as goal

pub returns-in-None : goal.returns-in-None
returns-in-None c = λ v same doing stands.
    let o = c.args.operation.now in
    let a = state_of c.args.state.now in
    let image = c.args.memory.now.pages.now.memory in
    let m = listed c.args.list.now in
    let is = ap (λ (j : Instr). operation_in (action j (filled c.args.state.now.registers) c.args.state.now.pc)) same ∙ c.requires.is in
    let inverted = does_so image c.args.hart m (opening_of c.args.memory.now) (IsPlaced c.args.hart m) a v c.destinations_are_written.ensures o is doing in
    absurd (c.in-None.ensures.none (subst (λ (j : Instr). IsAble image a j o) same inverted.able))

pub returns-in_ok-found-in-Some : goal.returns-in_ok-found-in-Some
returns-in_ok-found-in-Some c = λ v same doing stands.
    let o = c.args.operation.now in
    let a = state_of c.args.state.now in
    let image = c.args.memory.now.pages.now.memory in
    let m = listed c.args.list.now in
    let h = c.args.hart in
    let is = ap (λ (j : Instr). operation_in (action j (filled c.args.state.now.registers) c.args.state.now.pc)) same ∙ c.requires.is in
    let inverted = does_so image h m (opening_of c.args.memory.now) (IsPlaced h m) a v c.destinations_are_written.ensures o is doing in
    let here = same ∙ sym c.in-Some.ensures.instruction in
    elim inverted.does [
      | inl does ↦
          c.in_ok-found-in-Some.ensures.does v here (stands does.1)
          (subst (λ (q : Operation). DoesSo h m (opening_of c.args.memory.now) a q v) (sym c.in-Some.ensures.operation) does.0)
          (λ store. placed h m v (inverted.place store))
      | inr fails ↦ c.in_ok-found-in-Some.ensures.fails v here (subst (λ (q : Operation). FailsSo a q v) (sym c.in-Some.ensures.operation) fails)
    ]
