use Rattle.std.proofs.Common.{◌≡◌, Some, sym, ◌∙◌}
use Rattle.rv64_decode.specs.declared.instruction.Instr.{Instr}
use Rattle.hart_states.specs.States.{state_of}
use Rattle.run_places.proofs.constants.stays_constant.Goals as goal

same_instruction : (i j : Instr) → Some i ≡ Some j → i ≡ j
same_instruction i j e = cc

pub returns-in-Some : goal.returns-in-Some
returns-in-Some c = λ is owns h m opening v at acting.
    c.constant_behind.ensures is owns c.args.pages.now.memory h m opening (state_of c.args.place.now.state) v
    (same_instruction v.instruction c.in-Some.i (sym at ∙ (sym c.instruction_at.ensures ∙ c.in-Some.is))) acting
