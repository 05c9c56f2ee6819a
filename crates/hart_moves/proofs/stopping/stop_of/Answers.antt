use Rattle.std.proofs.Common.{ℕ, sym, ap, ◌∙◌}
use Rattle.hart_step.specs.DecodedCode.{decoded}
use Rattle.hart_moves.proofs.Allowed.{fetched_some}
use Rattle.hart_moves.proofs.stopping.stop_of.Goals as goal

pub instruction_stop-requires-clause-known : goal.instruction_stop-requires-clause-known
instruction_stop-requires-clause-known c =
    let image = c.args.pages.now.memory in
    ap (λ (pc : ℕ). decoded image pc) c.hart_of.ensures.pc
    ∙ fetched_some image c.args.state.now.pc c.in-Some.word (sym c.fetch.ensures ∙ c.in-Some.is)
    ∙ sym c.decode.ensures ∙ c.in-Some-decode.is
