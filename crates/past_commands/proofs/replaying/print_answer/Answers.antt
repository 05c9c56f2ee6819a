use Rattle.std.proofs.Common.{◌∙◌, ◌++◌, List, ap, refl, subst, ℕ}
use Rattle.host_io.specs.Taken.{BeganText}
use Rattle.program_files.proofs.Begun.{on_err, whole}
use Rattle.past_commands.proofs.replaying.print_answer.Goals as goal

pub returns-in_err-put_all-clause-begun : goal.returns-in_err-put_all-clause-begun
returns-in_err-put_all-clause-begun g c =
    let old = g.O.Sink.took c.args.out.now in
    let new = g.O.Sink.took c.put_all.new.out in
    on_err c.from_residual.result _ (subst (λ (t : List ℕ). BeganText old new t) c.as_bytes.ensures c.in_err-put_all.ensures.begun)

pub returns-in_err-hand_on-clause-begun : goal.returns-in_err-hand_on-clause-begun
returns-in_err-hand_on-clause-begun g c =
    let old = g.O.Sink.took c.args.out.now in
    on_err c.from_residual-in_err-hand_on.result _ (whole _ _ _ (c.in_err-hand_on.ensures.took ∙ c.in_ok-put_all.ensures.ok ∙ ap (λ (t : List ℕ). old ++ t) c.as_bytes.ensures))

pub returns-clause-printed : goal.returns-clause-printed
returns-clause-printed g c =
    let old = g.O.Sink.took c.args.out.now in
    (c.in_ok-hand_on.ensures.took ∙ c.in_ok-put_all.ensures.ok ∙ ap (λ (t : List ℕ). old ++ t) c.as_bytes.ensures, c.in_ok-hand_on.ensures.out, refl)
