use Rattle.std.proofs.Common.{◌++◌, ◌∙◌, ℕ, List, ap, inl, inr, refl, subst, ⊎_elim}
use Rattle.host_io.specs.Taken.{BeganText}
use Rattle.program_files.proofs.Begun.{on_err}
use Rattle.host_io.proofs.Answered.{begun}
use Rattle.hunt_commands.proofs.merging.put_merged.Goals as goal

pub returns-in_err-merge-clause-begun : goal.returns-in_err-merge-clause-begun
returns-in_err-merge-clause-begun g c =
    let is = c.deref-2.ensures.value in
    let old = g.O.Sink.took c.args.out.now in
    let new = g.O.Sink.took c.merge.new.out in
    on_err c.from_residual-in_err-merge.result _ (⊎_elim (λ same. inl same) (λ b. inr (
      record { table = b.answer; merged = b.is_text.merged },
      subst (λ (t : List ℕ). BeganText old new t) b.is_text.is_text b.began,
    )) (rw (is, c.in_ok-texts.ensures.texts) at (begun _ c.in_err-merge.ensures.writes)))

pub returns-clause-merges : goal.returns-clause-merges
returns-clause-merges g c =
    let is = c.deref-2.ensures.value in
    let old = g.O.Sink.took c.args.out.now in
    let m = rw (is, c.in_ok-texts.ensures.texts) at c.in_ok-merge.ensures.writes.written in
    (record { table = c.in_ok-merge.field-0; merged = m.is_text.merged }, m.bytes ∙ ap (λ (t : List ℕ). old ++ t) m.is_text.is_text, refl)
