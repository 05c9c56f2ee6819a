use Rattle.std.proofs.Common.{List, inl, inr, refl, subst, ⊎_elim, ℕ}
use Rattle.host_io.specs.Taken.{BeganText}
use Rattle.host_io.specs.declared.error.RunError.TheVariants as refusals
use Rattle.hunter.specs.Hunts.{IsHuntReason, hunt_fault}
use Rattle.hunter.specs.Refusals.{hunt_number}
use Rattle.hunter.specs.declared.error.HuntError.TheVariants.{Run}
use Rattle.program_files.proofs.Failing.{why_cut}
use Rattle.program_files.proofs.Told.{where_refused}
use Rattle.program_files.proofs.Unprinted.{unprinted}
use Rattle.host_io.proofs.Answered.{begun}
use Rattle.all_commands.proofs.searches.EndingsSearcherEndingsSearches.search.Goals as goal

pub returns-clause-begun : goal.returns-clause-begun
returns-clause-begun g c =
    let old = g.S.Sink.took c.args.out.now in
    let new = g.S.Sink.took c.find_endings.new.out in
    where_refused c.find_endings.result _ _ (λ h. ⊎_elim (λ same. inl same) (λ b. inr (
      b.answer.table,
      b.answer.executions.items,
      b.is_text.table,
      b.is_text.kept,
      tt,
      subst (λ (t : List ℕ). BeganText old new t) b.is_text.is_text b.began,
    )) h) (begun _ (rw (c.deref.ensures.value, c.deref-2.ensures.value) at c.find_endings.ensures.writes))

pub returns-clause-unprinted : goal.returns-clause-unprinted
returns-clause-unprinted g c =
    unprinted hunt_number (Run refusals.OutOfMemory) (Run refusals.SinkFailed) c.find_endings.result refl refl (rw (c.deref.ensures.value, c.deref-2.ensures.value) at c.find_endings.ensures.writes)

pub returns-clause-errors : goal.returns-clause-errors
returns-clause-errors g c = λ none. why_cut (hunt_fault c.args.settings.hunt) (IsHuntReason c.args.settings.hunt c.args.files.now.image.items) c.find_endings.result
    (rw (c.deref.ensures.value, c.deref-2.ensures.value) at c.find_endings.ensures.writes) (inl refl) none
