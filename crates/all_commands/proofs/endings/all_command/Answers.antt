use Rattle.std.proofs.Common.{◌∙◌, List, ap, inl, inr, map, subst, ⊎_elim}
use Rattle.std.proofs.lemmas.Result.{err_from_is_err_and}
use Rattle.all_commands.proofs.Ended.{unsaved_number}
use Rattle.execution_file.specs.Views.{as_recorded}
use Rattle.execution_file.specs.declared.file.ExecutionFile.{ExecutionFile}
use Rattle.all_commands.specs.Asked.{keep_of}
use Rattle.all_commands.specs.Status.{all_status}
use Rattle.program_files.proofs.Begun.{on_err, whole}
use Rattle.weak_commands.specs.Saved.{AreSaved}
use Rattle.all_commands.proofs.endings.all_command.Goals as goal

pub returns-in_err-found-clause-begun : goal.returns-in_err-found-clause-begun
returns-in_err-found-clause-begun g c =
    let given = c.in_ok-given.given in
    on_err c.from_residual-in_err-found.result _ (⊎_elim (λ same. inl same) (λ b. inr (
      record { image = given.image.items; input = given.input.items; given = c.in_ok-given.ensures.program; made = b.0 },
      b.1,
    )) c.in_err-found.ensures.begun)

pub returns-in_err-keep-clause-begun : goal.returns-in_err-keep-clause-begun
returns-in_err-keep-clause-begun g c =
    let given = c.in_ok-given.given in
    let done = c.in_ok-found.ensures.searches in
    on_err c.from_residual-in_err-keep.result _ (inr (
      record { image = given.image.items; input = given.input.items; given = c.in_ok-given.ensures.program; made = done.0 },
      whole _ _ _ done.1,
    ))

pub returns-in_err-keep-clause-unprinted : goal.returns-in_err-keep-clause-unprinted
returns-in_err-keep-clause-unprinted g c =
    let p = err_from_is_err_and c.from_residual-in_err-keep.result c.from_residual-in_err-keep.ensures.1 in
    rw (p.1, p.2) (inr (unsaved_number (g.W.World.wasnt_given c.keep.new.world) _ _ c.in_err-keep.ensures.errors))

pub returns-in_err-hand_on-clause-begun : goal.returns-in_err-hand_on-clause-begun
returns-in_err-hand_on-clause-begun g c =
    let given = c.in_ok-given.given in
    let done = c.in_ok-found.ensures.searches in
    on_err c.from_residual-in_err-hand_on.result _ (inr (
      record { image = given.image.items; input = given.input.items; given = c.in_ok-given.ensures.program; made = done.0 },
      whole _ _ _ (c.in_err-hand_on.ensures.took ∙ done.1),
    ))

pub returns-clause-searches : goal.returns-clause-searches
returns-clause-searches g c =
    let given = c.in_ok-given.given in
    let asked = c.args.asked.now in
    let done = c.in_ok-found.ensures.searches in (
      record { image = given.image.items; input = given.input.items; given = c.in_ok-given.ensures.program; made = done.0 },
      c.in_ok-hand_on.ensures.took ∙ done.1,
      c.in_ok-hand_on.ensures.out,
      c.all_status.ensures ∙ ap all_status done.2,
      subst (λ (es : List ExecutionFile). AreSaved g.W.World.was_given (keep_of asked) (map as_recorded es) c.args.world.now c.keep.new.world) (c.deref.ensures.value ∙ done.3)
          c.in_ok-keep.ensures.saved,
    )
