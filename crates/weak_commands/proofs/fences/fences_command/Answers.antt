use Rattle.std.proofs.Common.{◌∙◌, List, ap, inl, inr, map, subst, ⊎_elim}
use Rattle.execution_file.specs.Views.{as_recorded}
use Rattle.execution_file.specs.declared.file.ExecutionFile.{ExecutionFile}
use Rattle.weak_commands.specs.Asked.{keep_of}
use Rattle.weak_commands.specs.Saved.{AreSaved}
use Rattle.weak_commands.specs.Status.{fences_status}
use Rattle.program_files.proofs.Begun.{on_err, whole}
use Rattle.weak_commands.proofs.fences.fences_command.Goals as goal

pub returns-in_err-found-clause-begun : goal.returns-in_err-found-clause-begun
returns-in_err-found-clause-begun g c =
    let given = c.in_ok-given.given in
    let list = c.in_ok-list.list.items in
    on_err c.from_residual-in_err-found.result _ (⊎_elim (λ same. inl same) (λ b. inr (
      record { image = given.image.items; input = given.input.items; accepted = list; given = c.in_ok-given.ensures.program; list = c.in_ok-list.ensures.list; made = b.0 },
      b.1,
    )) (rw c.deref.ensures.value at c.in_err-found.ensures.begun))

pub returns-in_err-keep-clause-begun : goal.returns-in_err-keep-clause-begun
returns-in_err-keep-clause-begun g c =
    let given = c.in_ok-given.given in
    let list = c.in_ok-list.list.items in
    let done = rw c.deref.ensures.value at c.in_ok-found.ensures.searches in
    on_err c.from_residual-in_err-keep.result _ (inr (
      record { image = given.image.items; input = given.input.items; accepted = list; given = c.in_ok-given.ensures.program; list = c.in_ok-list.ensures.list; made = done.0 },
      whole _ _ _ done.1,
    ))

pub returns-in_err-hand_on-clause-begun : goal.returns-in_err-hand_on-clause-begun
returns-in_err-hand_on-clause-begun g c =
    let given = c.in_ok-given.given in
    let list = c.in_ok-list.list.items in
    let done = rw c.deref.ensures.value at c.in_ok-found.ensures.searches in
    on_err c.from_residual-in_err-hand_on.result _ (inr (
      record { image = given.image.items; input = given.input.items; accepted = list; given = c.in_ok-given.ensures.program; list = c.in_ok-list.ensures.list; made = done.0 },
      whole _ _ _ (c.in_err-hand_on.ensures.took ∙ done.1),
    ))

pub returns-clause-searches : goal.returns-clause-searches
returns-clause-searches g c =
    let given = c.in_ok-given.given in
    let list = c.in_ok-list.list.items in
    let asked = c.args.asked.now in
    let done = rw c.deref.ensures.value at c.in_ok-found.ensures.searches in (
      record { image = given.image.items; input = given.input.items; accepted = list; given = c.in_ok-given.ensures.program; list = c.in_ok-list.ensures.list; made = done.0 },
      c.in_ok-hand_on.ensures.took ∙ done.1,
      c.in_ok-hand_on.ensures.out,
      c.fences_status.ensures ∙ ap (fences_status asked.fail_on) done.2,
      subst (λ (es : List ExecutionFile). AreSaved g.W.World.was_given (keep_of asked) (map as_recorded es) c.args.world.now c.keep.new.world) (c.deref-2.ensures.value ∙ done.3)
          c.in_ok-keep.ensures.saved,
    )
