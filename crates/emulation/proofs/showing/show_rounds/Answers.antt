use Rattle.std.proofs.Common.{◌∙◌, ap, inr, refl}
use Rattle.std.proofs.lemmas.Result.{err_from_is_err_and}
use Rattle.emulation.specs.Showing.{end_of}
use Rattle.host_io.proofs.Answered.{answered, by_writing, cut_off, refused_first}
use Rattle.emulation.proofs.showing.show_rounds.Goals as goal

pub returns-in_err-run_visited-clause-writes : goal.returns-in_err-run_visited-clause-writes
returns-in_err-run_visited-clause-writes g c =
    let p = err_from_is_err_and c.from_residual.result c.from_residual.ensures.1 in
    λ m is. rw (p.1, p.2) (refused_first _ refl refl)

pub returns-in_err-write_shown-clause-writes : goal.returns-in_err-write_shown-clause-writes
returns-in_err-write_shown-clause-writes g c =
    let p = err_from_is_err_and c.from_residual-in_err-write_shown.result c.from_residual-in_err-write_shown.ensures.1 in
    λ m is.
    let w = c.in_err-write_shown.ensures _ (c.in_ok-run_visited.ensures.done.run m is) in
    rw (p.1, p.2) (cut_off _ _ _ (by_writing _ _ _ _ _ _ w) (refl, refl) w.begun)

pub returns-clause-writes : goal.returns-clause-writes
returns-clause-writes g c = λ m is.
    let ran = c.in_ok-run_visited.ensures.done.run m is in
    answered _ _ (refl, c.end_of.ensures ∙ ap end_of (c.harts.ensures.harts ∙ ran.harts)) (c.in_ok-write_shown.ensures _ ran).ok

pub returns-in_err-write_shown-clause-waits : goal.returns-in_err-write_shown-clause-waits
returns-in_err-write_shown-clause-waits g c = inr c.in_ok-run_visited.ensures.known

pub returns-clause-waits : goal.returns-clause-waits
returns-clause-waits g c = inr c.in_ok-run_visited.ensures.known
