use Rattle.std.proofs.Common.{◌≡◌, ◌⊎◌, ◌∙◌, ◌<◌, ◌≤◌, ℕ, List, ap, arith, map, refl, slice_index, subst, sym, ⊎_elim}
use Rattle.std.proofs.lemmas.Result.{err_from_is_err_and}
use Rattle.round_schedule.specs.declared.event.Event.{Event}
use Rattle.host_io.proofs.Answered.{of_text, refused_first}
use Rattle.trace.specs.Traced.{opening_at}
use Rattle.machine.specs.Machine.{Running, after_rounds}
use Rattle.machine.specs.Untraced.{IsUntraced, Untraced}
use Rattle.picture.specs.Picture.{Drawn, picture_text}
use Rattle.picture.specs.Rows.{events_shown}
use Rattle.picture.specs.Titles.{told}
use Rattle.drawing.specs.Drawn.{before_drawn, last_drawn, told_of}
use Rattle.drawing.proofs.DrawnSoFar.{harts_after, harts_before, plan_of}
use Rattle.drawing.proofs.Stages.{few_before, few_drawn, same_drawn}
use Rattle.drawing.proofs.drawing.draw_machine.Goals as goal

pub sites_of-requires-clause-run : goal.sites_of-requires-clause-run
sites_of-requires-clause-run g c = λ lifetimes within. (c.requires.run.0, c.requires.run.1.drawn.is_start)

pub sites_of-requires-clause-before : goal.sites_of-requires-clause-before
sites_of-requires-clause-before g c = λ lifetimes within. omega (arith, c.requires.run.1.drawn.low)

pub write_picture-requires : goal.write_picture-requires
write_picture-requires g c =
    let b = c.requires.run.1 in
    let same : c.args.drawn.now.start.plan.harts ≡ c.args.machine.now.plan.harts = plan_of _ _ _ _ b.drawn.is_start b.done in
    let stays = ap (λ (u : Untraced). u.plan.harts) c.in_ok-sites.ensures.stays in
    ⊎_elim (λ e. omega (arith, e, stays, same, c.requires.few_harts)) (λ e. omega (arith, e, c.requires.few_harts)) c.harts_before.ensures.count

pub returns-in_err-sites-clause-writes : goal.returns-in_err-sites-clause-writes
returns-in_err-sites-clause-writes g c = λ m b.
    let p = err_from_is_err_and c.from_residual.result c.from_residual.ensures.1 in
    rw (p.1, p.2) (refused_first _ c.in_err-sites.ensures.refused refl)

pub returns-clause-writes : goal.returns-clause-writes
returns-clause-writes g c = λ m b.
    let s = c.args.settings.now in
    let v = c.args.view.now in
    let file = c.args.image.now in
    let h = b.drawn in
    let fits : before_drawn s.rounds v ≤ s.rounds = omega (arith, few_before s.rounds v, few_drawn s.rounds v) in
    let done = ap (λ (y : Running). y.state.harts) b.done in
    let trace = c.trace-2.ensures.events ∙ ap (λ (y : Running). y.state.trace) b.done in
    let opens : (x : ℕ) → opening_at c.trace-2.result.now.opening x ≡ slice_index m.opening x = λ x. c.trace-2.ensures.opening x ∙ ap (λ (y : Running). slice_index y.opening x) b.done in
    let stays = sym c.in_ok-sites.ensures.stays in
    let there = subst (λ (u : Untraced). (u.rounds ≡ before_drawn s.rounds v) ⊎ (b.shown < before_drawn s.rounds v)) stays h.there in
    let is_start = subst (λ (u : Untraced). IsUntraced (after_rounds u.rounds m) u) stays h.is_start in
    let begins = harts_before m b.shown (before_drawn s.rounds v) s.rounds _ _ c.harts_before.result.now c.args.machine.now.state.harts b.same fits there is_start b.all done c.harts_before.ensures.harts in
    let ends = harts_after m b.shown (last_drawn s.rounds v) s.rounds _ c.harts_after.result.now c.args.machine.now.state.harts (few_drawn s.rounds v) h.are_ends b.all done c.harts_after.ensures in
    let tells = ap (map told) c.deref.ensures.value ∙ c.in_ok-sites.ensures.sites m h.is_start
    ∙ ap (λ (t : List Event). map (told_of s file m) (events_shown v t)) (c.trace.ensures.events ∙ sym c.trace-2.ensures.events) in
    of_text _ c.write_picture.result
    (ap (λ (d : Drawn). picture_text d v)
    (same_drawn s file m v c.trace-2.result.now.events (after_rounds s.rounds m).state.trace (opening_at c.trace-2.result.now.opening) c.harts_before.result.now c.harts_after.result.now (map told c.deref.result.now) trace opens begins ends tells))
    c.write_picture.ensures.writes
