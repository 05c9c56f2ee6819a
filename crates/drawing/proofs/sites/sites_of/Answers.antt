use Rattle.std.proofs.Common.{◌∙◌, ◌≤◌, List, ap, length, map, sym, arith}
use Rattle.std.proofs.lemmas.List.{length-map}
use Rattle.std.proofs.lemmas.List.Elements.{All-same, All-weaker}
use Rattle.round_schedule.specs.declared.event.Event.{Event}
use Rattle.run_events.specs.Pcs.{IsAfterRounds, pc_before}
use Rattle.drawing.specs.Drawn.{told_of}
use Rattle.drawing.proofs.sites.sites_of.Goals as goal

pub pcs_of_run-requires-clause-later : goal.pcs_of_run-requires-clause-later
pcs_of_run-requires-clause-later g c = λ lifetimes within.
    All-same (IsAfterRounds c.args.start.now.rounds) c.deref.result.now c.in_ok-events.events.items c.deref.ensures.value
    (All-weaker (λ (e : Event). c.args.view.now.from ≤ e.round) (IsAfterRounds c.args.start.now.rounds) (λ e h. omega (arith, h, c.requires.before)) c.in_ok-events.events.items c.in_ok-events.ensures.later)

pub sites_by-requires : goal.sites_by-requires
sites_by-requires g c =
    let run = c.requires.run in
    ap length c.deref-3.ensures.value ∙ ap length (c.in_ok-pcs.ensures.pcs run.0 run.1) ∙ length-map c.deref.result.now (pc_before c.args.settings.now.rounds run.0)
    ∙ ap length (c.deref.ensures.value ∙ sym c.deref-2.ensures.value)

pub returns-clause-sites : goal.returns-clause-sites
returns-clause-sites g c = λ m i.
    c.in_ok-sites_by.ensures (pc_before c.args.settings.now.rounds m)
    (c.deref-3.ensures.value ∙ c.in_ok-pcs.ensures.pcs m i ∙ ap (λ (es : List Event). map (pc_before c.args.settings.now.rounds m) es) (c.deref.ensures.value ∙ sym c.deref-2.ensures.value))
    ∙ ap (λ (es : List Event). map (told_of c.args.settings.now c.args.image.now m) es) (c.deref-2.ensures.value ∙ c.in_ok-events.ensures.shown)
