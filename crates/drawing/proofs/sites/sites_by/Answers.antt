use Rattle.std.proofs.Common.{◌∙◌, List, ap, map, refl, arith}
use Rattle.std.proofs.lemmas.List.{take_all}
use Rattle.round_schedule.specs.declared.event.Event.{Event}
use Rattle.drawing.specs.Drawn.{told_by}
use Rattle.drawing.proofs.Telling.{told_is, told_more}
use Rattle.drawing.proofs.sites.sites_by.Goals as goal

pub loop-number-preserved : goal.loop-number-preserved
loop-number-preserved c = λ f same.
    told_more c.args.format c.args.image.now c.args.events.now c.args.pcs.now f c.loop-number.number _ _ c.loop-number.sites.items _ _ (omega (arith, c.loop-number-test.true)) same
    c.in_ok-push.ensures.items (told_is _ c.args.format c.args.image.now _ _ refl c.object_touched.ensures) (c.loop-number.invariant f same)

pub returns : goal.returns
returns c = λ f same.
    c.loop-number.invariant f same
    ∙ ap (λ (es : List Event). map (λ e. told_by c.args.format c.args.image.now e (f e)) es) (take_all c.loop-number.number c.args.events.now (omega (arith, c.loop-number-test.false)))
