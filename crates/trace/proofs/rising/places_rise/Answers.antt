use Rattle.std.proofs.Common.{◌≡◌, ◌+◌, ◌∙◌, ap, arith, below_more, replicate, subst, sym, None}
use Rattle.std.proofs.lemmas.List.{get_or_default, get_or-replicate}
use Rattle.round_schedule.specs.Positions.{event}
use Rattle.trace.specs.LastPlaces.{AreLast, IsAbove, noted}
use Rattle.trace.proofs.Lasting.{last_more, last_none}
use Rattle.trace.proofs.rising.places_rise.Goals as goal

pub loop-i-init : goal.loop-i-init
loop-i-init c = record {
  above = λ j h. absurd (omega (arith, h));
  last = last_none c.args.events.now (replicate 256 None) (λ h l. get_or-replicate 256 h None None l);
}

pub loop-i-preserved : goal.loop-i-preserved
loop-i-preserved c =
    let t = c.args.events.now in
    let i = c.loop-i.i in
    let here : IsAbove t i = c.is_above.ensures.0 c.if-not-is_above.false in
    let same : c.note.new.last ≡ noted c.loop-i.last (event t i) = c.note.ensures ∙ ap (noted c.loop-i.last) (get_or_default t i _ _ (omega arith)) in
    record {
      above = below_more _ _ c.loop-i.invariant.above here;
      last = subst (AreLast t (i + 1)) (sym same) (last_more t i c.loop-i.last c.loop-i.invariant.last here);
    }
