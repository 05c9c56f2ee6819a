use Rattle.std.proofs.Common.{◌<◌, ℕ, Option, length, subst, sym, rules}
use Rattle.store_buffer.specs.Slots.{before_in, up_to}
use Rattle.store_buffer.proofs.LineChains.{IsNext, first_next, link_lower, next_next}
use Rattle.store_buffer.proofs.slots.find.Goals as goal

pub loop-next-init : goal.loop-next-init
loop-next-init c =
    subst (λ (o : Option ℕ). IsNext c.args.lines.now (length c.args.latest.now) c.args.number o) (search (rules, c.slot_of.ensures)) (first_next c.args.lines.now c.args.latest.now c.args.number c.requires)

pub bounds-lines-index : goal.bounds-lines-index
bounds-lines-index c = (c.loop-next.invariant.inside c.in-Some.index (sym c.in-Some.is)).0

pub offset_bounds-lines-index : goal.offset_bounds-lines-index
offset_bounds-lines-index c = let b = bounds-lines-index c in search (rules, b)

pub loop-next-smaller : goal.loop-next-smaller
loop-next-smaller c =
    subst (λ (o : Option ℕ). up_to (before_in c.args.lines.now c.in-Some.index) < up_to o) (sym c.in-Some.is) (link_lower c.args.lines.now c.args.latest.now c.in-Some.index c.requires (c.loop-next.invariant.inside c.in-Some.index (sym c.in-Some.is)).0)

pub loop-next-preserved : goal.loop-next-preserved
loop-next-preserved c =
    next_next c.args.lines.now c.args.latest.now c.args.number c.in-Some.index c.requires (subst (λ (o : Option ℕ). IsNext c.args.lines.now (length c.args.latest.now) c.args.number o) c.in-Some.is c.loop-next.invariant) c.if-found-number.false
