use Rattle.std.proofs.Common.{◌∙◌, ℕ, ap₂, arith, length, refl, set}
use Rattle.hart_rounds.specs.declared.hart_end.HartEnd.{HartEnd}
use Rattle.parallel_phase.proofs.Placing.{all_placed, is_here, placed_none, placed_one}
use Rattle.parallel_phase.proofs.places.place_ends.Goals as goal

pub loop-entry-init : goal.loop-entry-init
loop-entry-init g c = record { placed = placed_none c.args.round (length c.args.ends.now) c.args.history.now.items c.args.ends.now c.requires.whole refl; room = refl }

pub set_end-requires : goal.set_end-requires
set_end-requires g c =
    let placed = c.loop-entry.invariant.placed in
    let here = is_here c.args.round (length c.args.ends.now) c.loop-entry.history.items c.pop.new.self.items c.loop-entry.ends c.in-Some.entry placed c.in-Some.ensures.items (omega (arith, c.hart-hart.type_inv, c.hart-hart.ensures)) c.requires.few in
    omega (arith, here.low, c.hart-hart.ensures, placed.count)

pub loop-entry-preserved : goal.loop-entry-preserved
loop-entry-preserved g c =
    let placed = c.loop-entry.invariant.placed in
    let r = c.in-Some.entry in
    let here = is_here c.args.round (length c.args.ends.now) c.loop-entry.history.items c.pop.new.self.items c.loop-entry.ends r placed c.in-Some.ensures.items (omega (arith, c.hart-hart.type_inv, c.hart-hart.ensures)) c.requires.few in
    record {
      placed = placed_one c.args.round (length c.args.ends.now) c.loop-entry.history.items c.pop.new.self.items c.loop-entry.ends c.set_end.new.ends r placed c.in-Some.ensures.items here
          (c.set_end.ensures ∙ ap₂ (λ (k : ℕ) (e : HartEnd). set c.loop-entry.ends k e) c.hart-hart.ensures c.into_end.ensures);
      room = c.in-Some.ensures.capacity ∙ c.loop-entry.invariant.room;
    }

pub returns-clause-ends : goal.returns-clause-ends
returns-clause-ends g c =
    all_placed c.args.round (length c.args.ends.now) c.loop-entry.history.items c.loop-entry.ends c.loop-entry.invariant.placed (omega (arith, c.in_default.ensures.cases.0, c.loop-entry.history.ok.0)) c.requires.harts
