use Rattle.std.proofs.Common.{◌-◌, refl, ap, below_more, arith, subst}
use Rattle.run_book.specs.Histories.{harts_of}
use Rattle.run_book.specs.Known.{Collected}
use Rattle.run_book.specs.Lists.{Apart}
use Rattle.run_book.specs.Turns.{first_turn, turn_of}
use Rattle.run_book.proofs.Lists.{has_from_times, never, times_once}
use Rattle.run_book.proofs.Moves.{entry_from_has, has_from_entry, same_table}
use Rattle.run_book.proofs.gathered.Gathered.is_complete.Goals as goal

pub returns-then-is_none-clause-complete : goal.returns-then-is_none-clause-complete
returns-then-is_none-clause-complete g c =
    let es = c.args.self.now.history in
    let h = c.loop-h.h in
    let harts = ap (λ (z : Collected g.row.E.Denot). z.harts) c.self.view_is in (
      λ t. absurd (cc),
      λ all. absurd (never _ (entry_from_has g.E.Entry.turn g.E.Entry.seat _ c.get.result es (turn_of c.args.self.now.round h) c.get.ensures.entry
          (has_from_times (harts_of g.E.Entry.turn g.E.Entry.seat es) (turn_of c.args.self.now.round h) (all h (let lt = c.loop-h-test.true in omega arith)))) c.if-is_none.ensures),
    )

pub returns-then-is_none-clause-law : goal.returns-then-is_none-clause-law
returns-then-is_none-clause-law g c = same_table (λ e. g.E.Entry.turn e - first_turn c.args.self.now.round) g.E.Entry.seat g.E.Entry.right c.args.self.now.harts g.met.E.Entry.is_right

pub loop-h-preserved : goal.loop-h-preserved
loop-h-preserved g c = below_more _ _ c.loop-h.invariant
    (has_from_entry g.E.Entry.turn g.E.Entry.seat _ c.get.result c.args.self.now.history (turn_of c.args.self.now.round c.loop-h.h) c.get.ensures.entry c.if-is_none.ensures)

pub returns-clause-complete : goal.returns-clause-complete
returns-clause-complete g c =
    let es = c.args.self.now.history in
    let harts = ap (λ (z : Collected g.row.E.Denot). z.harts) c.self.view_is in
    let apart : Apart (harts_of g.E.Entry.turn g.E.Entry.seat es) =
    subst (λ (z : Collected g.row.E.Denot). Apart (harts_of g.E.Entry.turn g.E.Entry.seat z.history)) c.self.view_is c.self.invariant in
    (λ _ h lt. times_once (harts_of g.E.Entry.turn g.E.Entry.seat es) (turn_of c.args.self.now.round h) apart (c.loop-h.invariant h (let le = c.loop-h-test.false in omega arith)), λ _. refl)

pub returns-clause-law : goal.returns-clause-law
returns-clause-law g c = same_table (λ e. g.E.Entry.turn e - first_turn c.args.self.now.round) g.E.Entry.seat g.E.Entry.right c.args.self.now.harts g.met.E.Entry.is_right
