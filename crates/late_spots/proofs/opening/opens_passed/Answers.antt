use Rattle.std.proofs.Common.{ℕ, sym, subst}
use Rattle.std.proofs.lemmas.List.{length-map}
use Rattle.hart_states.specs.States.{listed, state_of, stored_of}
use Rattle.early_reads.specs.Checking.{map_of}
use Rattle.late_spots.specs.declared.opening.Opened.TheVariants.{ByMap, Nothing}
use Rattle.late_spots.specs.Onward.{IsOpened}
use Rattle.late_spots.proofs.Settling.{passes_all, passes_none, passes_these}
use Rattle.late_spots.proofs.opening.opens_passed.Goals as goal

pub returns-in-Nothing : goal.returns-in-Nothing
returns-in-Nothing c = λ held.
    let f = map_of c.args.points.now in
    let a = state_of c.args.state.now in
    passes_none f c.args.stays.now (listed c.args.list.now) c.args.owes a c.args.access.now
    (subst (λ (b : ℕ). IsOpened Nothing f b c.args.owes a c.args.access.now) (sym (length-map c.args.list.now stored_of)) c.in-Nothing.ensures)

pub returns-in-Some : goal.returns-in-Some
returns-in-Some c = λ held.
    let f = map_of c.args.points.now in
    let a = state_of c.args.state.now in
    passes_these f c.args.stays.now (listed c.args.list.now) c.args.owes a c.args.access.now c.in-Some.set.now
    (subst (λ (b : ℕ). IsOpened ByMap f b c.args.owes a c.args.access.now) (sym (length-map c.args.list.now stored_of)) c.in-ByMap.ensures) c.in-Some.ensures (c.has_passed.ensures held)

pub returns-in-None : goal.returns-in-None
returns-in-None c = λ held.
    passes_all (map_of c.args.points.now) c.args.stays.now (listed c.args.list.now) c.args.owes (state_of c.args.state.now) c.args.access.now (c.has_passed_all.ensures held)

pub returns-in-All : goal.returns-in-All
returns-in-All c = λ held.
    passes_all (map_of c.args.points.now) c.args.stays.now (listed c.args.list.now) c.args.owes (state_of c.args.state.now) c.args.access.now (c.has_passed_all-in-All.ensures held)
