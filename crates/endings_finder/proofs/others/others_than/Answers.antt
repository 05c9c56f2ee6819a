use Rattle.std.proofs.Common.{ℕ, List, Contains, sym, ◌∙◌, subst}
use Rattle.hart_ends.specs.declared.ends.TableEnding.{TableEnding}
use Rattle.hart_ends.specs.Told.{table_told}
use Rattle.all_checker.specs.Tables.{IsFoundOf}
use Rattle.all_checker.specs.declared.finding.Found.{Found}
use Rattle.all_checker.specs.declared.finding.Found.TheVariants.{All}
use Rattle.endings_finder.proofs.Fresh.{fresh_as}
use Rattle.endings_finder.proofs.Whole.{found_whole}
use Rattle.endings_finder.proofs.others.others_than.Goals as goal

pub find_all-requires-clause-fresh : goal.find_all-requires-clause-fresh
find_all-requires-clause-fresh g c = λ lifetimes within.
    let n = c.args.guest.now.scripted.harts in
    fresh_as c.deref.result.now c.args.guest.now.program.now.entry n n (c.deref.ensures.value ∙ c.in_ok-harts.ensures.harts)

pub returns-in-All : goal.returns-in-All
returns-in-All g c = λ none.
    let guest = c.args.guest.now in
    let n = guest.scripted.harts in
    let memory = c.in_ok-memory.memory.memory in
    let starts = c.deref.result.now in
    let see = c.deref-2.result.now in
    let found = subst (λ (f : Found). IsFoundOf c.from.result memory starts see f) c.in-All.is c.in_ok-table.ensures in
    found_whole c.args.reach.steps guest.program.now guest.scripted.input.now n guest.ranges.now memory starts see c.in-All.table c.args.endings.now c.in_ok-memory.ensures
    (c.deref.ensures.value ∙ c.in_ok-harts.ensures.harts) (c.deref-2.ensures.value ∙ c.in_ok-see.ensures.ranges)
    (subst (λ (k : ℕ). IsFoundOf k memory starts see (All c.in-All.table)) c.from.ensures found)
    (λ e there. c.others_by.ensures none e (subst (λ (ts : List TableEnding). Contains (table_told ts) e) (sym c.deref-in-All.ensures.value) there))
