use Rattle.std.proofs.Common.{ℕ, List, Contains, length, refl, subst, sym}
use Rattle.std.specs.Global.{Vec}
use Rattle.all_endings.specs.Walking.{AreEndsOf, ending_with}
use Rattle.hart_ends.specs.Told.{bytes_told, table_told, ways_told}
use Rattle.hart_ends.specs.declared.ends.HartEnd.{HartEnd}
use Rattle.own_moves.specs.Owned.{owns_of}
use Rattle.all_checker.proofs.Taken.{taken_more}
use Rattle.all_checker.proofs.taking.take_in.Goals as goal

pub returns-clause-taken : goal.returns-clause-taken
returns-clause-taken c =
    let owns = owns_of c.args.program.now.owned.now in
    let k = c.args.program.now.steps in
    let image = c.args.program.now.pages.now.memory in
    let harts = length c.args.program.now.maps.now in
    let sight = c.args.sight in
    let table = table_told c.add_endings.new.table.items in
    taken_more owns k image c.args.guest.now.harts.now c.args.guest.now.see.now harts c.args.taken.now _ sight c.requires.harts c.requires.fresh c.requires.taken c.requires.more c.requires.sight
    c.in_ok-add_all.ensures.grow c.in_ok-add_all.ensures.have c.in_ok-add_endings.ensures.kept
    (λ es all. subst (λ (bs : List (Vec ℕ)). Contains table (ending_with es (bytes_told bs))) c.deref-2.ensures.value
    (c.in_ok-add_endings.ensures.added es (subst (λ (ws : List (Vec HartEnd)). AreEndsOf (ways_told ws) es) (sym c.deref.ensures.value) all)))
    refl
