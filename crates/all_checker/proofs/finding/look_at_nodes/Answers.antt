use Rattle.std.proofs.Common.{arith}
use Rattle.hart_ends.specs.Told.{table_told}
use Rattle.own_moves.specs.Owned.{owns_of}
use Rattle.all_checker.proofs.Looked.{whole_from}
use Rattle.all_checker.proofs.finding.look_at_nodes.Goals as goal

pub loop-taken-init : goal.loop-taken-init
loop-taken-init g c =
    let none = c.in_ok-taken.ensures.none in
    record {
      first = c.in_ok-taken.ensures.first c.requires.fresh (owns_of c.args.program.now.owned.now) c.args.program.now.steps c.args.program.now.pages.now.memory;
      within = omega (arith, none);
      looked = λ j d l. absurd (omega (arith, l, none));
    }

pub returns : goal.returns
returns g c = λ console none.
    let i = c.loop-taken.invariant in
    let over = c.loop-taken-test.false in
    whole_from (owns_of c.args.program.now.owned.now) c.args.program.now.steps c.args.program.now.pages.now.memory c.args.guest.now.harts.now c.args.guest.now.see.now c.node_tables_are_whole.ensures
    c.loop-taken.taken.nodes.all.items (table_told c.loop-taken.taken.table.items) c.requires.fresh c.requires.room c.requires.nobodys i.first (λ j d l. i.looked j d (omega (arith, l, over))) console none
