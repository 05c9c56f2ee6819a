use Rattle.std.proofs.Common.{Vec, Global, arith, vec_capacity}
use Rattle.run_book.specs.Sitters.{sitter}
use Rattle.run_book.proofs.Turning.{turns}
use Rattle.run_book.proofs.book.try_turn.Goals as goal

pub compare_exchange-requires : goal.compare_exchange-requires
compare_exchange-requires g c =
    let m = c.args.place.now.me in
    let a = c.from.ensures in
    let b = c.from-2.ensures in
    let d = c.from-first.ensures in (
      c.requires.table.0,
      (let w = c.requires.table.1 in omega arith),
      turns (λ (v : Vec g.row.E.Denot Global). v.items) (λ (v : Vec g.row.E.Denot Global). vec_capacity v) g.E.Entry.turn g.E.Entry.seat c.args.words.now.key c.args.words.now.table_id.slots c.args.place.now.id m (sitter m.0) _ _ c.args.round c.args.next c.requires.holds.0 c.requires.number c.requires.holds.1
          (let l = c.requires.holds.2 in omega arith) (omega arith) c.requires.later (omega (arith, c.ranges.next)),
    )
