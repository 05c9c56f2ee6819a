use Rattle.std.proofs.Common.{Vec, Global, arith, ◌∙◌, vec_capacity}
use Rattle.run_book.specs.Sitters.{sitter}
use Rattle.run_book.proofs.Locking.{acquires}
use Rattle.run_book.proofs.Putting.{carried, has_taken}
use Rattle.run_book.proofs.book.try_take.Goals as goal

pub swap-position-requires : goal.swap-position-requires
swap-position-requires g c = (
  c.requires.table.0,
  (let w = c.requires.table.1 in omega arith),
  acquires (λ (v : Vec g.row.E.Denot Global). v.items) (λ (v : Vec g.row.E.Denot Global). vec_capacity v) g.E.Entry.turn g.E.Entry.seat c.args.words.now.key c.args.words.now.table_id.slots c.args.place.now.id c.args.place.now.me c.requires.rest,
)

pub replace_slot-requires : goal.replace_slot-requires
replace_slot-requires g c =
    let m = c.args.place.now.me in
    let n = c.swap-position.new.seat in (
      c.swap-position.ensures.0 ∙ c.requires.table.0,
      carried (λ (v : Vec g.row.E.Denot Global). v.items) (λ (v : Vec g.row.E.Denot Global). vec_capacity v) g.E.Entry.turn g.E.Entry.seat c.swap-position.result (sitter m.0) m n.me
          (c.swap-position.ensures.2.0 (let p = c.if-position-eq0.false in omega arith)) c.requires.rest.empty,
    )

pub returns-clause-taken : goal.returns-clause-taken
returns-clause-taken g c =
    let m = c.args.place.now.me in
    let n = c.swap-position.new.seat in
    has_taken (λ (v : Vec g.row.E.Denot Global). v.items) (λ (v : Vec g.row.E.Denot Global). vec_capacity v) g.E.Entry.turn g.E.Entry.seat c.swap-position.result (sitter m.0) m n.me c.replace_slot.new.place.me c.replace_slot.result c.args.blank
    (c.swap-position.ensures.2.0 (let p = c.if-position-eq0.false in omega arith)) c.requires.rest.empty c.replace_slot.ensures.2 c.replace_slot.ensures.3
