use Rattle.std.proofs.Common.{◌+◌, Vec, Global, ap, ◌∙◌, arith, vec_capacity}
use Rattle.run_book.specs.Sitters.{first_of, newcomers_from, others_of, sitter}
use Rattle.run_book.proofs.Books.{counted_new, deal_one, new_sitter, next_sitters, one_less}
use Rattle.run_book.proofs.Dealing.{rejoined, splits}
use Rattle.run_book.proofs.book.deal.Goals as goal

pub split_seat-others-requires : goal.split_seat-others-requires
split_seat-others-requires g c =
    let s = c.loop-number.rest in (
      c.loop-number.invariant.0,
      c.requires.table.1,
      splits (λ (v : Vec g.row.E.Denot Global). v.items) (λ (v : Vec g.row.E.Denot Global). vec_capacity v) g.E.Entry.turn g.E.Entry.seat c.args.table.now.key s.id s.me.0 (first_of s.me.0) (others_of s.me.0) (rejoined s.me.0),
    )

pub invariant_of-push_reserved : goal.invariant_of-push_reserved
invariant_of-push_reserved g c =
    let i = c.loop-number.invariant in
    let s = c.loop-number.rest in
    let left = i.4.0 in
    let l = one_less left (omega (arith, i.4.1, c.loop-number-test.true)) in
    let view = next_sitters c.args.harts c.loop-number.number left l.0 s.me.0 i.4.2 l.1 in
    counted_new c.split_seat-others.new.seat.me s.me.0 c.args.harts c.loop-number.number (newcomers_from c.args.harts (c.loop-number.number + 1) l.0)
    (c.split_seat-others.ensures.2 ∙ ap (λ cs. (first_of s.me.0, cs)) i.1) view

pub loop-number-preserved : goal.loop-number-preserved
loop-number-preserved g c =
    let i = c.loop-number.invariant in
    let s = c.loop-number.rest in
    let e = c.split_seat-others.ensures in
    let left = i.4.0 in
    let l = one_less left (omega (arith, i.4.1, c.loop-number-test.true)) in
    let view = next_sitters c.args.harts c.loop-number.number left l.0 s.me.0 i.4.2 l.1 in
    let cut = e.2 ∙ ap (λ cs. (first_of s.me.0, cs)) i.1 in
    let count = i.4.1 in
    let less = l.1 in (
      e.3 ∙ i.0,
      ap (λ m. m.1) e.4,
      (let a = i.2 in let b = c.push_reserved.ensures.len in omega arith),
      (let a = i.3 in let b = c.push_reserved.ensures.capacity in omega arith),
      (
        l.0,
        omega arith,
        ap (λ m. m.0) e.4 ∙ ap others_of view,
        deal_one c.args.table.now.table_id c.split_seat-others.new.seat.table_id c.args.harts c.loop-number.number left l.0 _ c.loop-number.seats.items c.push_reserved.new.self.items
            (sitter c.split_seat-others.new.seat.me.0) c.push_reserved.ensures.items i.4.3 l.1 (e.0 ∙ i.0)
            (new_sitter c.split_seat-others.new.seat.me s.me.0 c.args.harts c.loop-number.number (newcomers_from c.args.harts (c.loop-number.number + 1) l.0) cut view),
      ),
    )
