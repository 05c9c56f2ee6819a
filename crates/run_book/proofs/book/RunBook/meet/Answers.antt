use Rattle.std.proofs.Common.{Vec, Global, sym, refl, ap, ◌∙◌, arith, vec_capacity, [], ◌++◌}
use Rattle.run_book.specs.Sitters.{first_of, others_of}
use Rattle.run_book.proofs.Dealing.{joins, rejoined, splits}
use Rattle.run_book.proofs.Meeting.{compares, two_of}
use Rattle.run_book.proofs.book.RunBook.meet.Goals as goal

pub split_seat-other-requires : goal.split_seat-other-requires
split_seat-other-requires g c =
    let b = c.self.inside in
    let s = c.b.inside in (
      ap (λ k. k.table) c.b.view_is ∙ (c.requires.1 ∙ sym (ap (λ k. k.table) c.self.view_is)),
      (let w = c.self.invariant.0 in omega arith),
      splits (λ (v : Vec g.row.E.Denot Global). v.items) (λ (v : Vec g.row.E.Denot Global). vec_capacity v) g.E.Entry.turn g.E.Entry.seat b.table.shared.key s.place.id s.place.me.0 [] s.place.me.0 refl,
    )

pub join_seat-requires : goal.join_seat-requires
join_seat-requires g c =
    let b = c.self.inside in
    let s = c.a.inside in
    let o = c.split_seat-other.result in
    let e = c.split_seat-other.ensures in
    let of_b = ap (λ k. k.table) c.b.view_is ∙ (c.requires.1 ∙ sym (ap (λ k. k.table) c.self.view_is)) in (
      ap (λ k. k.table) c.a.view_is ∙ (c.requires.0 ∙ sym (ap (λ k. k.table) c.self.view_is)),
      e.3 ∙ of_b,
      ap (λ m. m.1) e.4,
      (let w = c.self.invariant.0 in omega arith),
      joins (λ (v : Vec g.row.E.Denot Global). v.items) (λ (v : Vec g.row.E.Denot Global). vec_capacity v) g.E.Entry.turn g.E.Entry.seat b.table.shared.key s.place.id s.place.me.0 o.id o.me.0,
    )

pub load-requires : goal.load-requires
load-requires g c =
    let b = c.self.inside in
    let m = c.join_seat.new.seat in
    let e = c.split_seat-other.ensures in
    let j = c.join_seat.ensures in
    let t = two_of m.me c.a.inside.place.me.0 c.b.inside.place.me.0 (ap (λ z. z.0) j.2 ∙ ap (λ z. c.a.inside.place.me.0 ++ z.0) e.4) c.a.invariant.rest.alone c.b.invariant.rest.alone in (
      j.0 ∙ (ap (λ k. k.table) c.a.view_is ∙ (c.requires.0 ∙ sym (ap (λ k. k.table) c.self.view_is))),
      (let w = c.self.invariant.0 in omega arith),
      compares (λ (v : Vec g.row.E.Denot Global). v.items) (λ (v : Vec g.row.E.Denot Global). vec_capacity v) g.E.Entry.turn g.E.Entry.seat b.table.shared.key b.table.shared.table_id.slots m.id m.me
          t.two (ap (λ x. x.holding) t.first_is ∙ c.a.invariant.rest.idle) (ap (λ x. x.holding) t.second_is ∙ c.b.invariant.rest.idle),
    )

pub split_seat-requires : goal.split_seat-requires
split_seat-requires g c =
    let b = c.self.inside in
    let m = c.load.new.seat in (
      c.load.ensures.0 ∙ (c.join_seat.ensures.0 ∙ (ap (λ k. k.table) c.a.view_is ∙ (c.requires.0 ∙ sym (ap (λ k. k.table) c.self.view_is)))),
      (let w = c.self.invariant.0 in omega arith),
      splits (λ (v : Vec g.row.E.Denot Global). v.items) (λ (v : Vec g.row.E.Denot Global). vec_capacity v) g.E.Entry.turn g.E.Entry.seat b.table.shared.key m.id m.me.0 (first_of m.me.0)
          (others_of m.me.0) (rejoined m.me.0),
    )
