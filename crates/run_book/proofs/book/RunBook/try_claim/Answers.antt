use Rattle.std.proofs.Common.{Vec, Global, sym, refl, ap, ◌∙◌, arith, vec_capacity}
use Rattle.run_book.proofs.Claiming.{claims}
use Rattle.run_book.proofs.book.RunBook.try_claim.Goals as goal

pub compare_exchange-requires : goal.compare_exchange-requires
compare_exchange-requires g c =
    let b = c.self.inside in
    let s = c.s.inside in (
      (ap (λ k. k.table) c.s.view_is ∙ (c.requires.table ∙ sym (ap (λ k. k.table) c.self.view_is))),
      (let w = c.self.invariant.0 in omega arith),
      claims (λ (v : Vec g.row.E.Denot Global). v.items) (λ (v : Vec g.row.E.Denot Global). vec_capacity v) g.E.Entry.turn g.E.Entry.seat b.table.shared.key b.table.shared.table_id.slots s.place.id s.place.me _ _ c.args.round c.s.invariant.rest refl (omega arith)
          (let h = c.requires.hart.0 in let k = c.self.invariant.2 in let v = ap (λ z. z.harts) c.self.view_is in omega arith),
    )

pub overflow_add-old-2 : goal.overflow_add-old-2
overflow_add-old-2 g c =
    let h = c.requires.hart.1 in
    let a = c.from.ensures in
    let b = c.from-2.ensures in
    let r = c.ranges.round in
    omega arith
