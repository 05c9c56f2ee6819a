use Rattle.std.proofs.Common.{◌≡◌, Vec, Global, sym, ap, ◌∙◌, arith, vec_capacity, vec_len, [], ◌∷◌, ◌++◌, map, subst}
use Rattle.std.specs.Slots.{slots_items}
use Rattle.run_book.specs.Closing.{IsClosed, gone_of}
use Rattle.run_book.specs.Known.{Known, known}
use Rattle.run_book.specs.Lists.{Each}
use Rattle.run_book.specs.Sitters.{held, sitter, sum_in}
use Rattle.run_book.proofs.Dealing.{joins}
use Rattle.run_book.proofs.Ending.{closes, joined_idle, joined_view, length_none, none_popped, taken_off}
use Rattle.run_book.proofs.Lists.{each_right}
use Rattle.run_book.proofs.book.RunBook.close.Goals as goal

pub join_seat-requires : goal.join_seat-requires
join_seat-requires g c =
    let i = c.loop-seat.invariant in
    let b = c.self.inside in
    let k = c.in-Some-pop.seat in
    let rest = c.pop-in-loop-seat.new.self.items in
    let ps = map (known b.table.shared.table_id) c.loop-seat.all.me.0 in
    let all = taken_off c.args.seats.items c.loop-seat.seats.items rest k ps i.3 c.in-Some-pop.ensures.items in
    let P : Known g.row.E.Denot → Type 0 = λ l. l.table ≡ c.args.self.table in
    let table = (each_right P rest (k ∷ ps) (subst (Each P) all c.requires.table)).0 in (
      ap (λ z. z.table) c.seat.view_is ∙ (table ∙ sym (ap (λ z. z.table) c.self.view_is)),
      i.0,
      i.1,
      (let w = c.self.invariant.0 in omega arith),
      joins (λ (v : Vec g.row.E.Denot Global). v.items) (λ (v : Vec g.row.E.Denot Global). vec_capacity v) g.E.Entry.turn g.E.Entry.seat b.table.shared.key c.seat.inside.place.id c.seat.inside.place.me.0 c.loop-seat.all.id c.loop-seat.all.me.0,
    )

pub loop-seat-preserved : goal.loop-seat-preserved
loop-seat-preserved g c =
    let i = c.loop-seat.invariant in
    let b = c.self.inside in
    let k = c.in-Some-pop.seat in
    let rest = c.pop-in-loop-seat.new.self.items in
    let ps = map (known b.table.shared.table_id) c.loop-seat.all.me.0 in
    let all = taken_off c.args.seats.items c.loop-seat.seats.items rest k ps i.3 c.in-Some-pop.ensures.items in
    let P : Known g.row.E.Denot → Type 0 = λ l. l.table ≡ c.args.self.table in
    let table = (each_right P rest (k ∷ ps) (subst (Each P) all c.requires.table)).0 in
    let p = c.seat.inside.place in
    let r = c.seat.invariant.rest in
    let same = ap (λ z. z.table) c.seat.view_is ∙ (table ∙ sym (ap (λ z. z.table) c.self.view_is)) in
    let k_is = ap (λ u. known u (sitter p.me.0)) (sym same) ∙ c.seat.view_is in
    let j = c.join_seat.ensures in
    let view = ap (λ m. m.0) j.2 in (
      j.0 ∙ same,
      ap (λ m. m.1) j.2 ∙ r.empty,
      ap (sum_in held) view ∙ joined_idle p.me.0 c.loop-seat.all.me.0 r.alone r.idle i.2,
      all ∙ ap (λ l. rest ++ l) (sym (ap (map (known b.table.shared.table_id)) view ∙ joined_view b.table.shared.table_id p.me.0 c.loop-seat.all.me.0 k r.alone k_is)),
    )

pub returns : goal.returns
returns g c =
    let i = c.loop-seat.invariant in
    let none = none_popped (vec_len c.loop-seat.seats) c.in_default-pop.ensures.variant.1 in
    let empty : c.loop-seat.seats.items ≡ [] = length_none c.loop-seat.seats.items (sym c.loop-seat.seats.ok.0 ∙ none) in
    let b = c.self.inside in
    let harts = ap (λ z. z.harts) c.self.view_is in
    subst (λ n. IsClosed g.E.Entry.turn g.E.Entry.seat g.E.Entry.right n c.args.seats.items (gone_of c.args.seats.items ++ c.take-history.result.items) c.take-history.result.items) harts
    (closes (λ (v : Vec g.row.E.Denot Global). v.items) (λ (v : Vec g.row.E.Denot Global). vec_capacity v) g.E.Entry.turn g.E.Entry.seat b.table.shared.key g.E.Entry.right g.met.E.Entry.is_right b.table.shared.table_id c.loop-seat.all.id c.args.seats.items c.loop-seat.all.me.0
    (slots_items c.close_with-closed.result.words) (slots_items c.close_with-closed.result.slots) c.take-history.result c.close_with-closed.ensures.values.2 c.self.invariant.3
    (c.requires.all ∙ sym (ap (λ z. z.seats) c.self.view_is)) (i.3 ∙ ap (λ l. l ++ map (known b.table.shared.table_id) c.loop-seat.all.me.0) empty) i.2 c.take-history.ensures.value)
