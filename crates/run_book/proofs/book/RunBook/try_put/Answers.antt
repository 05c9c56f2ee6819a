use Rattle.std.proofs.Common.{◌+◌, Vec, Global, sym, refl, ap, ◌∙◌, arith, vec_capacity, subst}
use Rattle.run_book.specs.Histories.{harts_of}
use Rattle.run_book.specs.Known.{Known, Puts, known}
use Rattle.run_book.specs.Lists.{has}
use Rattle.run_book.specs.Sitters.{sitter}
use Rattle.run_book.proofs.Locking.{releases}
use Rattle.run_book.proofs.Putting.{after_put, counts_after, fits_more, freed_after, given_back, locked_as, one_more, puts_after, seen_more, stands_in}
use Rattle.run_book.proofs.book.RunBook.try_put.Goals as goal

pub replace_slot-nothing-requires : goal.replace_slot-nothing-requires
replace_slot-nothing-requires g c =
    let x = sitter c.s.inside.place.me.0 in
    let now = c.in-Ok.history in
    let h = c.in-Ok.ensures.taken in
    let z = locked_as (λ (v : Vec g.row.E.Denot Global). v.items) (λ (v : Vec g.row.E.Denot Global). vec_capacity v) g.E.Entry.turn g.E.Entry.seat x h.before now in (
      c.in-Ok.ensures.table ∙ (ap (λ k. k.table) c.s.view_is ∙ (c.requires.table ∙ sym (ap (λ k. k.table) c.self.view_is))),
      stands_in (λ (v : Vec g.row.E.Denot Global). v.items) (λ (v : Vec g.row.E.Denot Global). vec_capacity v) g.E.Entry.turn g.E.Entry.seat z c.try_take.new.place.me c.new.result h.is,
    )

pub store-requires : goal.store-requires
store-requires g c =
    let t = c.self.inside in
    let x = sitter c.s.inside.place.me.0 in
    let now = c.in-Ok.history in
    let h = c.in-Ok.ensures.taken in
    let z = locked_as (λ (v : Vec g.row.E.Denot Global). v.items) (λ (v : Vec g.row.E.Denot Global). vec_capacity v) g.E.Entry.turn g.E.Entry.seat x h.before now in
    let w = c.push_reserved.new.self in
    let e = c.args.e in
    let b = c.replace_slot-nothing.new.place in
    let back = given_back (λ (v : Vec g.row.E.Denot Global). v.items) (λ (v : Vec g.row.E.Denot Global). vec_capacity v) g.E.Entry.turn g.E.Entry.seat z c.try_take.new.place.me b.me c.new.result w h.is c.replace_slot-nothing.ensures.3 in (
      c.replace_slot-nothing.ensures.0 ∙ (c.in-Ok.ensures.table ∙ (ap (λ k. k.table) c.s.view_is ∙ (c.requires.table ∙ sym (ap (λ k. k.table) c.self.view_is)))),
      (let l = c.self.invariant.0 in omega arith),
      releases (λ (v : Vec g.row.E.Denot Global). v.items) (λ (v : Vec g.row.E.Denot Global). vec_capacity v) g.E.Entry.turn g.E.Entry.seat t.table.shared.key t.table.shared.table_id.slots b.id b.me
          z w e (c.in-Ok.position + 1) c.self.invariant.1 (ap (λ m. m.0) back) (ap (λ m. m.1) back) record {
            holding = refl;
            pushed = c.push_reserved.ensures.items;
            wide_room = (let a = h.finds.spare in let k = c.push_reserved.ensures.capacity in omega arith);
            mine = c.requires.claimed.0 ∙ sym (ap (λ k. k.number) c.s.view_is);
            claimed = ap (λ (k : Known g.row.E.Denot). has k.claims (g.E.Entry.turn e)) c.s.view_is ∙ c.requires.claimed.1;
            lacks = ap (λ (k : Known g.row.E.Denot). has (harts_of g.E.Entry.turn g.E.Entry.seat k.own) (g.E.Entry.turn e)) c.s.view_is ∙ c.requires.unput;
          } (let p = h.finds.position_is in omega arith),
    )

pub invariant_of-s-2 : goal.invariant_of-s-2
invariant_of-s-2 g c =
    let s = c.s.inside in
    let x = sitter s.place.me.0 in
    let now = c.in-Ok.history in
    let h = c.in-Ok.ensures.taken in
    let z = locked_as (λ (v : Vec g.row.E.Denot Global). v.items) (λ (v : Vec g.row.E.Denot Global). vec_capacity v) g.E.Entry.turn g.E.Entry.seat x h.before now in
    let w = c.push_reserved.new.self in
    let b = c.replace_slot-nothing.new.place in
    let back = given_back (λ (v : Vec g.row.E.Denot Global). v.items) (λ (v : Vec g.row.E.Denot Global). vec_capacity v) g.E.Entry.turn g.E.Entry.seat z c.try_take.new.place.me b.me c.new.result w h.is c.replace_slot-nothing.ensures.3 in
    let p = c.store.new.seat in
    let freed = freed_after (λ (v : Vec g.row.E.Denot Global). v.items) (λ (v : Vec g.row.E.Denot Global). vec_capacity v) g.E.Entry.turn g.E.Entry.seat z b.me p.me w back c.store.ensures.2 in
    counts_after (λ (v : Vec g.row.E.Denot Global). v.items) (λ (v : Vec g.row.E.Denot Global). vec_capacity v) g.E.Entry.turn g.E.Entry.seat x (after_put (λ (v : Vec g.row.E.Denot Global). v.items) (λ (v : Vec g.row.E.Denot Global). vec_capacity v) g.E.Entry.turn g.E.Entry.seat x h.before now w) s.place.me p.me s.number s.harts s.round s.round s.own (s.own + 1) s.seen c.in-Ok.position refl c.s.invariant freed.0 freed.1 refl refl refl c.s.invariant.round_is
    (one_more (λ (v : Vec g.row.E.Denot Global). v.items) (λ (v : Vec g.row.E.Denot Global). vec_capacity v) g.E.Entry.turn g.E.Entry.seat x h.before now w s.own c.args.e c.s.invariant.own_is c.push_reserved.ensures.items)
    (seen_more (λ (v : Vec g.row.E.Denot Global). v.items) (λ (v : Vec g.row.E.Denot Global). vec_capacity v) g.E.Entry.turn g.E.Entry.seat x h.before now w c.in-Ok.position c.args.e h.finds c.push_reserved.ensures.items)

pub returns-clause-put : goal.returns-clause-put
returns-clause-put g c =
    let s = c.s.inside in
    let x = sitter s.place.me.0 in
    let now = c.in-Ok.history in
    let h = c.in-Ok.ensures.taken in
    let z = locked_as (λ (v : Vec g.row.E.Denot Global). v.items) (λ (v : Vec g.row.E.Denot Global). vec_capacity v) g.E.Entry.turn g.E.Entry.seat x h.before now in
    let w = c.push_reserved.new.self in
    let b = c.replace_slot-nothing.new.place in
    let back = given_back (λ (v : Vec g.row.E.Denot Global). v.items) (λ (v : Vec g.row.E.Denot Global). vec_capacity v) g.E.Entry.turn g.E.Entry.seat z c.try_take.new.place.me b.me c.new.result w h.is c.replace_slot-nothing.ensures.3 in
    let p = c.store.new.seat in
    let freed = freed_after (λ (v : Vec g.row.E.Denot Global). v.items) (λ (v : Vec g.row.E.Denot Global). vec_capacity v) g.E.Entry.turn g.E.Entry.seat z b.me p.me w back c.store.ensures.2 in
    subst (λ (k : Known g.row.E.Denot). Puts g.E.Entry.turn g.E.Entry.seat g.E.Entry.right k c.args.e (known p.table_id (sitter p.me.0))) c.s.view_is
    (puts_after (λ (v : Vec g.row.E.Denot Global). v.items) (λ (v : Vec g.row.E.Denot Global). vec_capacity v) g.E.Entry.turn g.E.Entry.seat g.E.Entry.right g.met.E.Entry.is_right s.place.table_id p.table_id c.in-Ok.position x c.try_take.new.place.me p.me now c.new.result w c.args.e
    (c.store.ensures.0 ∙ (c.replace_slot-nothing.ensures.0 ∙ c.in-Ok.ensures.table)) h freed.0 c.push_reserved.ensures.items (c.requires.claimed.0 ∙ sym (ap (λ k. k.number) c.s.view_is)) freed.2)

pub overflow_add-s : goal.overflow_add-s
overflow_add-s g c =
    let x = sitter c.s.inside.place.me.0 in
    let few = fits_more (λ (v : Vec g.row.E.Denot Global). v.items) (λ (v : Vec g.row.E.Denot Global). vec_capacity v) g.E.Entry.turn g.E.Entry.seat x c.in-Ok.ensures.taken.before c.in-Ok.history c.in-Ok.position c.s.inside.own c.in-Ok.ensures.taken.finds c.s.invariant.own_is in
    omega arith
