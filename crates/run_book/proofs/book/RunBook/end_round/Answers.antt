use Rattle.std.proofs.Common.{inl, inr, ◌-◌, Vec, Global, [], ◌∷◌, sym, refl, ap, ◌∙◌, arith, vec_capacity, subst, length}
use Rattle.atomic_table.specs.Table.{rest}
use Rattle.run_book.specs.Known.{Known, TakesRound, known}
use Rattle.run_book.specs.Rule.{Ended}
use Rattle.run_book.specs.Sitters.{sitter, with_turn, without_lock}
use Rattle.run_book.proofs.Locking.{returns}
use Rattle.run_book.proofs.Putting.{after_try, after_turn, counts_after, given_back, locked_as, same_value, sits_in, stands_in, takes_round}
use Rattle.run_book.proofs.book.RunBook.end_round.Goals as goal

pub overflow_cast-count : goal.overflow_cast-count
overflow_cast-count g c =
    let x = sitter c.s.inside.place.me.0 in
    let l = c.len-count.ensures ∙ c.take-history.result.0.ok.0 in
    let k = c.s.invariant.harts_are in
    let few = c.take-history.ensures.taken.finds.few in
    let small = c.s.ranges.1 in
    omega arith

pub try_turn-requires-clause-number : goal.try_turn-requires-clause-number
try_turn-requires-clause-number g c =
    let x = sitter c.s.inside.place.me.0 in
    let h = c.take-history.ensures.taken in
    let z = locked_as (λ (v : Vec g.row.E.Denot Global). v.items) (λ (v : Vec g.row.E.Denot Global). vec_capacity v) g.E.Entry.turn g.E.Entry.seat x h.before c.take-history.result.0 in
    let here = sits_in (λ (v : Vec g.row.E.Denot Global). v.items) (λ (v : Vec g.row.E.Denot Global). vec_capacity v) g.E.Entry.turn g.E.Entry.seat z c.take-history.new.place.me c.args.blank h.is in
    ap (λ w. w.number) (sym here.1) ∙ (ap (λ k. k.number) c.s.view_is ∙ c.requires.number)

pub try_turn-requires-clause-holds : goal.try_turn-requires-clause-holds
try_turn-requires-clause-holds g c =
    let x = sitter c.s.inside.place.me.0 in
    let h = c.take-history.ensures.taken in
    let z = locked_as (λ (v : Vec g.row.E.Denot Global). v.items) (λ (v : Vec g.row.E.Denot Global). vec_capacity v) g.E.Entry.turn g.E.Entry.seat x h.before c.take-history.result.0 in
    let here = sits_in (λ (v : Vec g.row.E.Denot Global). v.items) (λ (v : Vec g.row.E.Denot Global). vec_capacity v) g.E.Entry.turn g.E.Entry.seat z c.take-history.new.place.me c.args.blank h.is in
    (here.0, ap (λ w. w.holding) (sym here.1), ap (λ w. length w.page) (sym here.1) ∙ sym (c.len-count.ensures ∙ c.take-history.result.0.ok.0))

pub store-requires : goal.store-requires
store-requires g c =
    let k = c.self.inside in
    let x = sitter c.s.inside.place.me.0 in
    let h = c.take-history.ensures.taken in
    let z = locked_as (λ (v : Vec g.row.E.Denot Global). v.items) (λ (v : Vec g.row.E.Denot Global). vec_capacity v) g.E.Entry.turn g.E.Entry.seat x h.before c.take-history.result.0 in
    let here = sits_in (λ (v : Vec g.row.E.Denot Global). v.items) (λ (v : Vec g.row.E.Denot Global). vec_capacity v) g.E.Entry.turn g.E.Entry.seat z c.take-history.new.place.me c.args.blank h.is in
    let q = c.try_turn.new.place in
    let t = c.try_turn.ensures.turned c.if-try_turn.true in
    let alone = t.1 ∙ ap (λ w. with_turn c.args.next w ∷ []) (sym here.1) in
    let carries = t.0 ∙ ap (λ m. m.1) h.is in (
      c.try_turn.ensures.table ∙ (c.take-history.ensures.table ∙ (ap (λ k. k.table) c.s.view_is ∙ (c.requires.table ∙ sym (ap (λ k. k.table) c.self.view_is)))),
      (let w = c.self.invariant.0 in omega arith),
      returns (λ (v : Vec g.row.E.Denot Global). v.items) (λ (v : Vec g.row.E.Denot Global). vec_capacity v) g.E.Entry.turn g.E.Entry.seat k.table.shared.key k.table.shared.table_id.slots q.id q.me (with_turn c.args.next z) c.args.blank c.take-history.result.1 c.self.invariant.1 alone carries refl c.requires.blank.0
          (inr (let a = c.requires.blank.1 in let v = ap (λ y. y.harts) c.self.view_is in omega arith)) h.finds.position_is,
    )

pub invariant_of-s : goal.invariant_of-s
invariant_of-s g c =
    let s = c.s.inside in
    let x = sitter s.place.me.0 in
    let now = c.take-history.result.0 in
    let h = c.take-history.ensures.taken in
    let z = locked_as (λ (v : Vec g.row.E.Denot Global). v.items) (λ (v : Vec g.row.E.Denot Global). vec_capacity v) g.E.Entry.turn g.E.Entry.seat x h.before now in
    let here = sits_in (λ (v : Vec g.row.E.Denot Global). v.items) (λ (v : Vec g.row.E.Denot Global). vec_capacity v) g.E.Entry.turn g.E.Entry.seat z c.take-history.new.place.me c.args.blank h.is in
    let t = c.try_turn.ensures.turned c.if-try_turn.true in
    let alone = t.1 ∙ ap (λ w. with_turn c.args.next w ∷ []) (sym here.1) in
    let carries = t.0 ∙ ap (λ m. m.1) h.is in
    counts_after (λ (v : Vec g.row.E.Denot Global). v.items) (λ (v : Vec g.row.E.Denot Global). vec_capacity v) g.E.Entry.turn g.E.Entry.seat x (after_turn (λ (v : Vec g.row.E.Denot Global). v.items) (λ (v : Vec g.row.E.Denot Global). vec_capacity v) g.E.Entry.turn g.E.Entry.seat x h.before now c.args.next) s.place.me c.store.new.seat.me s.number s.harts s.round c.args.next s.own s.own s.seen (c.take-history.result.1 - 1) refl c.s.invariant
    (c.store.ensures.2.0 ∙ ap (λ v. without_lock (sitter v) ∷ []) alone) (c.store.ensures.2.1 ∙ ap rest carries) refl refl refl refl c.s.invariant.own_is (let p = h.finds.position_is in omega arith)

pub returns-then-try_turn-clause-taken : goal.returns-then-try_turn-clause-taken
returns-then-try_turn-clause-taken g c =
    let s = c.s.inside in
    let x = sitter s.place.me.0 in
    let now = c.take-history.result.0 in
    let h = c.take-history.ensures.taken in
    let z = locked_as (λ (v : Vec g.row.E.Denot Global). v.items) (λ (v : Vec g.row.E.Denot Global). vec_capacity v) g.E.Entry.turn g.E.Entry.seat x h.before now in
    let here = sits_in (λ (v : Vec g.row.E.Denot Global). v.items) (λ (v : Vec g.row.E.Denot Global). vec_capacity v) g.E.Entry.turn g.E.Entry.seat z c.take-history.new.place.me c.args.blank h.is in
    let t = c.try_turn.ensures.turned c.if-try_turn.true in
    let alone = t.1 ∙ ap (λ w. with_turn c.args.next w ∷ []) (sym here.1) in
    let p = c.store.new.seat in
    let ended = subst (Ended g.E.Entry.turn g.E.Entry.seat _) (sym here.1) t.2 in
    subst (λ (k : Known g.row.E.Denot). TakesRound g.E.Entry.turn g.E.Entry.seat g.E.Entry.right k c.args.next now.items (known p.table_id (sitter p.me.0))) c.s.view_is
    (takes_round (λ (v : Vec g.row.E.Denot Global). v.items) (λ (v : Vec g.row.E.Denot Global). vec_capacity v) g.E.Entry.turn g.E.Entry.seat g.E.Entry.right g.met.E.Entry.is_right s.place.table_id p.table_id x p.me h.before now _ c.args.next
    (c.store.ensures.0 ∙ (c.try_turn.ensures.table ∙ c.take-history.ensures.table)) (h.finds.gone (ap (λ k. k.number) c.s.view_is ∙ c.requires.number))
    (c.store.ensures.2.0 ∙ ap (λ v. without_lock (sitter v) ∷ []) alone) (let l = c.len-count.ensures ∙ now.ok.0 in let r = c.s.invariant.round_is in omega arith) ended)

pub replace_slot-back-requires : goal.replace_slot-back-requires
replace_slot-back-requires g c =
    let x = sitter c.s.inside.place.me.0 in
    let h = c.take-history.ensures.taken in
    let z = locked_as (λ (v : Vec g.row.E.Denot Global). v.items) (λ (v : Vec g.row.E.Denot Global). vec_capacity v) g.E.Entry.turn g.E.Entry.seat x h.before c.take-history.result.0 in
    let at = c.try_turn.ensures.same c.if-try_turn.false ∙ h.is in (
      c.try_turn.ensures.table ∙ (c.take-history.ensures.table ∙ (ap (λ k. k.table) c.s.view_is ∙ (c.requires.table ∙ sym (ap (λ k. k.table) c.self.view_is)))),
      stands_in (λ (v : Vec g.row.E.Denot Global). v.items) (λ (v : Vec g.row.E.Denot Global). vec_capacity v) g.E.Entry.turn g.E.Entry.seat z c.try_turn.new.place.me c.args.blank at,
    )

pub store-requires-2 : goal.store-requires-2
store-requires-2 g c =
    let k = c.self.inside in
    let x = sitter c.s.inside.place.me.0 in
    let now = c.take-history.result.0 in
    let h = c.take-history.ensures.taken in
    let z = locked_as (λ (v : Vec g.row.E.Denot Global). v.items) (λ (v : Vec g.row.E.Denot Global). vec_capacity v) g.E.Entry.turn g.E.Entry.seat x h.before now in
    let at = c.try_turn.ensures.same c.if-try_turn.false ∙ h.is in
    let r = c.replace_slot-back.new.place in
    let again = given_back (λ (v : Vec g.row.E.Denot Global). v.items) (λ (v : Vec g.row.E.Denot Global). vec_capacity v) g.E.Entry.turn g.E.Entry.seat z c.try_turn.new.place.me r.me c.args.blank now at c.replace_slot-back.ensures.3 in (
      c.replace_slot-back.ensures.0 ∙ (c.try_turn.ensures.table ∙ (c.take-history.ensures.table ∙ (ap (λ k. k.table) c.s.view_is ∙ (c.requires.table ∙ sym (ap (λ k. k.table) c.self.view_is))))),
      (let w = c.self.invariant.0 in omega arith),
      returns (λ (v : Vec g.row.E.Denot Global). v.items) (λ (v : Vec g.row.E.Denot Global). vec_capacity v) g.E.Entry.turn g.E.Entry.seat k.table.shared.key k.table.shared.table_id.slots r.id r.me z now c.take-history.result.1 c.self.invariant.1 (ap (λ m. m.0) again) (ap (λ m. m.1) again) refl refl (inl h.finds.spare) h.finds.position_is,
    )

pub invariant_of-s-2 : goal.invariant_of-s-2
invariant_of-s-2 g c =
    let s = c.s.inside in
    let x = sitter s.place.me.0 in
    let now = c.take-history.result.0 in
    let h = c.take-history.ensures.taken in
    let z = locked_as (λ (v : Vec g.row.E.Denot Global). v.items) (λ (v : Vec g.row.E.Denot Global). vec_capacity v) g.E.Entry.turn g.E.Entry.seat x h.before now in
    let at = c.try_turn.ensures.same c.if-try_turn.false ∙ h.is in
    let again = given_back (λ (v : Vec g.row.E.Denot Global). v.items) (λ (v : Vec g.row.E.Denot Global). vec_capacity v) g.E.Entry.turn g.E.Entry.seat z c.try_turn.new.place.me c.replace_slot-back.new.place.me c.args.blank now at c.replace_slot-back.ensures.3 in
    counts_after (λ (v : Vec g.row.E.Denot Global). v.items) (λ (v : Vec g.row.E.Denot Global). vec_capacity v) g.E.Entry.turn g.E.Entry.seat x (after_try (λ (v : Vec g.row.E.Denot Global). v.items) (λ (v : Vec g.row.E.Denot Global). vec_capacity v) g.E.Entry.turn g.E.Entry.seat x h.before now) s.place.me c.store-2.new.seat.me s.number s.harts s.round s.round s.own s.own s.seen (c.take-history.result.1 - 1) refl c.s.invariant
    (c.store-2.ensures.2.0 ∙ ap (λ m. without_lock (sitter m.0) ∷ []) again) (c.store-2.ensures.2.1 ∙ ap (λ m. rest m.1) again) refl refl refl c.s.invariant.round_is c.s.invariant.own_is (let p = h.finds.position_is in omega arith)

pub returns-clause-back : goal.returns-clause-back
returns-clause-back g c =
    let x = sitter c.s.inside.place.me.0 in
    let now = c.take-history.result.0 in
    let h = c.take-history.ensures.taken in
    let z = locked_as (λ (v : Vec g.row.E.Denot Global). v.items) (λ (v : Vec g.row.E.Denot Global). vec_capacity v) g.E.Entry.turn g.E.Entry.seat x h.before now in
    let at = c.try_turn.ensures.same c.if-try_turn.false ∙ h.is in
    same_value (λ (v : Vec g.row.E.Denot Global). v.items) (λ (v : Vec g.row.E.Denot Global). vec_capacity v) g.E.Entry.turn g.E.Entry.seat z c.try_turn.new.place.me c.args.blank c.replace_slot-back.result at c.replace_slot-back.ensures.2
