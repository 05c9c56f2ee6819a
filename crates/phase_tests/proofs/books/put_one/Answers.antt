use Rattle.std.proofs.Common.{ℕ, ap, ◌∙◌}
use Rattle.run_book.specs.Turns.{turn_of}
use Rattle.run_book.proofs.Working.{honest_claim, honest_put, may_put}
use Rattle.phase_tests.specs.declared.books.Mark.{Mark}
use Rattle.phase_tests.proofs.books.put_one.Goals as goal

abbrev turn_in : Mark → ℕ
turn_in e = turn_of e.ticket.round e.ticket.hart

abbrev seat_of : Mark → ℕ
seat_of e = e.ticket.seat

pub try_put-requires-clause-claimed : goal.try_put-requires-clause-claimed
try_put-requires-clause-claimed c =
    let t = c.in-Some.ticket in
    let m = may_put turn_in seat_of c.args.book.now.table c.args.book.now.harts c.args.s.now c.claim.new.s (turn_of c.args.round t.hart) (let e : Mark = record { ticket = t } in e) c.requires c.in-Some.ensures.new c.in-Some.ensures.claims
    (ap (λ (r : ℕ). turn_of r t.hart) c.in-Some.ensures.named.0) c.in-Some.ensures.named.1 in
    (m.mine, m.claimed)

pub returns-in-Ok-clause-seat : goal.returns-in-Ok-clause-seat
returns-in-Ok-clause-seat c =
    let t = c.in-Some.ticket in
    honest_put turn_in seat_of (λ e. Unit {0}) c.args.book.now.table c.args.book.now.harts c.args.s.now c.claim.new.s c.try_put.new.s (turn_of c.args.round t.hart) (let e : Mark = record { ticket = t } in e) c.requires c.in-Some.ensures.claims
    (ap (λ (r : ℕ). turn_of r t.hart) c.in-Some.ensures.named.0) c.in-Ok.ensures.put

pub returns-in-Err-clause-seat : goal.returns-in-Err-clause-seat
returns-in-Err-clause-seat c =
    honest_claim turn_in seat_of c.args.book.now.table c.args.book.now.harts c.args.s.now c.try_put.new.s (turn_of c.args.round c.in-Some.ticket.hart) c.requires (c.in-Err.ensures.same ∙ c.in-Some.ensures.claims)
