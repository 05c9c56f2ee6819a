use Rattle.std.proofs.Common.{ℕ, ap}
use Rattle.run_book.specs.Turns.{turn_of}
use Rattle.run_book.proofs.Working.{honest_put, may_put}
use Rattle.phase_tests.specs.declared.books.Mark.{Mark}
use Rattle.phase_tests.proofs.books.put_all.Invariants.{seat_of, turn_in}
use Rattle.phase_tests.proofs.books.put_all.Goals as goal

pub put-requires-clause-claimed : goal.put-requires-clause-claimed
put-requires-clause-claimed g c =
    let t = c.in-Some-claim.ticket in
    let m = may_put turn_in seat_of c.args.book.now.table c.args.book.now.harts c.loop.s c.claim.new.s (turn_of 0 t.hart) (let e : Mark = record { ticket = t } in e) c.loop.invariant c.in-Some-claim.ensures.new c.in-Some-claim.ensures.claims
    (ap (λ (r : ℕ). turn_of r t.hart) c.in-Some-claim.ensures.named.0) c.in-Some-claim.ensures.named.1 in
    (m.mine, m.claimed)

pub put-requires-clause-unput : goal.put-requires-clause-unput
put-requires-clause-unput g c =
    let t = c.in-Some-claim.ticket in
    let m = may_put turn_in seat_of c.args.book.now.table c.args.book.now.harts c.loop.s c.claim.new.s (turn_of 0 t.hart) (let e : Mark = record { ticket = t } in e) c.loop.invariant c.in-Some-claim.ensures.new c.in-Some-claim.ensures.claims
    (ap (λ (r : ℕ). turn_of r t.hart) c.in-Some-claim.ensures.named.0) c.in-Some-claim.ensures.named.1 in
    m.unput

pub loop-preserved : goal.loop-preserved
loop-preserved g c =
    let t = c.in-Some-claim.ticket in
    honest_put turn_in seat_of (λ e. Unit {0}) c.args.book.now.table c.args.book.now.harts c.loop.s c.claim.new.s c.put.new.s (turn_of 0 t.hart) (let e : Mark = record { ticket = t } in e) c.loop.invariant c.in-Some-claim.ensures.claims
    (ap (λ (r : ℕ). turn_of r t.hart) c.in-Some-claim.ensures.named.0) c.put.ensures
