use Rattle.std.proofs.Common.{ℕ, ap, ◌∙◌}
use Rattle.run_book.specs.Known.{Named}
use Rattle.run_book.specs.Turns.{turn_of}
use Rattle.run_book.proofs.Working.{honest_claim, honest_put, kept_claim, kept_put, may_put}
use Rattle.parallel_phase.specs.Rounds.{IsRight, seat_of, turn_in}
use Rattle.parallel_phase.proofs.working.take_part.Goals as goal

pub put-requires-clause-claimed : goal.put-requires-clause-claimed
put-requires-clause-claimed g c =
    let t = c.in-Some-claim.ticket in
    let m = may_put turn_in seat_of c.args.book.now.table c.args.book.now.harts c.loop.seat c.claim.new.s (turn_of c.args.round t.hart) c.in-Ok.entry c.loop.invariant.0 c.in-Some-claim.ensures.new c.in-Some-claim.ensures.claims
    (ap (λ (k : Named). turn_of k.round k.hart) c.in-Ok.ensures ∙ ap (λ (r : ℕ). turn_of r t.hart) c.in-Some-claim.ensures.named.0)
    (ap (λ (k : Named). k.seat) c.in-Ok.ensures ∙ c.in-Some-claim.ensures.named.1) in
    (m.mine, m.claimed)

pub put-requires-clause-unput : goal.put-requires-clause-unput
put-requires-clause-unput g c =
    let t = c.in-Some-claim.ticket in
    let m = may_put turn_in seat_of c.args.book.now.table c.args.book.now.harts c.loop.seat c.claim.new.s (turn_of c.args.round t.hart) c.in-Ok.entry c.loop.invariant.0 c.in-Some-claim.ensures.new c.in-Some-claim.ensures.claims
    (ap (λ (k : Named). turn_of k.round k.hart) c.in-Ok.ensures ∙ ap (λ (r : ℕ). turn_of r t.hart) c.in-Some-claim.ensures.named.0)
    (ap (λ (k : Named). k.seat) c.in-Ok.ensures ∙ c.in-Some-claim.ensures.named.1) in
    m.unput

pub loop-preserved : goal.loop-preserved
loop-preserved g c =
    let t = c.in-Some-claim.ticket in
    let n = turn_of c.args.round t.hart in (
      honest_put turn_in seat_of IsRight c.args.book.now.table c.args.book.now.harts c.loop.seat c.claim.new.s c.put.new.s n c.in-Ok.entry c.loop.invariant.0 c.in-Some-claim.ensures.claims
          (ap (λ (k : Named). turn_of k.round k.hart) c.in-Ok.ensures ∙ ap (λ (r : ℕ). turn_of r t.hart) c.in-Some-claim.ensures.named.0) c.put.ensures,
      kept_put turn_in seat_of IsRight c.args.seat.now c.claim.new.s c.put.new.s c.in-Ok.entry (kept_claim c.args.seat.now c.loop.seat c.claim.new.s n c.loop.invariant.1 c.in-Some-claim.ensures.claims) c.put.ensures,
    )

pub returns-in_default-hart_round-clause-seat : goal.returns-in_default-hart_round-clause-seat
returns-in_default-hart_round-clause-seat g c =
    honest_claim turn_in seat_of c.args.book.now.table c.args.book.now.harts c.loop.seat c.claim.new.s (turn_of c.args.round c.in-Some-claim.ticket.hart) c.loop.invariant.0 c.in-Some-claim.ensures.claims
