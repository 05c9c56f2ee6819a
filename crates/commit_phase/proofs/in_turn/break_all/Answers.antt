use Rattle.std.proofs.Common.{◌≡◌, ◌∷◌, ◌∙◌, ◌+◌, ◌<◌, ◌==◌, cond, suc, ℕ, List, ap, arith, drop, length, map, sym, add-one}
use Rattle.pages.specs.Memory.{covered}
use Rattle.round_schedule.specs.Held.{unless}
use Rattle.round_schedule.specs.Reservations.{entry}
use Rattle.store_buffer.specs.Covered.{stores_of}
use Rattle.commit_phase.specs.Commit.{covered_from}
use Rattle.commit_phase.proofs.Breaking.{one_buffer}
use Rattle.commit_phase.proofs.Sharding.{drop_next}
use Rattle.commit_phase.proofs.in_turn.break_all.Goals as goal

pub loop-round-preserved : goal.loop-round-preserved
loop-round-preserved g c =
    let bs = map g.B.Buffered.bytes c.args.rounds.now in
    let i = c.loop-round.round-index in
    let n = c.loop-round.hart in
    let inv = c.loop-round.invariant in
    record {
      counts = omega (arith, inv.counts);
      size = c.break_others.ensures.size ∙ inv.size;
      each = λ h low.
          let there : h < length c.loop-round.reservations = omega (arith, inv.size) in
          let front : drop i bs ≡ c.buffer.result.now ∷ drop (i + 1) bs =
          drop_next g.B.Buffered.bytes c.args.rounds.now i c.round-item.result c.loop-round-test.true c.round-item.is ∙ ap (λ (es : List (ℕ × ℕ)). es ∷ drop (i + 1) bs) (sym c.buffer.ensures) in
          ap (unless (covered_from (n + 1) h (drop (i + 1) bs))) (c.break_others.ensures.reservations h there)
          ∙ ap (λ (k : ℕ). unless (covered_from k h (drop (i + 1) bs)) (cond (n == h) (entry c.loop-round.reservations h) (unless (covered (stores_of c.buffer.result.now)) (entry c.loop-round.reservations h)))) (add-one n)
          ∙ one_buffer (n == h) (covered (stores_of c.buffer.result.now)) (covered_from (suc n) h (drop (i + 1) bs)) (entry c.loop-round.reservations h)
          ∙ ap (λ (fs : List (List (ℕ × ℕ))). unless (covered_from n h fs) (entry c.loop-round.reservations h)) (sym front)
          ∙ inv.each h low;
    }
