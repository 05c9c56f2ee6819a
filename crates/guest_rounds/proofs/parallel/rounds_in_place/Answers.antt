use Rattle.std.proofs.Common.{get_or, is_some, Some, ◌≡◌, ◌<◌, ◌≤◌, [], List, None, length, take, sym, ap, subst, ◌∙◌, refl, arith}
use Rattle.std.proofs.lemmas.List.{get_or-set_other, take_all, take_more_set}
use Rattle.round_schedule.specs.Schedule.{hart_rounds}
use Rattle.hart_step.specs.declared.hart.Hart.{Hart}
use Rattle.hart_step.specs.Words.{words_of}
use Rattle.hart_rounds.specs.Starts.{Start}
use Rattle.guest_rounds.specs.HartEnds.{AreEndsOf}
use Rattle.hart_rounds.specs.declared.hart_end.HartEnd.{HartEnd}
use Rattle.hart_rounds.proofs.HartRounds.{indexed}
use Rattle.guest_rounds.proofs.StoppedHarts.{stays_at}
use Rattle.guest_rounds.proofs.RoundsOfHarts.{is_end_of, ends_more}
use Rattle.guest_rounds.proofs.parallel.rounds_in_place.Goals as goal

pub loop-number-init : goal.loop-number-init
loop-number-init g c = record { done = tt; rest = λ k o low. refl }

pub round_in_place-requires-clause-stays : goal.round_in_place-requires-clause-stays
round_in_place-requires-clause-stays g c = λ stopped.
    let hs : List Hart = c.args.start.now.harts in
    let n = c.loop-number.number in
    let o : HartEnd = c.index-ends-number.result in
    let low : n < length hs = subst (λ (xs : List Hart). n < length xs) c.harts-number-end.ensures.harts c.loop-number-test.true in
    let same : get_or c.loop-number.ends n o ≡ get_or c.args.ends.now n o = c.loop-number.invariant.rest n o (omega arith) in
    let here : get_or hs n o.hart ≡ (get_or c.args.ends.now n o).hart = stays_at hs c.args.ends.now n o low (omega (arith, low, c.requires.many)) c.requires.kept (ap (λ (x : HartEnd). is_some x.hart.stop) (sym same) ∙ stopped) in
    indexed hs n o.hart low ∙ ap Some (here ∙ ap (λ (x : HartEnd). x.hart) (sym same))

pub loop-number-preserved : goal.loop-number-preserved
loop-number-preserved g c =
    let s : Start = c.args.start.now in
    let n = c.loop-number.number in
    let none : Hart = record { x = []; pc = 0; done = 0; stop = None } in
    let o : HartEnd = c.round_in_place.new.end in
    let low : n < length s.harts = subst (λ (hs : List Hart). n < length hs) c.harts-number-end.ensures.harts c.loop-number-test.true in
    let less : n < length c.loop-number.ends = omega (arith, low, c.requires.many, c.loop-number.auto.ends) in
    record {
      done = ends_more s.logs s.memory s.quotas s.harts n none _ (take n c.loop-number.ends) _ o low refl (take_more_set c.loop-number.ends n o less) c.loop-number.invariant.done
          (is_end_of s n none o low c.requires.sized c.in_ok-round_in_place.ensures);
      rest = λ k d more. get_or-set_other c.loop-number.ends n k o d (λ same. omega (arith, same, more)) ∙ c.loop-number.invariant.rest k d (omega (arith, more));
    }

pub returns : goal.returns
returns g c =
    let s : Start = c.args.start.now in
    let n = c.loop-number.number in
    let many : length s.harts ≤ n = subst (λ (hs : List Hart). length hs ≤ n) c.harts-number-end.ensures.harts c.loop-number-test.false in
    let rounds = λ (hs : List Hart). hart_rounds (words_of s.memory.code) s.memory.bytes s.quotas hs in
    subst (AreEndsOf s.logs s.memory (rounds s.harts)) (take_all n c.loop-number.ends (omega (arith, many, c.requires.many, c.loop-number.auto.ends)))
    (subst (λ (hs : List Hart). AreEndsOf s.logs s.memory (rounds hs) (take n c.loop-number.ends)) (take_all n s.harts many) c.loop-number.invariant.done)
