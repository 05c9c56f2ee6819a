use Rattle.std.proofs.Common.{◌≡◌, ◌<◌, length, ℕ, List, [], None, slice_index, get_or, ap, ◌∙◌, arith}
use Rattle.hart_step.specs.declared.hart.Hart.{Hart}
use Rattle.round_schedule.specs.declared.event.Phase.TheVariants.{Parallel}
use Rattle.round_planner.specs.Quotas.{quotas_of}
use Rattle.moments.specs.Hits.{harts_in_part, tells}
use Rattle.round_steps.specs.Places.{part_counts, places, turn_comes}
use Rattle.round_steps.proofs.RoundParts.{no_parts, no_turns, parallel_more, same_part, same_quota, turns_more}
use Rattle.round_steps.proofs.round.parts_in_round.Goals as goal

pub loop-number-init : goal.loop-number-init
loop-number-init c = (no_parts _ _ _ c.new-found.ensures.items, no_turns _ _ c.new-turns.ensures.items)

pub loop-number-preserved : goal.loop-number-preserved
loop-number-preserved c =
    let inv = c.loop-number.invariant in
    let code : c.pages-pages.result.now.memory.code ≡ c.args.code.now = c.in_ok-decoded_code.ensures.same in
    let quota = same_quota c.args.machine.now.plan c.args.machine.now.rounds c.loop-number.number c.quota.result (c.quota.ensures.quota ∙ grind arith) in
    let q2 : ℕ = slice_index (quotas_of c.args.machine.now.plan c.args.machine.now.rounds) c.loop-number.number in
    let part = λ (h : Hart). same_part c.pages-pages.result.now.memory.code c.args.code.now c.quota.result q2 h c.pages-pages.result.now.memory.bytes c.args.machine.now.bytes code quota c.pages-pages.ensures.bytes in
    let within : c.loop-number.number < length c.args.machine.now.harts = omega (arith, ap length c.harts-harts-2.ensures.harts) in
    let d : Hart = record { x = []; pc = 0; stop = None; done = 0 } in
    let h : Hart = get_or c.harts-harts-2.result.now c.loop-number.number d in
    let is : h ≡ get_or c.args.machine.now.harts c.loop-number.number d = ap (λ (hs : List Hart). get_or hs c.loop-number.number d) c.harts-harts-2.ensures.harts in (
      parallel_more _ _ _ h d _ _ _ within is inv.0 c.in_ok-add_part.ensures.places
          (ap (λ (p : List Hart). places Parallel c.loop-number.number (part_counts (tells c.args.asked.now c.loop-number.number) h p)) (part h)),
      turns_more _ _ h d _ _ _ within is inv.1 c.in_ok-push.ensures.items
          (c.in_ok-add_part.ensures.turn ∙ ap (λ (p : List Hart). turn_comes c.quota.result h p) (part h) ∙ ap (λ (q : ℕ). turn_comes q h (harts_in_part c.args.code.now q2 (record { hart = h; bytes = c.args.machine.now.bytes }))) quota),
    )
