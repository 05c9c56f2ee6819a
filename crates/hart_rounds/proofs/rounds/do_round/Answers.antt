use Rattle.std.proofs.Common.{◌≡◌, ◌∙◌, ◌<◌, ◌^◌, ℕ, List, [], length, get_or, slice_get, Some, subst, sym, ap, refl, arith}
use Rattle.hart_step.specs.DecodedCode.{Shows}
use Rattle.hart_step.specs.Words.{words_of}
use Rattle.hart_step.specs.declared.hart.Hart.{Hart}
use Rattle.pages.specs.Memory.{Memory}
use Rattle.round_schedule.specs.Schedule.{hart_round_of}
use Rattle.hart_rounds.specs.Starts.{Start}
use Rattle.hart_rounds.specs.Ends.{end_of, logged}
use Rattle.hart_rounds.proofs.RoundAt.{round_at_is}
use Rattle.hart_rounds.proofs.HartRounds.{end_is, few_left, indexed, shows_through}
use Rattle.hart_rounds.proofs.rounds.do_round.Goals as goal

pub hart_round-requires : goal.hart_round-requires
hart_round-requires g c =
    let first = c.code.result.now.first in
    let words = c.code.result.now.instructions in
    shows_through c.pages-pages.result.now.memory c.new-view.result first words c.new-view.ensures
    (subst (λ (m : Memory). Shows m first words) (sym c.pages-pages.ensures) c.code.ensures)

pub returns : goal.returns
returns g c =
    let s : Start = c.args.start.now in
    let n = c.args.number in
    let h : Hart = c.args.end.now.hart in
    let q = get_or c.quotas.result.now n 0 in
    let quota : slice_get s.quotas n ≡ Some q = subst (λ (qs : List ℕ). slice_get qs n ≡ Some q) c.quotas.ensures.quotas
    (indexed c.quotas.result.now n 0 (let e = c.quotas.ensures.sized in let low = c.requires.number in omega arith)) in
    let left = c.in_ok-end.ensures.round [] c.requires.empty in
    let es = left.0 in
    let is = end_is s.logs c.pages-pages.result.now.memory c.new-view.result c.hart_round.new.b q h c.hart_round.new.h [] es
    (logged s.logs es) (length es) c.in_ok-end.field-0 c.into_buffer.result c.new-view.ensures refl left.2 c.into_buffer.ensures refl refl in
    let few : length es < 2 ^ 32 = few_left (2 ^ 32) _ _ q _ es left.2.accesses (omega arith) in
    let at = round_at_is s n q h c.requires.hart quota
    ∙ (ap (λ (m : Memory). Some (end_of s.logs (hart_round_of (words_of m.code) m.bytes q h))) (sym c.pages-pages.ensures) ∙ ap Some is) in
    (es, left.1, few, at)
