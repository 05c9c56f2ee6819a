use Rattle.std.proofs.Common.{◌≡◌, ℕ, ◌-◌, Bool, if◌then◌else◌, ap, sym, ◌∙◌, arith}
use Rattle.all_endings.specs.StoreLists.{last_place}
use Rattle.hart_states.specs.States.{listed}
use Rattle.hart_states.proofs.Readings.{last_more}
use Rattle.hart_states.proofs.reading.last_place.Goals as goal

pub returns-then-has_byte : goal.returns-then-has_byte
returns-then-has_byte c =
    let m = listed c.args.list.now in
    let k = c.args.time - 1 - c.loop-back.back in
    sym (c.loop-back.invariant ∙ last_more m c.args.x (c.args.time - c.loop-back.back) k (omega arith)
    ∙ ap (λ (b : Bool). if b then c.args.time - c.loop-back.back else last_place m c.args.x k) (sym c.has_byte.ensures ∙ c.if-has_byte.true))

pub loop-back-preserved : goal.loop-back-preserved
loop-back-preserved c =
    let m = listed c.args.list.now in
    let k = c.args.time - 1 - c.loop-back.back in
    c.loop-back.invariant ∙ last_more m c.args.x (c.args.time - c.loop-back.back) k (omega arith)
    ∙ ap (λ (b : Bool). if b then c.args.time - c.loop-back.back else last_place m c.args.x k) (sym c.has_byte.ensures ∙ c.if-has_byte.false)
    ∙ ap (λ (n : ℕ). last_place m c.args.x n) (omega arith)

pub returns : goal.returns
returns c =
    let none : c.args.time - c.loop-back.back ≡ 0 = omega arith in
    sym (c.loop-back.invariant ∙ ap (λ (n : ℕ). last_place (listed c.args.list.now) c.args.x n) none)
