use Rattle.std.proofs.Common.{◌≡◌, ℕ, get_or, sym, ap, ◌∙◌, inl, inr, arith}
use Rattle.std.proofs.lemmas.Bool.{cases_lt}
use Rattle.std.proofs.lemmas.List.{get_or_read}
use Rattle.ending_judge.specs.JudgedEndings.{ending_in}
use Rattle.hart_ends.proofs.Told.{told_by}
use Rattle.endings_finder.proofs.fences.is_new.Goals as goal

pub loop-other-preserved : goal.loop-other-preserved
loop-other-preserved c =
    let n = c.loop-other.other-index in
    let others = c.args.others.now in
    λ k d l same. elim (cases_lt k n) [
      | inl small ↦ c.loop-other.invariant k d small same
      | inr large ↦
          let at : k ≡ n = omega (arith, l, large) in
          let one : c.other-item.result ≡ get_or others k d =
          get_or_read others n c.other-item.result c.loop-other-test.true c.other-item.is d ∙ ap (λ (m : ℕ). get_or others m d) (sym at) in
          c.is_other.ensures c.if-not-is_other.false (same ∙ ap ending_in (sym one))
    ]

pub returns : goal.returns
returns c = λ yes there.
    let x = told_by ending_in c.args.others.now (ending_in c.args.ending.now) there in
    let within = x.1.1 in
    let over = c.loop-other-test.false in
    c.loop-other.invariant x.1.0 x.0 (omega (arith, within, over)) (sym x.2 ∙ ap ending_in (sym x.1.2))
