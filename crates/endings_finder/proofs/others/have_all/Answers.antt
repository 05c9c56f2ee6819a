use Rattle.std.proofs.Common.{◌≡◌, ℕ, map, get_or, Contains, sym, ap, ◌∙◌, subst, inl, inr, arith}
use Rattle.std.proofs.lemmas.Bool.{cases_lt}
use Rattle.std.proofs.lemmas.List.{get_or_read}
use Rattle.all_endings.specs.Endings.{Ending}
use Rattle.ending_judge.specs.JudgedEndings.{ending_in}
use Rattle.hart_ends.proofs.Told.{told_by}
use Rattle.hart_ends.specs.declared.ends.TableEnding.{TableEnding}
use Rattle.hart_ends.specs.Told.{ending_told}
use Rattle.endings_finder.proofs.others.have_all.Goals as goal

pub loop-other-preserved : goal.loop-other-preserved
loop-other-preserved c =
    let n = c.loop-other.other-index in
    let table = c.args.table.now in
    λ k d l. elim (cases_lt k n) [
      | inl small ↦ c.loop-other.invariant k d small
      | inr large ↦
          let at : k ≡ n = omega (arith, l, large) in
          let one : c.other-item.result ≡ get_or table k d =
          get_or_read table n c.other-item.result c.loop-other-test.true c.other-item.is d ∙ ap (λ (m : ℕ). get_or table m d) (sym at) in
          subst (λ (t : TableEnding). Contains (map ending_in c.args.endings.now) (ending_told t)) one (c.has_ending.ensures c.if-not-has_ending.false)
    ]

pub returns : goal.returns
returns c = λ yes e there.
    let x = told_by ending_told c.args.table.now e there in
    let within = x.1.1 in
    let over = c.loop-other-test.false in
    subst (λ (y : Ending). Contains (map ending_in c.args.endings.now) y) (ap ending_told x.1.2 ∙ x.2) (c.loop-other.invariant x.1.0 x.0 (omega (arith, within, over)))
