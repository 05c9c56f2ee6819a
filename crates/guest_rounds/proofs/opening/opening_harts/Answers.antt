use Rattle.std.proofs.Common.{◌≡◌, ℕ, zero, suc, ◌+◌, List, [], ◌∷◌, ◌++◌, length, sym, ap, ◌∙◌, arith, add-one}
use Rattle.hart_step.specs.declared.hart.Hart.{Hart}
use Rattle.guest_rounds.specs.Opening.{opening_hart, opening_harts}
use Rattle.guest_rounds.proofs.OpeningGuest.{length-opening}
use Rattle.guest_rounds.proofs.opening.opening_harts.Goals as goal

one_more : (entry n i k : ℕ) → opening_harts entry n i (suc k) ≡ opening_harts entry n i k ++ opening_hart entry n (i + k) ∷ []
one_more entry n i zero = ap (λ (j : ℕ). opening_hart entry n j ∷ []) (omega arith)
one_more entry n i (suc k) =
    ap (λ (hs : List Hart). opening_hart entry n i ∷ hs) (one_more entry n (suc i) k)
    ∙ ap (λ (j : ℕ). opening_hart entry n i ∷ (opening_harts entry n (suc i) k ++ opening_hart entry n j ∷ [])) (omega arith)

next : (entry n k : ℕ) (hs new : List Hart) (h : Hart) → new ≡ hs ++ h ∷ [] → h ≡ opening_hart entry n k → hs ≡ opening_harts entry n 0 k → new ≡ opening_harts entry n 0 (k + 1)
next entry n k hs new h more is e =
    more ∙ ap (λ (x : List Hart). x ++ h ∷ []) e ∙ ap (λ (x : Hart). opening_harts entry n 0 k ++ x ∷ []) is
    ∙ ap (λ (j : ℕ). opening_harts entry n 0 k ++ opening_hart entry n j ∷ []) (omega arith) ∙ sym (one_more entry n 0 k) ∙ ap (opening_harts entry n 0) (sym (add-one k))

pub loop-number-preserved : goal.loop-number-preserved
loop-number-preserved c = next c.args.entry c.args.harts c.loop-number.number _ _ _ c.in_ok-add.ensures c.opening_hart.ensures c.loop-number.invariant

pub returns-clause-count : goal.returns-clause-count
returns-clause-count c =
    let all : c.loop-number.number ≡ c.args.harts = omega (arith, c.loop-number-test.false, c.loop-number.auto.number-end) in
    ap length c.loop-number.invariant ∙ length-opening c.args.entry c.args.harts 0 c.loop-number.number ∙ all
