use Rattle.std.proofs.Common.{◌≡◌, ℕ, ◌+◌, ◌-◌, List, [], ◌++◌, Vec, Global, length, get_or, map, take, drop, arith, sym, ◌∙◌, ap, rules}
use Rattle.std.proofs.lemmas.List.{drop-map, get_or-map, length-drop, take-map, take_all}
use Rattle.plan_hunt.specs.Steps.{changed, rows_after}
use Rattle.plan_hunt.specs.declared.step.Step.{Step}
use Rattle.plan_hunt.proofs.changing.rows_after.Goals as goal

abbrev quotas : List (Vec ℕ Global) → List (List ℕ)
quotas rows = map (λ (r : Vec ℕ Global). r.items) rows

-- the three parts are joined
joined : (rows : List (Vec ℕ Global)) (s : Step) (row : List ℕ) (first second third : List (List ℕ)) → row ≡ get_or (quotas rows) s.row [] → first ≡ quotas (take s.row rows) →
    second ≡ first ++ changed s.change row → third ≡ second ++ quotas (take (length rows - (s.row + 1)) (drop (s.row + 1) rows)) → third ≡ rows_after s (quotas rows)
joined rows s row first second third at e f g =
    let all : take (length rows - (s.row + 1)) (drop (s.row + 1) rows) ≡ drop (s.row + 1) rows = take_all _ _ (omega (arith, length-drop (s.row + 1) rows)) in
    let begin : first ≡ take s.row (quotas rows) = e ∙ sym (take-map (λ (r : Vec ℕ Global). r.items) s.row rows) in
    let end : quotas (take (length rows - (s.row + 1)) (drop (s.row + 1) rows)) ≡ drop (s.row + 1) (quotas rows) = ap quotas all ∙ sym (drop-map (λ (r : Vec ℕ Global). r.items) (s.row + 1) rows) in
    let middle : changed s.change row ≡ changed s.change (get_or (quotas rows) s.row []) = ap (changed s.change) at in
    cc (begin, end, middle, f, g)

pub returns : goal.returns
returns c =
    let at : c.deref.result.now ≡ get_or (quotas c.args.rows.now) c.args.step.row [] =
    c.deref.ensures.value ∙ ap (λ (v : Vec ℕ Global). v.items) c.index-rows-step.is
    ∙ sym (get_or-map (λ (r : Vec ℕ Global). r.items) c.args.rows.now c.args.step.row c.index-rows-step.result [] c.requires) in
    let none : c.new-after.result.items ≡ [] = search rules in
    let first : quotas c.add_copies.new.rows.items ≡ quotas (take c.args.step.row c.args.rows.now) =
    c.in_ok-add_copies.ensures ∙ ap (λ (v : List (Vec ℕ Global)). quotas v ++ quotas (take c.args.step.row c.args.rows.now)) none in
    joined c.args.rows.now c.args.step c.deref.result.now _ _ _ at first c.in_ok-add_changed.ensures c.in_ok-add_copies-2.ensures
