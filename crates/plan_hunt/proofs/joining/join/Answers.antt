use Rattle.std.proofs.Common.{◌≡◌, length, refl, List, [], ◌∷◌, ◌++◌, arith, append_assoc, append-nil, ap, subst, sym, ◌∙◌, rules}
use Rattle.std.specs.Vec.Iter.{into_iter_items}
use Rattle.plan_hunt.specs.Joining.{IsPart}
use Rattle.plan_hunt.specs.declared.row.Row.{Row}
use Rattle.plan_hunt.proofs.Joined.{first_part, joined_row, next_of, whole_part}
use Rattle.plan_hunt.proofs.joining.join.Goals as goal

nothing : (xs : List Row) → length xs ≡ 0 → xs ≡ []
nothing [] h = refl
nothing (x ∷ xs) h = absurd (omega (arith, h))

pub loop-other-init : goal.loop-other-init
loop-other-init c = record { left = search rules; part = λ ends first n m t u few. first_part ends first n m c.args.rows.now.items t }

pub loop-other-preserved : goal.loop-other-preserved
loop-other-preserved c = record {
  left =
      append_assoc c.loop-other.yielded (c.in-Some.other ∷ []) (into_iter_items c.next.new.self)
      ∙ sym (ap (λ (r : List Row). c.loop-other.yielded ++ r) c.in-Some.ensures.steps.0) ∙ c.loop-other.invariant.left;
  part = λ ends first n m t u few.
      let seam : c.args.others.items ≡ c.loop-other.yielded ++ c.in-Some.other ∷ into_iter_items c.next.new.self =
      sym c.loop-other.invariant.left ∙ ap (λ (r : List Row). c.loop-other.yielded ++ r) c.in-Some.ensures.steps.0 in
      joined_row ends first n m c.loop-other.yielded c.loop-other.rows.items _ c.in-Some.other few (next_of ends first n m c.loop-other.yielded c.in-Some.other _ _ seam u)
      (c.loop-other.invariant.part ends first n m t u few) c.in_ok-join_row.ensures;
}

pub returns : goal.returns
returns c = λ ends first n m t u few.
    let none : length (into_iter_items c.loop-other.other-iterator) ≡ 0 = search rules in
    let all : c.loop-other.yielded ≡ c.args.others.items =
    sym (append-nil c.loop-other.yielded) ∙ ap (λ (r : List Row). c.loop-other.yielded ++ r) (sym (nothing _ none)) ∙ c.loop-other.invariant.left in
    whole_part ends first n m c.args.others.items c.loop-other.rows.items u (subst (λ (ys : List Row). IsPart ends first n m ys c.loop-other.rows.items) all (c.loop-other.invariant.part ends first n m t u few))
