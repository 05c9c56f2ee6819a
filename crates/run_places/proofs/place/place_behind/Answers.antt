use Rattle.std.proofs.Common.{◌≡◌, ◌+◌, ℕ, true, List, refl, sym, ◌∙◌, subst, arith}
use Rattle.run_places.specs.declared.place.Place.{Place}
use Rattle.run_places.specs.Spots.{is_among}
use Rattle.run_places.proofs.Behind.{stands_behind}
use Rattle.run_places.proofs.place.place_behind.Goals as goal

pub returns : goal.returns
returns c = λ owns h m v f constant.
    let p = c.args.place.now in
    let q : Place = record { state = c.args.successor.state; count = p.count + 1; paid = c.in_ok-paid_more.field-0; next = p.next; constant = c.args.constant } in
    stands_behind owns h m v p q (omega arith) refl
    (λ j e. c.in_ok-paid_more.ensures.kept j (subst (λ (ps : List ℕ). is_among ps j ≡ true) (sym c.deref.ensures.value) e)) constant f.state
    (λ j e. c.in_ok-paid_more.ensures.more j (f.done ∙ e))
