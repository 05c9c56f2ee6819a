use Rattle.std.proofs.Common.{◌≡◌, ℕ, true, List, take, get_or, subst, inl, inr}
use Rattle.std.proofs.lemmas.List.{take_more}
use Rattle.list_suffixes.specs.Staying.{place_before}
use Rattle.run_places.specs.Spots.{is_among}
use Rattle.settled_walks.proofs.Counted.{among_last}
use Rattle.settled_walks.proofs.keeping.paid_kept.Goals as goal

pub loop-index-preserved : goal.loop-index-preserved
loop-index-preserved c = λ j e.
    let index = c.loop-index.index in
    let paid = c.args.paid.now in
    let place = place_before c.args.stays.now j in
    elim (among_last (take index paid) (get_or paid index 0) place (subst (λ (l : List ℕ). is_among l place ≡ true) (take_more paid index 0 c.loop-index-test.true) e)) [
      | inl before ↦ c.in_ok-add_paid.ensures.stay j (c.loop-index.invariant j before)
      | inr here ↦ c.in_ok-add_paid.ensures.there j here
    ]
