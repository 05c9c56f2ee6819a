use Rattle.std.proofs.Common.{◌≡◌, ℕ, get_or, ap, ◌∙◌, subst, inl, inr, arith}
use Rattle.std.proofs.lemmas.Bool.{cases_lt}
use Rattle.std.proofs.lemmas.List.{get_or_read}
use Rattle.hart_ends.proofs.Told.{told_by}
use Rattle.private_bytes.specs.PrivateWalks.{Spot}
use Rattle.list_suffixes.specs.SettledWalks.{AreAhead}
use Rattle.run_places.specs.Spots.{spot_of, spots_of}
use Rattle.run_places.proofs.Standing.{ahead_stays}
use Rattle.run_places.proofs.walking.begun.Goals as goal

pub loop-place-preserved : goal.loop-place-preserved
loop-place-preserved c = λ j d l.
    let i = c.loop-place.place-index in
    let new = c.add.new.self.all.items in
    elim (cases_lt j i) [
      | inl small ↦ ahead_stays c.loop-place.places.all.items new (spot_of (get_or c.args.begin.now j d)) c.in_ok-add.ensures.grows (c.loop-place.invariant j d small)
      | inr large ↦
          subst (λ (p : Spot). AreAhead (spots_of new) p)
          (c.in_ok-copy.ensures ∙ ap spot_of (get_or_read c.args.begin.now i c.place-item.result c.loop-place-test.true c.place-item.is d
          ∙ ap (λ (k : ℕ). get_or c.args.begin.now k d) (let e : i ≡ j = omega (arith, l, large) in e)))
          c.in_ok-add.ensures.covered
    ]

pub returns : goal.returns
returns c = λ p there.
    let x = told_by spot_of c.args.begin.now p there in
    let over = c.loop-place-test.false in
    subst (λ (q : Spot). AreAhead (spots_of c.loop-place.places.all.items) q) (ap spot_of x.1.2 ∙ x.2)
    (c.loop-place.invariant x.1.0 x.0 (let l = x.1.1 in omega (arith, over, l)))
