use Rattle.std.proofs.Common.{List, [], ◌∷◌, Contains, sym, subst, inl, inr}
use Rattle.std.proofs.lemmas.List.{map-append}
use Rattle.std.proofs.lemmas.List.Elements.{Contains-push_cases}
use Rattle.private_bytes.specs.PrivateWalks.{Spot, StandsForApart}
use Rattle.list_suffixes.specs.ApartRuns.{StandsForAlways}
use Rattle.run_places.specs.Spots.{spot_of, spots_of}
use Rattle.run_places.proofs.Standing.{ahead_by, ahead_stays, covered_stays, grows_on, stands_on}
use Rattle.run_places.proofs.walking.add_all.Goals as goal

pub loop-place-preserved : goal.loop-place-preserved
loop-place-preserved c =
    let i = c.loop-place.invariant in
    let old = c.loop-place.places.all.items in
    let new = c.add.new.self.all.items in
    let place = c.in-Some.place in
    let yielded = c.loop-place.yielded in
    let kept = c.in_ok-add.ensures in
    record {
      grows = grows_on c.args.places.now.all.items old new i.grows kept.grows;
      ahead = λ p at. elim (Contains-push_cases (spots_of yielded) (spot_of place) at.0
          (subst (λ (qs : List Spot). Contains qs at.0) (map-append spot_of yielded (place ∷ [])) at.1)) [
            | inl before ↦ ahead_stays old new p kept.grows (i.ahead p (at.0, before, at.2))
            | inr now ↦ ahead_by (spots_of new) (spot_of place) p kept.covered (subst (λ (q : Spot). StandsForAlways q p) (sym now) at.2)
          ];
      covered = λ m p at. elim (Contains-push_cases (spots_of yielded) (spot_of place) at.0
          (subst (λ (qs : List Spot). Contains qs at.0) (map-append spot_of yielded (place ∷ [])) at.1)) [
            | inl before ↦ covered_stays m old new p kept.grows (i.covered m p (at.0, before, at.2))
            | inr now ↦
                let k = kept.covered in
                (k.0, k.1, stands_on m k.0 (spot_of place) p (k.2 m) (subst (λ (q : Spot). StandsForApart m q p) (sym now) at.2))
          ];
    }
