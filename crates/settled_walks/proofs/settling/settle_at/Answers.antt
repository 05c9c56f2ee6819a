use Rattle.std.proofs.Common.{◌≡◌, ◌⊎◌, Bool, true, false, refl, inl, inr}
use Rattle.early_reads.specs.Checking.{map_of}
use Rattle.hart_states.specs.States.{listed}
use Rattle.own_moves.specs.Owned.{owns_of}
use Rattle.run_places.specs.Spots.{spot_of, spots_of}
use Rattle.settled_walks.proofs.SettledSpots.{late_by}
use Rattle.settled_walks.proofs.settling.settle_at.Goals as goal

-- a test that is passed where something holds
passed : (b : Bool) (P : Type 0) → (b ≡ false → P → ⊥) → P → b ≡ true
passed true P f p = refl
passed false P f p = absurd (f refl p)

one_or : (b : Bool) (P Q : Type 0) → (b ≡ true → P) → (b ≡ false → Q) → P ⊎ Q
one_or true P Q f g = inl (f refl)
one_or false P Q f g = inr (g refl)

pub returns : goal.returns
returns c =
    let f = map_of c.args.points.now in
    let owns = owns_of c.args.against.now.owned.now in
    let image = c.args.against.now.memory.pages.now.memory in
    let h = c.args.against.now.hart in
    let stays = c.args.stays.now in
    let m = listed c.args.against.now.list.now in
    let p = spot_of c.args.place.now in
    let new = spots_of c.add_kept.new.new.all.items in
    let kept = c.in_ok-add_kept.ensures in
    record {
      grows = kept.grows;
      settled = λ yes. record {
        late = late_by f owns image h stays m p c.goes_on-onward.result new (c.is_open.ensures c.if-is_open.false)
            (λ is. kept.behind (passed c.is_behind.result _ c.is_behind.ensures is)) (c.goes_on-onward.ensures new);
        ends = one_or c.in_ok-ends.ends _ _ kept.ends c.in_ok-ends.ensures;
      };
    }
