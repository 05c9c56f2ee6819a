-- Places that are lost, and spots with a store that comes next.
use Rattle.std.proofs.Common.{◌≡◌, ℕ, ◌+◌, ◌<◌, Bool, true, false, if◌then◌else◌, List, length, get_or, refl, arith}
use Rattle.all_endings.specs.RunStates.{Move}
use Rattle.all_endings.specs.StoreLists.{Stored, has_byte, no_store}
use Rattle.all_endings.specs.Walking.{Place, place_after, place_with}
use Rattle.private_bytes.specs.Owners.{is_private}
use Rattle.private_bytes.specs.PrivateMoves.{moved_privately}
use Rattle.private_bytes.specs.PrivateWalks.{IsLost, Spot, StandsForApart, place_apart, spot_after, spot_with}

-- an operation on a byte of a store that is owed loses it (rule 1)
pub lost_at : (h : ℕ) (m : List Stored) (p : Place) (j x : ℕ) → j < length m → (get_or m j no_store).hart ≡ h → p.paid j ≡ false → has_byte (get_or m j no_store) x ≡ true →
    j < p.state.touched x → IsLost h m p
lost_at h m p j x within mine owed has behind = record { store = j; within = within; hart = mine; owed = owed; byte = x; has = has; behind = omega (arith, behind) }

-- what stands for a place is lost only where that is
pub lost_by : (h : ℕ) (m : List Stored) (q r : Spot) → StandsForApart m q r → IsLost h m q.place → IsLost h m r.place
lost_by h m q r stands l = record {
  store = l.store;
  within = l.within;
  hart = l.hart;
  owed = not_paid (r.place.paid l.store) refl;
  byte = l.byte;
  has = l.has;
  behind =
      (let t = stands.state.touched l.byte in
      let k0 = stands.state.kinds.acquires in
      let k1 = stands.state.kinds.load_store in
      let k2 = stands.state.kinds.store_store in
      let c0 = stands.state.carried.steered in
      let c1 = stands.state.carried.addressed in
      let b = l.behind in
      omega (arith, t, k0, k1, k2, c0, c1, b));
}
  where
    not_paid : (b : Bool) → r.place.paid l.store ≡ b → r.place.paid l.store ≡ false
    not_paid false e = e
    not_paid true e = absurd (let yes = stands.paid l.store l.within e in let no = l.owed in cc)

module _ (owns : ℕ → ℕ → Bool) (h : ℕ) (m : List Stored) (v : Move) (p : Spot) (s : Stored) where
  abbrev behind_by : Bool → Place → Place
  behind_by b q = if b then record q { state = moved_privately h m q.state v; count = q.count + 1 } else place_after h m q v

  lost_by_test : (b : Bool) → IsLost h m (behind_by b p.place) → IsLost h m (behind_by b (place_with p.place s))
  lost_by_test true l = record { store = l.store; within = l.within; hart = l.hart; owed = l.owed; byte = l.byte; has = l.has; behind = l.behind }
  lost_by_test false l = record { store = l.store; within = l.within; hart = l.hart; owed = l.owed; byte = l.byte; has = l.has; behind = l.behind }

  -- the store that comes next makes no difference
  pub lost_with : IsLost h m (place_apart owns h m p.place v) → IsLost h m (place_apart owns h m (place_with p.place s) v)
  lost_with l = lost_by_test (is_private owns h v.access) l

  stands_by_test : (b : Bool) (q : Spot) (constant : Bool) → StandsForApart m q (record { place = behind_by b p.place; constant = constant }) →
      StandsForApart m (spot_with q s) (record { place = behind_by b (place_with p.place s); constant = constant })
  stands_by_test true q constant r = record { state = r.state; count = r.count; paid = r.paid; next = refl; constant = r.constant }
  stands_by_test false q constant r = record { state = r.state; count = r.count; paid = r.paid; next = refl; constant = r.constant }

  pub stands_with : (q : Spot) → StandsForApart m q (spot_after owns h m p v) → StandsForApart m (spot_with q s) (spot_after owns h m (spot_with p s) v)
  stands_with q r = stands_by_test (is_private owns h v.access) q _ r
