-- Runs of stores that stay, and of current loads, are of those that stay.
use Rattle.std.proofs.Common.{◌≡◌, ℕ, suc, ◌+◌, ◌-◌, ◌<◌, ◌≤◌, ◌||◌, min, Bool, true, false, if◌then◌else◌, List, [], ◌∷◌, length, get_or, Contains, Option, Some, None, is_some, option_map, refl, sym, ap, ◌∙◌, subst, inl, inr, arith}
use Rattle.std.proofs.lemmas.Bool.{and_parts, cases_lt}
use Rattle.pages.specs.Memory.{Memory, byte_of, in_range}
use Rattle.round_schedule.specs.Accesses.{address_of, is_sc, loads, stores, writes}
use Rattle.memory_order.specs.Operations.{covers, is_amo}
use Rattle.memory_order.specs.Registers.{registers_of}
use Rattle.rule_checker.specs.CarriedBounds.{operand_bound}
use Rattle.all_endings.specs.HartRuns.{Acts, IsPlaced}
use Rattle.all_endings.specs.HartRuns.{IsListed as Placed}
use Rattle.all_endings.specs.RunStates.{Move, OwnByte, RunState, behind, moved, moved_at}
use Rattle.all_endings.specs.StoreLists.{Stored, has_byte, later, no_store}
use Rattle.all_endings.proofs.Placing.{placed}
use Rattle.private_bytes.specs.Owners.{is_private}
use Rattle.private_bytes.specs.PrivateMoves.{ActsApart, keeps, moved_privately, recalls, shares, without_place}
use Rattle.private_bytes.specs.PrivateWalks.{Spot, spot_after}
use Rattle.list_suffixes.specs.ApartRuns.{AreOfThoseKept, RunsApart}
use Rattle.list_suffixes.specs.CurrentRuns.{AreCurrentLoads, CurrentRunsAreOfThoseKept, OwnStoresAreListed, StoresStay}
use Rattle.list_suffixes.specs.KeptMoves.{IsCurrent}
use Rattle.list_suffixes.specs.Staying.{IsListed, MayBeLaid}
use Rattle.list_suffixes.proofs.KeptMoves.{read_current, reads_from}
use Rattle.list_suffixes.proofs.KeptRuns.{after_state}
use Rattle.list_suffixes.proofs.Staying.{stays_apart}

module _ (owns : ℕ → ℕ → Bool) (image : Memory) (h : ℕ) (m : List Stored) (opening : ℕ → ℕ) where
  abbrev AllListed : (ℕ → Option OwnByte) → Type 0
  AllListed own = (x : ℕ) (o : OwnByte) → own x ≡ Some o → 0 < o.place → o.place ≤ length m → IsListed m x o

  some_same : (o p : OwnByte) → Some o ≡ Some p → o ≡ p
  some_same o p e = cc

  none_some : (o : OwnByte) → None ≡ Some o → ⊥
  none_some o e = let q = ap (λ (y : Option OwnByte). is_some y) e in cc

  -- a store of the list has the bytes that it covers there
  has_it : (v : Move) (x : ℕ) → Placed h m v → covers v.access x ≡ true → has_byte (get_or m v.time no_store) x ≡ true
  has_it v x is cover = ap (λ (i : ℕ). in_range i (get_or m v.time no_store).bytes x) is.address ∙ ap (λ (i : ℕ). in_range (address_of v.access) i x) is.bytes ∙ cover

  -- what a store to shared bytes leaves
  shared_listed : (a : RunState) (v : Move) → (stores v.access ≡ true → IsPlaced h m v) → AllListed a.own → AllListed (moved h m a v).own
  shared_listed a v place before x o own some small = by_test (writes v.access x) refl own
    where
      by_place : IsPlaced h m v → stores v.access ≡ true → covers v.access x ≡ true → (place_is : behind m v ≡ o.place) → ((n : ℕ) → o.byte ≡ Some n → option_map (λ i. byte_of i (x - address_of v.access)) v.written ≡ Some n) → IsListed m x o
      by_place (inl late) store cover place_is byte =
          let s : behind m v ≡ min (v.time + 1) (later m) = ap (λ (c : Bool). min (if c then v.time + 1 else v.time) (later m)) store in
          absurd (omega (arith, s, late, place_is, small))
      by_place (inr is) store cover place_is byte =
          let s : behind m v ≡ min (v.time + 1) (later m) = ap (λ (c : Bool). min (if c then v.time + 1 else v.time) (later m)) store in
          let l = is.within in
          record {
            store = v.time;
            place = omega (arith, s, l, place_is);
            has = has_it v x is cover;
            byte = λ n known. ap (λ (i : ℕ). byte_of (get_or m v.time no_store).number (x - i)) is.address ∙ some_number _ n (sym (ap (option_map (λ i. byte_of i (x - address_of v.access))) is.number) ∙ byte n known);
          }
        where
          some_number : (i n : ℕ) → Some i ≡ Some n → i ≡ n
          some_number i n e = cc

      by_test : (c : Bool) → writes v.access x ≡ c → (if c then Some (record { place = behind m v; byte = option_map (λ n. byte_of n (x - address_of v.access)) v.written; atomic = is_amo v.access || is_sc v.access; needs = operand_bound a.carried (registers_of v.instruction) }) else a.own x) ≡ Some o → IsListed m x o
      by_test true w e =
          let p = and_parts (stores v.access) (covers v.access x) w in
          let same = some_same _ o e in
          by_place (place p.0) p.0 p.1 (ap (λ (y : OwnByte). y.place) same) (λ n known. ap (λ (y : OwnByte). y.byte) same ∙ known)
      by_test false w e = before x o e some small

  -- own bytes keep no place
  private_listed : (a : RunState) (v : Move) → AllListed a.own → AllListed (moved_privately h m a v).own
  private_listed a v before x o own some small = by_test (writes v.access x) ((moved_at h (min v.time (later m)) a v).own x) own
    where
      by_test : (c : Bool) (q : Option OwnByte) → (if c then option_map without_place q else a.own x) ≡ Some o → IsListed m x o
      by_test true None e = absurd (none_some o e)
      by_test true (Some q) e = let p = ap (λ (y : OwnByte). y.place) (some_same (without_place q) o e) in absurd (omega (arith, p, some))
      by_test false q e = before x o e some small

  pub listed_after : (a : Spot) (v : Move) → ActsApart owns image h m opening (IsPlaced h m) a.place.state v → AllListed a.place.state.own → AllListed (spot_after owns h m a v).place.state.own
  listed_after a v acts before = subst (λ (s : RunState). AllListed s.own) (sym (after_state owns h m a.place v)) (by_kind acts (is_private owns h v.access) refl)
    where
      by_kind : ActsApart owns image h m opening (IsPlaced h m) a.place.state v → (c : Bool) → is_private owns h v.access ≡ c → AllListed (if c then moved_privately h m a.place.state v else moved h m a.place.state v).own
      by_kind acts true e = private_listed a.place.state v before
      by_kind (shares public doing) false e = shared_listed a.place.state v (λ store. placed image h m opening a.place.state v doing store) before
      by_kind (keeps private plain doing) false e = absurd (cc)
      by_kind (recalls rd address w signed private k is safe d needs r sources x) false e = absurd (cc)

  current_of_kept : (stays : List Bool) → length stays ≤ length m → MayBeLaid stays m → (vs : List Move) (a : Spot) → RunsApart owns image h m opening a vs → OwnStoresAreListed m a.place.state → StoresStay owns h stays vs →
      AreCurrentLoads owns h stays m vs → AreOfThoseKept owns h stays m a vs
  current_of_kept stays within separate [] a run listed stay current = tt
  current_of_kept stays within separate (v ∷ vs) a run listed stay current = (
    λ op public. record {
      stores = λ store. stay v here store public;
      current = λ load early. by_store public load early (stores v.access) refl;
      own = λ load o x cover own behind inside. listed x o own (omega (arith, behind)) (omega (arith, inside, within));
    },
    current_of_kept stays within separate vs (spot_after owns h m a v) run.1 (listed_after a v run.0.acts listed) (λ u there. stay u (on u there)) (λ u there. current u (on u there)),
  )
    where
      on : (u : Move) → Contains vs u → Contains (v ∷ vs) u
      on u there = (suc there.0, (let l = there.1 in omega (arith, l)), there.2)

      here : Contains (v ∷ vs) v
      here = (0, omega arith, refl)

      -- an AMO stands in the list: what is laid into memory, with a byte of it, stands before it
      by_place : is_private owns h v.access ≡ false → loads v.access ≡ true → v.time ≤ length m → stores v.access ≡ true → Acts image h m opening (IsPlaced h m) a.place.state v → IsPlaced h m v → IsCurrent stays m v
      by_place public load early store doing (inl late) k x out cover wet = absurd (omega (arith, early, late))
      by_place public load early store doing (inr is) k x out cover wet =
          let r = reads_from image h m opening (IsPlaced h m) a.place.state v (omega (arith, early)) doing load x cover in
          read_current m opening a.place.state v.time x (v.source x) r.0 k r.1 (elim (cases_lt v.time k) [
            | inl l ↦ absurd (separate v.time k x l (stay v here store public) out (has_it v x is cover) wet)
            | inr l ↦ stays_apart stays v.time k (stay v here store public) out l
          ]) wet

      by_acts : is_private owns h v.access ≡ false → loads v.access ≡ true → v.time ≤ length m → stores v.access ≡ true → ActsApart owns image h m opening (IsPlaced h m) a.place.state v → IsCurrent stays m v
      by_acts public load early store (shares q doing) = by_place public load early store doing (placed image h m opening a.place.state v doing store)
      by_acts public load early store (keeps private plain doing) = absurd (cc)
      by_acts public load early store (recalls rd address w signed private k is safe d needs r sources x) = absurd (cc)

      by_store : is_private owns h v.access ≡ false → loads v.access ≡ true → v.time ≤ length m → (c : Bool) → stores v.access ≡ c → IsCurrent stays m v
      by_store public load early true store = by_acts public load early store run.0.acts
      by_store public load early false plain = current v here load plain public early

pub current_kept : CurrentRunsAreOfThoseKept
current_kept owns image h stays m opening a vs within separate run listed stay current = current_of_kept owns image h m opening stays within separate vs a run listed stay current
