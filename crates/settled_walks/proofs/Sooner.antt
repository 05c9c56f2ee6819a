-- From a state whose times are all at most a number, what a hart does to its own bytes it can do as soon as that.
use Rattle.std.proofs.Common.{◌≡◌, ℕ, ◌+◌, ◌≤◌, Bool, true, false, if◌then◌else◌, List, refl, sym, ap, ◌∙◌, inl, inr, arith}
use Rattle.std.proofs.lemmas.Bool.{cases_lt}
use Rattle.pages.specs.Memory.{Memory}
use Rattle.round_schedule.specs.declared.access.Access.{Access}
use Rattle.memory_order.specs.Operations.{is_plain_store}
use Rattle.memory_order.specs.Registers.{registers_of}
use Rattle.rule_checker.specs.CarriedBounds.{AreRegisters}
use Rattle.all_endings.specs.Earlier.{IsSized}
use Rattle.all_endings.specs.HartRuns.{Acts, IsPlaced, Stands, acts, branches, calls, exchanges, exchanges-unknown, fails, jumps, orders, puts, puts-unknown, reads, reserves, succeeds}
use Rattle.all_endings.specs.HartRuns.{stores as stores_it}
use Rattle.all_endings.specs.RunStates.{Move, RunState}
use Rattle.all_endings.specs.StoreLists.{Stored}
use Rattle.all_endings.specs.Walking.{Place, place_after}
use Rattle.all_endings.proofs.DecodedRegisters.{decoded_fits}
use Rattle.private_bytes.specs.Ahead.{IsAhead, LowerStatesAreAhead}
use Rattle.private_bytes.specs.Owners.{is_private}
use Rattle.private_bytes.specs.PrivateMoves.{ActsApart, keeps, moved_privately, recalls, shares}
use Rattle.private_bytes.specs.PrivateTimes.{EarliestPrivateMoveIsLowest}
use Rattle.private_bytes.specs.PrivateWalks.{Spot, constant_after, spot_after}
use Rattle.list_suffixes.specs.ApartRuns.{MovesApart, StandsForAlways}
use Rattle.settled_walks.specs.Within.{IsWithin}

abbrev at_time : ℕ → Move → Move
at_time n v = record v { time = n }

no_store : (x y : Access) → x ≡ y → is_plain_store x ≡ true → is_plain_store y ≡ false → ⊥
no_store x y e plain dry = let q : is_plain_store x ≡ is_plain_store y = ap is_plain_store e in cc

-- a plain store to own bytes stands anywhere
store_at : (image : Memory) (h : ℕ) (m : List Stored) (opening : ℕ → ℕ) (a : RunState) (v : Move) (n : ℕ) → is_plain_store v.access ≡ true → Acts image h m opening (λ u. Unit {0}) a v →
    Acts image h m opening (λ u. Unit {0}) a (at_time n v)
store_at image h m opening a v n plain (puts rd k knows is e r x) = absurd (no_store _ _ e plain refl)
store_at image h m opening a v n plain (puts-unknown rd k knows is e r x) = absurd (no_store _ _ e plain refl)
store_at image h m opening a v n plain (jumps rd target k is even e r x) = absurd (no_store _ _ e plain refl)
store_at image h m opening a v n plain (branches taken target k is even e x) = absurd (no_store _ _ e plain refl)
store_at image h m opening a v n plain (orders before after mode is e x) = absurd (no_store _ _ e plain refl)
store_at image h m opening a v n plain (reads rd address w signed number k is safe e g r x) = absurd (no_store _ _ e plain refl)
store_at image h m opening a v n plain (stores_it address w k is safe e d p x) = stores_it address w k is safe e d tt x
store_at image h m opening a v n plain (reserves rd address w o number k is safe e g r x) = absurd (no_store _ _ e plain refl)
store_at image h m opening a v n plain (fails rd address w o k is safe e r x) = absurd (no_store _ _ e plain refl)
store_at image h m opening a v n plain (succeeds rd address w o k is safe e d held reserved p unbroken r x) = absurd (no_store _ _ e plain refl)
store_at image h m opening a v n plain (exchanges rd address w f o number k is safe e g r d p x) = absurd (no_store _ _ e plain refl)
store_at image h m opening a v n plain (exchanges-unknown rd address w o k none is safe e g r d x) = absurd (no_store _ _ e plain refl)
store_at image h m opening a v n plain (calls number answer ecall at nonzero answered e r x) = absurd (no_store _ _ e plain refl)

-- a move on own bytes that stands no later than n, and leads to what stands for where another one leads to
pub record IsSooner (owns : ℕ → ℕ → Bool) (image : Memory) (h : ℕ) (m : List Stored) (opening : ℕ → ℕ) (n : ℕ) (p : Spot) (v u : Move) : Type 0 where
  pub private : is_private owns h u.access ≡ true
  pub time : u.time ≤ n
  pub moves : MovesApart owns image h m opening p u
  pub stands : StandsForAlways (spot_after owns h m p u) (spot_after owns h m p v)

module _ (owns : ℕ → ℕ → Bool) (image : Memory) (h : ℕ) (m : List Stored) (opening : ℕ → ℕ) (n : ℕ) (p : Spot) (v : Move) (within : IsWithin n p.place.state)
    (private : is_private owns h v.access ≡ true) (makes : MovesApart owns image h m opening p v) where
  abbrev a : RunState
  a = p.place.state

  acts_at : ActsApart owns image h m opening (IsPlaced h m) a v → ActsApart owns image h m opening (IsPlaced h m) a (at_time n v)
  acts_at (shares public doing) = absurd (cc)
  acts_at (keeps own plain doing) = keeps own plain (store_at image h m opening a v n plain doing)
  acts_at (recalls rd address w signed own k is safe e needs r source x) = recalls rd address w signed own k is safe e (λ i l. within.needs (address + i)) r source x

  stands_at : AreRegisters (registers_of v.instruction) → Stands a (at_time n v)
  stands_at fit = record {
    kinds = (
      within.kinds.acquires,
      λ e. (within.kinds.load_load, within.kinds.store_load),
      λ e. (within.kinds.load_store, within.kinds.store_store),
      λ e. (within.kinds.loads, within.kinds.stores),
      λ e. within.kinds.annotated,
    );
    carried = (within.carried.registers _ fit.address, λ e. (within.carried.registers _ fit.value, within.carried.steered, within.carried.addressed));
    touched = λ x store covered. within.touched x;
  }

  makes_at : MovesApart owns image h m opening p (at_time n v)
  makes_at = record { decodes = makes.decodes; acts = acts_at makes.acts; stands = λ op. stands_at (decoded_fits image a.pc v.instruction makes.decodes) }

  abbrev behind_by : Bool → Move → Place
  behind_by b u = if b then record p.place { state = moved_privately h m a u; count = p.place.count + 1 } else place_after h m p.place u

  -- where what is left is ahead, the spot stands for the other one
  stands_by : (b : Bool) (u : Move) → b ≡ true → IsAhead (moved_privately h m a u) (moved_privately h m a v) → constant_after p.constant u ≡ constant_after p.constant v →
      StandsForAlways (record { place = behind_by b u; constant = constant_after p.constant u }) (record { place = behind_by b v; constant = constant_after p.constant v })
  stands_by true u e ahead constant = λ l. record { state = ahead; count = omega arith; paid = λ j s is. is; next = refl; constant = λ is. sym constant ∙ is }
  stands_by false u e ahead constant = absurd (cc)

  same_self : IsAhead (moved_privately h m a v) (moved_privately h m a v) → StandsForAlways (spot_after owns h m p v) (spot_after owns h m p v)
  same_self ahead = stands_by (is_private owns h v.access) v private ahead refl

  pub sooner : LowerStatesAreAhead → EarliestPrivateMoveIsLowest → IsSized a → (u : Move) × IsSooner owns image h m opening n p v u
  sooner lower earliest sized = elim (cases_lt n v.time) [
    | inl late ↦ (
      at_time n v,
      record {
        private = private;
        time = omega arith;
        moves = makes_at;
        stands = stands_by (is_private owns h v.access) (at_time n v) private
            (lower _ _ (earliest owns image h m opening a (at_time n v) v sized makes.decodes makes.decodes private private makes_at.acts makes.acts (omega (arith, late)))) refl;
      },
    )
    | inr early ↦ (
      v,
      record {
        private = private;
        time = omega (arith, early);
        moves = makes;
        stands = same_self (lower _ _ (earliest owns image h m opening a v v sized makes.decodes makes.decodes private private makes.acts makes.acts (omega arith)));
      },
    )
  ]
