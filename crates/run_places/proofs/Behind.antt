-- The spot behind a move.
use Rattle.std.proofs.Common.{◌≡◌, ℕ, ◌+◌, ◌≤◌, ◌==◌, ◌&&◌, ◌||◌, Bool, true, false, if◌then◌else◌, List, Some, None, option_map, ap, ◌∙◌, inl, inr}
use Rattle.std.proofs.lemmas.Bool.{and_parts, cond-true, eqb-true, or_cases}
use Rattle.round_schedule.specs.Accesses.{stores as writing}
use Rattle.all_endings.specs.RunStates.{Move, moved}
use Rattle.all_endings.specs.StoreLists.{Stored}
use Rattle.all_endings.specs.Walking.{Place, place_after}
use Rattle.hart_states.specs.Following.{place_done}
use Rattle.hart_states.specs.States.{state_of, stored_of}
use Rattle.private_bytes.specs.Ahead.{IsAhead}
use Rattle.private_bytes.specs.Owners.{is_private}
use Rattle.private_bytes.specs.PrivateMoves.{moved_privately}
use Rattle.private_bytes.specs.PrivateWalks.{constant_after, spot_after}
use Rattle.list_suffixes.specs.ApartRuns.{StandsForAlways}
use Rattle.run_places.specs.declared.place.Place.{Place as KeptPlace}
use Rattle.run_places.specs.Spots.{is_among, place_of, spot_of}

module _ (owns : ℕ → ℕ → Bool) (h : ℕ) (m : List Stored) (v : Move) (p q : KeptPlace) (count : q.count ≤ p.count + 1) (next : q.next ≡ p.next)
    (kept : (j : ℕ) → is_among p.paid.items j ≡ true → is_among q.paid.items j ≡ true) (constant : q.constant ≡ true → constant_after p.constant v ≡ true) where
  did : (j : ℕ) → ((j : ℕ) → place_done v ≡ Some j → is_among q.paid.items j ≡ true) → (is_among p.paid.items j || (writing v.access && v.time == j)) ≡ true →
      is_among q.paid.items j ≡ true
  did j done e = elim (or_cases (is_among p.paid.items j) (writing v.access && v.time == j) e) [
    | inl old ↦ kept j old
    | inr new ↦
        let parts = and_parts (writing v.access) (v.time == j) new in
        done j (cond-true (writing v.access) (Some v.time) None parts.0 ∙ ap (λ (k : ℕ). Some k) (eqb-true v.time j parts.1))
  ]

  abbrev behind_by : Bool → Place
  behind_by b = if b then record (place_of p) { state = moved_privately h m (state_of p.state) v; count = p.count + 1 } else place_after h m (place_of p) v

  by_private : (b : Bool) → IsAhead (state_of q.state) (if b then moved_privately h m (state_of p.state) v else moved h m (state_of p.state) v) →
      ((j : ℕ) → (if b then None else place_done v) ≡ Some j → is_among q.paid.items j ≡ true) →
      StandsForAlways (spot_of q) (record { place = behind_by b; constant = constant_after p.constant v })
  by_private true ahead done = λ n. record { state = ahead; count = count; paid = λ j l e. kept j e; next = ap (option_map stored_of) next; constant = constant }
  by_private false ahead done = λ n. record { state = ahead; count = count; paid = λ j l e. did j done e; next = ap (option_map stored_of) next; constant = constant }

  pub stands_behind : IsAhead (state_of q.state) (if is_private owns h v.access then moved_privately h m (state_of p.state) v else moved h m (state_of p.state) v) →
      ((j : ℕ) → (if is_private owns h v.access then None else place_done v) ≡ Some j → is_among q.paid.items j ≡ true) →
      StandsForAlways (spot_of q) (spot_after owns h m (spot_of p) v)
  stands_behind ahead done = by_private (is_private owns h v.access) ahead done
