-- The list of the last places, event by event.
use Rattle.std.proofs.Common.{◌≡◌, ◌≢◌, ℕ, ◌+◌, ◌<◌, ◌≤◌, List, length, get_or, Option, Some, None, refl, sym, ap, ◌∙◌, subst, inl, inr, arith, get_or-set_same, get_or-set_other, length-set}
use Rattle.std.proofs.lemmas.Bool.{cases_eq, cases_lt}
use Rattle.round_schedule.specs.declared.event.Event.{Event}
use Rattle.round_schedule.specs.Accesses.{place_of}
use Rattle.round_schedule.specs.Places.{PlacesRise}
use Rattle.round_schedule.specs.Positions.{event}
use Rattle.trace.specs.LastPlaces.{AreLast, IsAbove, IsLast, noted}

pub rises : (t : List Event) → ((j : ℕ) → j < length t → IsAbove t j) → PlacesRise t
rises t h i j l m e = h j m i l e

pub above : (t : List Event) → PlacesRise t → (j : ℕ) → j < length t → IsAbove t j
above t h j m i l e = h i j l m e

-- an event of another hart leaves the last place of a hart
other_last : (t : List Event) (i h : ℕ) (o : Option ℕ) → (event t i).hart ≢ h → IsLast t i h o → IsLast t (i + 1) h o
other_last t i h None d l = λ k m e. elim (cases_lt k i) [
  | inl f ↦ l k f e
  | inr f ↦ let s : k ≡ i = omega arith in d (ap (λ n. (event t n).hart) (sym s) ∙ e)
]
other_last t i h (Some p) d l = (
  λ k m e. elim (cases_lt k i) [
    | inl f ↦ l.0 k f e
    | inr f ↦ let s : k ≡ i = omega arith in absurd (d (ap (λ n. (event t n).hart) (sym s) ∙ e))
  ],
  (l.1.0, omega (arith, l.1.1), l.1.2, l.1.3),
)

-- an event above those before it is the last one of its hart
own_last : (t : List Event) (i : ℕ) → IsAbove t i → IsLast t (i + 1) (event t i).hart (Some (place_of (event t i).access))
own_last t i a = (
  λ k m e. elim (cases_lt k i) [
    | inl f ↦ let n = a k f e in omega arith
    | inr f ↦ let s : k ≡ i = omega arith in let n = ap (λ n. place_of (event t n).access) s in omega arith
  ],
  (i, omega arith, refl, refl),
)

pub last_more : (t : List Event) (i : ℕ) (last : List (Option ℕ)) → AreLast t i last → IsAbove t i → AreLast t (i + 1) (noted last (event t i))
last_more t i last l a h m = elim (cases_eq (event t i).hart h) [
  | inl e ↦
      let lt : (event t i).hart < length last = omega (arith, m, e, length-set last (event t i).hart (Some (place_of (event t i).access))) in
      let here : get_or (noted last (event t i)) (event t i).hart None ≡ Some (place_of (event t i).access) = rw get_or-set_same refl in
      subst (λ n. IsLast t (i + 1) n (get_or (noted last (event t i)) n None)) e
      (subst (λ o. IsLast t (i + 1) (event t i).hart o) (sym here) (own_last t i a))
  | inr d ↦
      let ne : h ≢ (event t i).hart = λ e. d (sym e) in
      let there : get_or (noted last (event t i)) h None ≡ get_or last h None = rw get_or-set_other refl in
      subst (λ o. IsLast t (i + 1) h o) (sym there)
      (other_last t i h (get_or last h None) d (l h (omega (arith, m, length-set last (event t i).hart (Some (place_of (event t i).access))))))
]

pub last_none : (t : List Event) (last : List (Option ℕ)) → ((h : ℕ) → h < length last → get_or last h None ≡ None) → AreLast t 0 last
last_none t last e h l = subst (λ o. IsLast t 0 h o) (sym (e h l)) (λ k m. absurd (omega arith))

-- what the last place says of the event
pub above_last : (t : List Event) (i p : ℕ) → IsLast t i (event t i).hart (Some p) → p < place_of (event t i).access → IsAbove t i
above_last t i p l m k n e = let u = l.0 k n e in omega arith

pub not_above_last : (t : List Event) (i p : ℕ) → IsLast t i (event t i).hart (Some p) → place_of (event t i).access ≤ p → IsAbove t i → ⊥
not_above_last t i p l m a = let u = a l.1.0 l.1.1 l.1.2 in let e = l.1.3 in omega arith

pub above_none : (t : List Event) (i : ℕ) → IsLast t i (event t i).hart None → IsAbove t i
above_none t i l k n e = absurd (l k n e)
