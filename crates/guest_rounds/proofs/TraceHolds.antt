-- The events of a machine stay a trace over a round.
use Rattle.std.proofs.Common.{◌≡◌, ℕ, if◌then◌else◌, zero, suc, ◌+◌, ◌<◌, ◌≤◌, Bool, true, false, List, [], ◌∷◌, ◌++◌, length, get_or, drop, All, refl, sym, ap, ◌∙◌, subst, arith, append_assoc, drop-cons, length-append}
use Rattle.std.proofs.lemmas.Bool.{false≢true}
use Rattle.std.proofs.lemmas.List.{length-map}
use Rattle.std.proofs.lemmas.List.Elements.{All-cons}
use Rattle.round_schedule.specs.declared.event.Event.{Event}
use Rattle.round_schedule.specs.declared.access.Access.{Access}
use Rattle.round_schedule.specs.declared.event.Phase.TheVariants.{Parallel, Serial}
use Rattle.round_schedule.specs.ReservingTurn.{log_events}
use Rattle.round_schedule.specs.Events.{event_of, events_of}
use Rattle.round_schedule.specs.Places.{Placed}
use Rattle.round_schedule.proofs.Phases.{All-weaker}
use Rattle.round_planner.specs.Quotas.{IsQuota, Planned, quotas_of}
use Rattle.hart_step.specs.declared.hart.Hart.{Hart}
use Rattle.trace.specs.Traced.{IsTrace, Traced}
use Rattle.guest_rounds.specs.Opening.{opening_hart, opening_harts}
use Rattle.hart_rounds.specs.declared.hart_end.HartEnd.{HartEnd}
use Rattle.guest_rounds.specs.HartEnds.{HasPlaces}

-- no hart has done anything before the first round
pub placed_first : (entry n i k : ℕ) → Placed (λ (h : Hart). h.done) 0 (opening_harts entry n i k) []
placed_first entry n i k = record {
  rising = λ a b l m. absurd (omega (arith, m));
  below = λ a d l. absurd (omega (arith, l));
  counts = none_done i k;
}
  where
    none_done : (i k : ℕ) → All (λ (h : Hart). h.done ≤ 0) (opening_harts entry n i k)
    none_done i zero = λ a d l. absurd (omega (arith, l))
    none_done i (suc k) = All-cons (λ (h : Hart). h.done ≤ 0) (opening_hart entry n i) (opening_harts entry n (suc i) k) (omega arith) (none_done (suc i) k)

-- no quota of the plan is above a million
pub low_quotas : (plan : Planned) → ((m : ℕ) → All IsQuota (quotas_of plan m)) → (m : ℕ) → All (λ q. q ≤ 1000000) (quotas_of plan m)
low_quotas plan quotas m = All-weaker IsQuota (λ q. q ≤ 1000000) (λ q h. h.1) (quotas_of plan m) (quotas m)

-- with a higher bound
pub placed_more : (a b : ℕ) (hs : List Hart) (t : List Event) → a ≤ b → Placed (λ (h : Hart). h.done) a hs t → Placed (λ (h : Hart). h.done) b hs t
placed_more a b hs t l p = record {
  rising = p.rising;
  below = p.below;
  counts = All-weaker (λ (h : Hart). h.done ≤ a) (λ (h : Hart). h.done ≤ b) (λ h m. omega (arith, l, m)) hs p.counts;
}

-- ---- the events of a round, hart by hart

split_first : (es : List Event) (u v w : List Event) → w ≡ u ++ v → IsTrace (es ++ w) → IsTrace ((es ++ u) ++ v)
split_first es u v w e h = subst IsTrace (ap (λ (x : List Event). es ++ x) e ∙ sym (append_assoc es u v)) h

pub turn_first : (es : List Event) (n i : ℕ) (closed : List (List Access)) (as' : List Access) → i < length closed → as' ≡ get_or closed i [] →
    IsTrace (es ++ log_events n i (drop i closed)) → IsTrace ((es ++ events_of n i Serial as') ++ log_events n (i + 1) (drop (i + 1) closed))
turn_first es n i closed as' l e h = split_first es (events_of n i Serial as') (log_events n (i + 1) (drop (i + 1) closed)) (log_events n i (drop i closed)) parts h
  where
    parts : log_events n i (drop i closed) ≡ events_of n i Serial as' ++ log_events n (i + 1) (drop (i + 1) closed)
    parts =
        ap (log_events n i) (drop-cons closed i [] l)
        ∙ ap (λ (bs : List Access). events_of n i Serial bs ++ log_events n (suc i) (drop (suc i) closed)) (sym e)
        ∙ joined
      where
        joined : events_of n i Serial as' ++ log_events n (suc i) (drop (suc i) closed) ≡ events_of n i Serial as' ++ log_events n (i + 1) (drop (i + 1) closed)
        joined = let k : suc i ≡ i + 1 = omega arith in ap (λ (j : ℕ). events_of n i Serial as' ++ log_events n (suc i) (drop j closed)) k ∙ ap (λ (j : ℕ). events_of n i Serial as' ++ log_events n j (drop (i + 1) closed)) k

-- ---- the places for their events

adopted_on : (n i : ℕ) (p : HartEnd) (os : List HartEnd) (t u : Traced) → HasPlaces true (p ∷ os) t → t.logs ≤ u.logs + 1 → u.events ≡ t.events ++ events_of n i Parallel p.log → HasPlaces true os u
adopted_on n i p os t u h g e = record {
  room = omega arith;
  logs = λ w. omega (arith, h.logs refl, g);
  few = λ w. omega (arith, h.few refl, ap length e, length-append t.events (events_of n i Parallel p.log), length-map p.log (event_of n i Parallel));
}

copied_on : (p : HartEnd) (os : List HartEnd) (t u : Traced) → HasPlaces false (p ∷ os) t → t.room ≤ u.room + length p.log → HasPlaces false os u
copied_on p os t u h r = record { room = omega (arith, h.room, r); logs = λ w. absurd (false≢true w); few = λ w. absurd (false≢true w) }

-- after the events of the first hart
pub places_on : (adopts : Bool) (n i : ℕ) (p : HartEnd) (os : List HartEnd) (t u : Traced) → HasPlaces adopts (p ∷ os) t → t.room ≤ u.room + (if adopts then 0 else length p.log) →
    (adopts ≡ true → t.logs ≤ u.logs + 1) → u.events ≡ t.events ++ events_of n i Parallel p.log → HasPlaces adopts os u
places_on true n i p os t u h r g e = adopted_on n i p os t u h (g refl) e
places_on false n i p os t u h r g e = copied_on p os t u h r
