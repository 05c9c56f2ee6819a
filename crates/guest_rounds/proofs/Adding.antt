-- The events of the parallel phase while they are added.
use Rattle.std.proofs.Common.{◌≡◌, ◌<◌, ◌≤◌, ◌+◌, ◌^◌, ℕ, zero, suc, if◌then◌else◌, Bool, true, false, List, [], ◌∷◌, ◌++◌, drop, get_or, length, set, refl, sym, ap, ◌∙◌, subst, arith, append_assoc, drop-cons}
use Rattle.std.proofs.lemmas.List.{drop_all, get_or-set_other}
use Rattle.std.proofs.lemmas.List.{append-nil}
use Rattle.round_schedule.specs.declared.event.Event.{Event}
use Rattle.round_schedule.specs.declared.event.Phase.TheVariants.{Parallel}
use Rattle.round_schedule.specs.Events.{events_of}
use Rattle.hart_step.specs.declared.hart.Hart.{Hart}
use Rattle.trace.specs.Traced.{IsTrace, Traced}
use Rattle.trace.proofs.Growing.{beginning}
use Rattle.hart_rounds.specs.declared.hart_end.HartEnd.{HartEnd}
use Rattle.guest_rounds.specs.HartEnds.{HasPlaces, count_copied, harts_of, events_of_ends}
use Rattle.guest_rounds.proofs.TraceHolds.{places_on}

-- the events of harts 0 to i - 1 are added: what is left of them leads on to all
pub record Adding (adopts : Bool) (round : ℕ) (os : List HartEnd) (old : Traced) (i : ℕ) (ps : List HartEnd) (t : Traced) : Type 0 where
  pub events : t.events ++ events_of_ends round i (drop i os) ≡ old.events ++ events_of_ends round 0 os
  pub opening : t.opening ≡ old.opening
  pub places : HasPlaces adopts (drop i os) t
  pub room : old.room + count_copied adopts (drop i os) ≤ t.room + count_copied adopts os
  pub harts : harts_of ps ≡ harts_of os
  pub rest : (k : ℕ) (o : HartEnd) → i ≤ k → get_or ps k o ≡ get_or os k o

drop_next : (os : List HartEnd) (i : ℕ) (o : HartEnd) → i < length os → drop i os ≡ get_or os i o ∷ drop (i + 1) os
drop_next os i o low = drop-cons os i o low ∙ let one : suc i ≡ i + 1 = omega arith in ap (λ (j : ℕ). get_or os i o ∷ drop j os) one

-- what the next hart needs
pub record NextLog (adopts : Bool) (round i : ℕ) (o : HartEnd) (t : Traced) : Type 0 where
  pub room : (if adopts then 0 else length o.log) ≤ t.room
  pub logs : adopts ≡ true → 0 < t.logs
  pub few : adopts ≡ true → length t.events + length o.log ≤ 2 ^ 62
  pub sound : IsTrace (t.events ++ events_of round i Parallel o.log)

log_room : (adopts : Bool) (o : HartEnd) (os : List HartEnd) (t : Traced) → HasPlaces adopts (o ∷ os) t → (if adopts then 0 else length o.log) ≤ t.room
log_room true o os t h = omega arith
log_room false o os t h = omega (arith, h.room)

pub next_log : (adopts : Bool) (round : ℕ) (os : List HartEnd) (old : Traced) (i : ℕ) (ps : List HartEnd) (t : Traced) (o : HartEnd) → i < length os → o ≡ get_or ps i o →
    IsTrace (old.events ++ events_of_ends round 0 os) → Adding adopts round os old i ps t → NextLog adopts round i o t
next_log adopts round os old i ps t o low here sound a =
    let is : drop i os ≡ o ∷ drop (i + 1) os = drop_next os i o low ∙ ap (λ (x : HartEnd). x ∷ drop (i + 1) os) (sym (here ∙ a.rest i o (omega arith))) in
    let places : HasPlaces adopts (o ∷ drop (i + 1) os) t = subst (λ (xs : List HartEnd). HasPlaces adopts xs t) is a.places in
    let left = events_of_ends round (suc i) (drop (i + 1) os) in
    let whole : (t.events ++ events_of round i Parallel o.log) ++ left ≡ old.events ++ events_of_ends round 0 os =
    append_assoc t.events (events_of round i Parallel o.log) left ∙ ap (λ (xs : List HartEnd). t.events ++ events_of_ends round i xs) (sym is) ∙ a.events in
    record {
      room = log_room adopts o (drop (i + 1) os) t places;
      logs = λ w. omega (arith, places.logs w);
      few = λ w. omega (arith, places.few w);
      sound = beginning (t.events ++ events_of round i Parallel o.log) left (subst IsTrace (sym whole) sound);
    }

copied_next : (adopts : Bool) (o : HartEnd) (os : List HartEnd) (m n : ℕ) → m ≤ n + (if adopts then 0 else length o.log) → m + count_copied adopts os ≤ n + count_copied adopts (o ∷ os)
copied_next true o os m n h = omega (arith, h)
copied_next false o os m n h = omega (arith, h)

harts_set : (ps : List HartEnd) (i : ℕ) (o q : HartEnd) → o ≡ get_or ps i o → q.hart ≡ o.hart → harts_of (set ps i q) ≡ harts_of ps
harts_set [] i o q here same = refl
harts_set (p ∷ ps) zero o q here same = ap (λ (h : Hart). h ∷ harts_of ps) (same ∙ ap (λ (x : HartEnd). x.hart) here)
harts_set (p ∷ ps) (suc i) o q here same = ap (λ (hs : List Hart). p.hart ∷ hs) (harts_set ps i o q here same)

pub adding_more : (adopts : Bool) (round : ℕ) (os : List HartEnd) (old : Traced) (i : ℕ) (ps qs : List HartEnd) (t u : Traced) (o q : HartEnd) → i < length os → o ≡ get_or ps i o → q.hart ≡ o.hart → qs ≡ set ps i q →
    u.events ≡ t.events ++ events_of round i Parallel o.log → u.opening ≡ t.opening → t.room ≤ u.room + (if adopts then 0 else length o.log) → (adopts ≡ true → t.logs ≤ u.logs + 1) →
    Adding adopts round os old i ps t → Adding adopts round os old (i + 1) qs u
adding_more adopts round os old i ps qs t u o q low here same are events opening room logs a =
    let is : drop i os ≡ o ∷ drop (i + 1) os = drop_next os i o low ∙ ap (λ (x : HartEnd). x ∷ drop (i + 1) os) (sym (here ∙ a.rest i o (omega arith))) in
    let left = drop (i + 1) os in
    let places : HasPlaces adopts (o ∷ left) t = subst (λ (xs : List HartEnd). HasPlaces adopts xs t) is a.places in
    let before : old.room + count_copied adopts (o ∷ left) ≤ t.room + count_copied adopts os = subst (λ (xs : List HartEnd). old.room + count_copied adopts xs ≤ t.room + count_copied adopts os) is a.room in
    let one : i + 1 ≡ suc i = omega arith in
    record {
      events = ap (λ (es : List Event). es ++ events_of_ends round (i + 1) left) events
          ∙ ap (λ (j : ℕ). (t.events ++ events_of round i Parallel o.log) ++ events_of_ends round j left) one
          ∙ append_assoc t.events (events_of round i Parallel o.log) (events_of_ends round (suc i) left)
          ∙ ap (λ (xs : List HartEnd). t.events ++ events_of_ends round i xs) (sym is)
          ∙ a.events;
      opening = opening ∙ a.opening;
      places = places_on adopts round i o left t u places room logs events;
      room = omega (arith, before, copied_next adopts o left t.room u.room room);
      harts = ap harts_of are ∙ harts_set ps i o q here same ∙ a.harts;
      rest = λ k d more. ap (λ (xs : List HartEnd). get_or xs k d) are ∙ get_or-set_other ps i k q d (λ e. omega (arith, e, more)) ∙ a.rest k d (omega (arith, more));
    }

-- all are added
pub record Added (adopts : Bool) (round : ℕ) (os : List HartEnd) (old : Traced) (ps : List HartEnd) (t : Traced) : Type 0 where
  pub events : t.events ≡ old.events ++ events_of_ends round 0 os
  pub opening : t.opening ≡ old.opening
  pub room : old.room ≤ t.room + count_copied adopts os
  pub harts : harts_of ps ≡ harts_of os
