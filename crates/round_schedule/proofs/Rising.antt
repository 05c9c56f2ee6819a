-- The places of a run's events rise.
use Rattle.std.proofs.Common.{◌≡◌, ◌≢◌, ℕ, zero, suc, ◌+◌, ◌*◌, ◌%◌, ◌^◌, ◌<◌, ◌≤◌, ◌==◌, Bool, true, false, if◌then◌else◌, List, [], ◌∷◌, ◌++◌, length, All, Option, Some, None, option_to_list, refl, sym, ◌∙◌, ap, subst, inl, inr, ◌⊎◌, arith, append_assoc, append-nil}
use Rattle.std.proofs.lemmas.Bool.{cases_lt, cases_eq}
use Rattle.std.proofs.lemmas.Bool.Decides.{nat_tests}
use Rattle.std.proofs.lemmas.List.Elements.{All-cons, All-head, All-push}
use Rattle.pages.specs.Memory.{after}
use Rattle.round_schedule.specs.declared.access.Access.{Access}
use Rattle.round_schedule.specs.declared.access.Stepped.{Stepped}
use Rattle.round_schedule.specs.declared.access.Stepped.TheVariants.{Done, Waits, Stopped}
use Rattle.round_schedule.specs.declared.event.Event.{Event}
use Rattle.round_schedule.specs.declared.event.Phase.{Phase}
use Rattle.round_schedule.specs.declared.event.Phase.TheVariants.{Parallel, Serial}
use Rattle.round_schedule.specs.Accesses.{place_of}
use Rattle.round_schedule.specs.Events.{event_of, events_of}
use Rattle.round_schedule.specs.Held.{held}
use Rattle.round_schedule.specs.Places.{Placed, PlacesOfRunsRise, PlacesRise, count_at}
use Rattle.round_schedule.specs.Positions.{event, no_event}
use Rattle.round_schedule.specs.Schedule.{HartRound, Progress, State, Turn, Words, began, by_answer, committed, ended, events_from, first_or_zero, hart_round_of, hart_rounds, joined, next_of, opening_state, rest_of, round_from, round_of, run_of, serial_from, serial_next, turn_from, turned, went}
use Rattle.round_schedule.specs.Sound.{Counts, IsPlacedAt, counted}
use Rattle.round_schedule.proofs.Folds.{event_before, event_last, length_push}
use Rattle.round_schedule.proofs.Phases.{All-tail, All-weaker}
use Rattle.round_schedule.proofs.Runs.{events_of-append}

-- ---- a trace and how far each hart's count is

-- the count of hart i is v, and the others are as they were
abbrev pub set_at : (ℕ → ℕ) → ℕ → ℕ → ℕ → ℕ
set_at d i v j = if j == i then v else d j

at_same : (d : ℕ → ℕ) (i v j : ℕ) → j ≡ i → set_at d i v j ≡ v
at_same d i v j e = ap (λ (b : Bool). if b then v else d j) (test j i e)
  where
    test : (j i : ℕ) → j ≡ i → (j == i) ≡ true
    test j i e = grind (arith, nat_tests)

at_other : (d : ℕ → ℕ) (i v j : ℕ) → j ≢ i → set_at d i v j ≡ d j
at_other d i v j e = ap (λ (b : Bool). if b then v else d j) (test j i e)
  where
    test : (j i : ℕ) → j ≢ i → (j == i) ≡ false
    test j i e = grind (arith, nat_tests)

-- places rise, and each is below its hart's count
pub record Steady (t : List Event) (d : ℕ → ℕ) : Type 0 where
  pub rises : PlacesRise t
  pub below : All (λ (f : Event). place_of f.access < d f.hart) t

rises_push : (t : List Event) (e : Event) → PlacesRise t → All (λ (f : Event). f.hart ≡ e.hart → place_of f.access < place_of e.access) t → PlacesRise (t ++ e ∷ [])
rises_push t e h k = λ i j l m o. by_place i j l m o (cases_lt j (length t))
  where
    by_place : (i j : ℕ) → i < j → j < length (t ++ e ∷ []) → (event (t ++ e ∷ []) i).hart ≡ (event (t ++ e ∷ []) j).hart → (j < length t) ⊎ (length t ≤ j) →
        place_of (event (t ++ e ∷ []) i).access < place_of (event (t ++ e ∷ []) j).access
    by_place i j l m o (inl b) =
        let first : event (t ++ e ∷ []) i ≡ event t i = event_before t (e ∷ []) i (omega (arith, l, b)) in
        let second : event (t ++ e ∷ []) j ≡ event t j = event_before t (e ∷ []) j b in
        let rise : place_of (event t i).access < place_of (event t j).access =
        h i j l b (sym (ap (λ (f : Event). f.hart) first) ∙ o ∙ ap (λ (f : Event). f.hart) second) in
        omega (arith, rise, ap (λ (f : Event). place_of f.access) first, ap (λ (f : Event). place_of f.access) second)
    by_place i j l m o (inr b) =
        let last : j ≡ length t = omega (arith, b, m, length_push t e) in
        let first : event (t ++ e ∷ []) i ≡ event t i = event_before t (e ∷ []) i (omega (arith, l, last)) in
        let second : event (t ++ e ∷ []) j ≡ e = ap (event (t ++ e ∷ [])) last ∙ event_last t e in
        let rise : place_of (event t i).access < place_of e.access =
        k i no_event (omega (arith, l, last)) (sym (ap (λ (f : Event). f.hart) first) ∙ o ∙ ap (λ (f : Event). f.hart) second) in
        omega (arith, rise, ap (λ (f : Event). place_of f.access) first, ap (λ (f : Event). place_of f.access) second)

-- counts that are no lower
steady_grows : (t : List Event) (d e : ℕ → ℕ) → ((j : ℕ) → d j ≤ e j) → Steady t d → Steady t e
steady_grows t d e le s = record {
  rises = s.rises;
  below = All-weaker (λ (f : Event). place_of f.access < d f.hart) (λ (f : Event). place_of f.access < e f.hart) (λ f h. omega (arith, h, le f.hart)) t s.below;
}

set_grows : (d : ℕ → ℕ) (i u v j : ℕ) → u ≤ v → set_at d i u j ≤ set_at d i v j
set_grows d i u v j l = elim (cases_eq j i) [
  | inl e ↦ omega (arith, l, at_same d i u j e, at_same d i v j e)
  | inr e ↦ omega (arith, at_other d i u j e, at_other d i v j e)
]

steady_push : (t : List Event) (d : ℕ → ℕ) (n i : ℕ) (s : Phase) (a : Access) (v : ℕ) → place_of a ≡ v → Steady t (set_at d i v) → Steady (t ++ event_of n i s a ∷ []) (set_at d i (v + 1))
steady_push t d n i s a v is h = record {
  rises = rises_push t (event_of n i s a) h.rises
      (All-weaker (λ (f : Event). place_of f.access < set_at d i v f.hart) (λ (f : Event). f.hart ≡ i → place_of f.access < place_of a)
      (λ f b o. omega (arith, b, at_same d i v f.hart o, is)) t h.below);
  below = All-push (λ (f : Event). place_of f.access < set_at d i (v + 1) f.hart) t (event_of n i s a)
      (steady_grows t (set_at d i v) (set_at d i (v + 1)) (λ j. set_grows d i v (v + 1) j (omega arith)) h).below
      (omega (arith, is, at_same d i (v + 1) i refl));
}

-- one instruction of hart i, which left an access or none
steady_done : (t : List Event) (d : ℕ → ℕ) (n i : ℕ) (s : Phase) (a : Option Access) (v u : ℕ) → v + 1 < 2 ^ 64 → u ≡ (v + 1) % 2 ^ 64 → IsPlacedAt (Done a) v →
    Steady t (set_at d i v) → Steady (t ++ events_of n i s (option_to_list a)) (set_at d i u)
steady_done t d n i s None v u l e p h =
    subst (λ (x : List Event). Steady x (set_at d i u)) (sym (append-nil t)) (steady_grows t (set_at d i v) (set_at d i u) (λ j. set_grows d i v u j (omega (arith, e, l))) h)
steady_done t d n i s (Some a) v u l e p h =
    let next : u ≡ v + 1 = omega (arith, e, l) in
    subst (λ (m : ℕ). Steady (t ++ event_of n i s a ∷ []) (set_at d i m)) (sym next) (steady_push t d n i s a v p h)

-- ---- counts of lists of harts

module _ {H C : Type 0} (w : Words H C) (done : H → ℕ) (counts : Counts w done) where
  -- the harts from number i on have these counts, at most so many
  Linked : ℕ → (ℕ → ℕ) → ℕ → List H → Type 0
  Linked most d i [] = Unit {0}
  Linked most d i (h ∷ hs) = (d i ≡ done h) × (done h ≤ most) × Linked most d (suc i) hs

  Rounds : ℕ → (ℕ → ℕ) → ℕ → List (HartRound H) → Type 0
  Rounds most d i [] = Unit {0}
  Rounds most d i (r ∷ rs) = (d i ≡ done r.last.hart) × (done r.last.hart ≤ most) × Rounds most d (suc i) rs

  linked_same : (most : ℕ) (d e : ℕ → ℕ) (i : ℕ) (hs : List H) → ((j : ℕ) → i ≤ j → j < i + length hs → e j ≡ d j) → Linked most d i hs → Linked most e i hs
  unfolding Linked
  linked_same most d e i [] same l = tt
  linked_same most d e i (h ∷ hs) same l =
      (same i (omega arith) (omega arith) ∙ l.0, l.1, linked_same most d e (suc i) hs (λ j m k. same j (omega (arith, m)) (omega (arith, k))) l.2)

  linked_more : (most big : ℕ) (d : ℕ → ℕ) (i : ℕ) (hs : List H) → most ≤ big → Linked most d i hs → Linked big d i hs
  unfolding Linked
  linked_more most big d i [] le l = tt
  linked_more most big d i (h ∷ hs) le l = (l.0, omega (arith, l.1, le), linked_more most big d (suc i) hs le l.2)

  rounds_same : (most : ℕ) (d e : ℕ → ℕ) (i : ℕ) (rs : List (HartRound H)) → ((j : ℕ) → i ≤ j → e j ≡ d j) → Rounds most d i rs → Rounds most e i rs
  unfolding Rounds
  rounds_same most d e i [] same l = tt
  rounds_same most d e i (r ∷ rs) same l = (same i (omega arith) ∙ l.0, l.1, rounds_same most d e (suc i) rs (λ j m. same j (omega (arith, m))) l.2)

  linked_push : (most : ℕ) (d : ℕ → ℕ) (i : ℕ) (hs : List H) (h : H) → Linked most d i hs → d (i + length hs) ≡ done h → done h ≤ most → Linked most d i (hs ++ h ∷ [])
  unfolding Linked
  linked_push most d i [] h l is le = (ap d (omega arith) ∙ is, le, tt)
  linked_push most d i (g ∷ hs) h l is le = (l.0, l.1, linked_push most d (suc i) hs h l.2 (ap d (omega arith) ∙ is) le)

  -- ---- the parallel phase

  -- hart i has so many instructions left, none of which makes its count wrap
  record Going (last : ℕ) (d : ℕ → ℕ) (t : List Event) (n i k : ℕ) (p : Progress H) : Type 0 where
    steady : Steady (t ++ events_of n i Parallel p.accesses) (set_at d i (done p.hart))
    room : done p.hart + k ≤ last

  going_halted : (last : ℕ) (d : ℕ → ℕ) (t : List Event) (n i k : ℕ) (p : Progress H) (h : H) → done h ≡ done p.hart → Going last d t n i k p → Going last d t n i 0 (record p { hart = h })
  going_halted last d t n i k p h e g = record {
    steady = subst (λ (v : ℕ). Steady (t ++ events_of n i Parallel p.accesses) (set_at d i v)) (sym e) g.steady;
    room = omega (arith, g.room, e);
  }

  going_ended : (last : ℕ) (d : ℕ → ℕ) (t : List Event) (n i k : ℕ) (p : Progress H) → Going last d t n i k p → Going last d t n i 0 p
  going_ended last d t n i k p g = record { steady = g.steady; room = omega (arith, g.room) }

  round_answered : (bs : List ℕ) (last : ℕ) (d : ℕ → ℕ) (t : List Event) (n i k : ℕ) (p : Progress H) (f : Progress H → HartRound H) (y : Stepped) → last < 2 ^ 64 → (next_of w bs p).answer ≡ y →
      ((q : Progress H) → Going last d t n i k q → Going last d t n i 0 (f q).last) → Going last d t n i (suc k) p → Going last d t n i 0 (by_answer y p (next_of w bs p) f).last
  round_answered bs last d t n i k p f (Done a) small is rest g =
      let v : ℕ = done p.hart in
      let u : ℕ = done (next_of w bs p).hart in
      let low : v + 1 < 2 ^ 64 = omega (arith, g.room, small) in
      let next : u ≡ (v + 1) % 2 ^ 64 = counts.step_counts p.hart (after bs p.stores) ∙ ap (λ (s : Stepped). counted s v) is in
      let more : (t ++ events_of n i Parallel p.accesses) ++ events_of n i Parallel (option_to_list a) ≡ t ++ events_of n i Parallel (p.accesses ++ option_to_list a) =
      append_assoc t (events_of n i Parallel p.accesses) (events_of n i Parallel (option_to_list a)) ∙ ap (λ (x : List Event). t ++ x) (sym (events_of-append n i Parallel p.accesses (option_to_list a))) in
      rest (went p (next_of w bs p) a) (record {
        steady = subst (λ (x : List Event). Steady x (set_at d i u)) more
            (steady_done (t ++ events_of n i Parallel p.accesses) d n i Parallel a v u low next (subst (λ (s : Stepped). IsPlacedAt s v) is (counts.step_places p.hart (after bs p.stores))) g.steady);
        room = omega (arith, g.room, next, low);
      })
  round_answered bs last d t n i k p f Waits small is rest g =
      going_halted last d t n i (suc k) p (next_of w bs p).hart (counts.step_counts p.hart (after bs p.stores) ∙ ap (λ (s : Stepped). counted s (done p.hart)) is) g
  round_answered bs last d t n i k p f (Stopped code) small is rest g =
      going_halted last d t n i (suc k) p (next_of w bs p).hart (counts.step_counts p.hart (after bs p.stores) ∙ ap (λ (s : Stepped). counted s (done p.hart)) is) g

  round_stopped : (last : ℕ) (d : ℕ → ℕ) (t : List Event) (n i : ℕ) (p : Progress H) (q : HartRound H) (s : Bool) → Going last d t n i 0 p → Going last d t n i 0 q.last →
      Going last d t n i 0 (if s then ended p false else q).last
  round_stopped last d t n i p q true a b = a
  round_stopped last d t n i p q false a b = b

  round_rises : (bs : List ℕ) (last : ℕ) (d : ℕ → ℕ) (t : List Event) (n i : ℕ) → last < 2 ^ 64 → (k : ℕ) (p : Progress H) → Going last d t n i k p → Going last d t n i 0 (round_from w bs k p).last
  unfolding round_from
  round_rises bs last d t n i small zero p g = g
  round_rises bs last d t n i small (suc k) p g =
      round_stopped last d t n i p (by_answer (next_of w bs p).answer p (next_of w bs p) (round_from w bs k)) (w.stopped p.hart) (going_ended last d t n i (suc k) p g)
      (round_answered bs last d t n i k p (round_from w bs k) (next_of w bs p).answer small refl (round_rises bs last d t n i small k) g)

  -- what all harts' rounds leave: counts that are those of the rounds from hart i on, and as before below i
  record Rose (last : ℕ) (d : ℕ → ℕ) (t : List Event) (i : ℕ) (rs : List (HartRound H)) : Type 0 where
    counts_now : ℕ → ℕ
    steady : Steady t counts_now
    rounds : Rounds last counts_now i rs
    before : (j : ℕ) → j < i → counts_now j ≡ d j
    beyond : (j : ℕ) → i + length rs ≤ j → counts_now j ≡ d j

  set_back : (d : ℕ → ℕ) (i v : ℕ) (t : List Event) → d i ≡ v → Steady t d → Steady t (set_at d i v)
  set_back d i v t e s = steady_grows t d (set_at d i v) (λ j. by_hart j (cases_eq j i)) s
    where
      by_hart : (j : ℕ) → (j ≡ i) ⊎ (j ≢ i) → d j ≤ set_at d i v j
      by_hart j (inl o) = omega (arith, e, ap d o, at_same d i v j o)
      by_hart j (inr o) = omega (arith, at_other d i v j o)

  quota_low : (most : ℕ) (qs : List ℕ) → All (λ q. q ≤ most) qs → first_or_zero qs ≤ most
  quota_low most [] h = omega arith
  quota_low most (q ∷ qs) h = All-head (λ (q : ℕ). q ≤ most) q qs h

  quotas_low : (most : ℕ) (qs : List ℕ) → All (λ q. q ≤ most) qs → All (λ q. q ≤ most) (rest_of qs)
  quotas_low most [] h = h
  quotas_low most (q ∷ qs) h = All-tail (λ (q : ℕ). q ≤ most) q qs h

  rounds_rise : (bs : List ℕ) (last most : ℕ) (d : ℕ → ℕ) (t : List Event) (n i : ℕ) (qs : List ℕ) (hs : List H) → last + most < 2 ^ 64 → All (λ q. q ≤ most) qs → Steady t d → Linked last d i hs →
      Rose (last + most) d (t ++ events_from n i (hart_rounds w bs qs hs)) i (hart_rounds w bs qs hs)
  unfolding Linked Rounds
  rounds_rise bs last most d t n i qs [] small low s l = record { counts_now = d; steady = subst (λ (x : List Event). Steady x d) (sym (append-nil t)) s; rounds = tt; before = λ j k. refl; beyond = λ j k. refl }
  rounds_rise bs last most d t n i qs (h ∷ hs) small low s l =
      let one : HartRound H = hart_round_of w bs (first_or_zero qs) h in
      let v : ℕ = done one.last.hart in
      let es : List Event = events_of n i Parallel one.last.accesses in
      let e : ℕ → ℕ = set_at d i v in
      let start : Going (last + most) d t n i (first_or_zero qs) (began h) = record {
        steady = subst (λ (x : List Event). Steady x (set_at d i (done h))) (sym (append-nil t)) (set_back d i (done h) t l.0 s);
        room = omega (arith, l.1, quota_low most qs low);
      } in
      let went_on : Going (last + most) d t n i 0 one.last = round_rises bs (last + most) d t n i small (first_or_zero qs) (began h) start in
      let rest : Rose (last + most) e ((t ++ es) ++ events_from n (suc i) (hart_rounds w bs (rest_of qs) hs)) (suc i) (hart_rounds w bs (rest_of qs) hs) =
      rounds_rise bs last most e (t ++ es) n (suc i) (rest_of qs) hs small (quotas_low most qs low) went_on.steady
      (linked_same last d e (suc i) hs (λ j m k. at_other d i v j (λ o. absurd (omega (arith, m, o)))) l.2) in
      record {
        counts_now = rest.counts_now;
        steady = subst (λ (x : List Event). Steady x rest.counts_now) (append_assoc t es (events_from n (suc i) (hart_rounds w bs (rest_of qs) hs))) rest.steady;
        rounds = (rest.before i (omega arith) ∙ at_same d i v i refl, omega (arith, went_on.room), rest.rounds);
        before = λ j k. rest.before j (omega (arith, k)) ∙ at_other d i v j (λ o. absurd (omega (arith, k, o)));
        beyond = λ j k. rest.beyond j (omega (arith, k)) ∙ at_other d i v j (λ o. absurd (omega (arith, k, o)));
      }

  -- ---- the serial phase

  record Turning (last : ℕ) (d : ℕ → ℕ) (i k : ℕ) (p : Turn H C) : Type 0 where
    steady : Steady p.trace (set_at d i (done p.hart))
    room : done p.hart + k ≤ last

  turning_halted : (last : ℕ) (d : ℕ → ℕ) (i k : ℕ) (p : Turn H C) (h : H) → done h ≡ done p.hart → Turning last d i k p → Turning last d i 0 (record p { hart = h })
  turning_halted last d i k p h e g = record { steady = subst (λ (v : ℕ). Steady p.trace (set_at d i v)) (sym e) g.steady; room = omega (arith, g.room, e) }

  turning_ended : (last : ℕ) (d : ℕ → ℕ) (i k : ℕ) (p : Turn H C) → Turning last d i k p → Turning last d i 0 p
  turning_ended last d i k p g = record { steady = g.steady; room = omega (arith, g.room) }

  turn_answered : (last : ℕ) (d : ℕ → ℕ) (n i k : ℕ) (p : Turn H C) (f : Turn H C → Turn H C) (y : Stepped) → last < 2 ^ 64 → (serial_next w n i p).answer ≡ y →
      ((q : Turn H C) → Turning last d i k q → Turning last d i 0 (f q)) → Turning last d i (suc k) p → Turning last d i 0 (turned n i y p (serial_next w n i p) f)
  turn_answered last d n i k p f (Done a) small is rest g =
      let v : ℕ = done p.hart in
      let u : ℕ = done (serial_next w n i p).hart in
      let low : v + 1 < 2 ^ 64 = omega (arith, g.room, small) in
      let next : u ≡ (v + 1) % 2 ^ 64 = counts.serial_counts n p.hart p.bytes p.console (held i p.trace) ∙ ap (λ (s : Stepped). counted s v) is in
      rest (record { hart = (serial_next w n i p).hart; bytes = after p.bytes (serial_next w n i p).stores; console = (serial_next w n i p).console; trace = p.trace ++ events_of n i Serial (option_to_list a) }) (record {
        steady = steady_done p.trace d n i Serial a v u low next (subst (λ (s : Stepped). IsPlacedAt s v) is (counts.serial_places n p.hart p.bytes p.console (held i p.trace))) g.steady;
        room = omega (arith, g.room, next, low);
      })
  turn_answered last d n i k p f Waits small is rest g =
      turning_halted last d i (suc k) p (serial_next w n i p).hart (counts.serial_counts n p.hart p.bytes p.console (held i p.trace) ∙ ap (λ (s : Stepped). counted s (done p.hart)) is) g
  turn_answered last d n i k p f (Stopped code) small is rest g =
      turning_halted last d i (suc k) p (serial_next w n i p).hart (counts.serial_counts n p.hart p.bytes p.console (held i p.trace) ∙ ap (λ (s : Stepped). counted s (done p.hart)) is) g

  turn_stopped : (last : ℕ) (d : ℕ → ℕ) (i : ℕ) (p q : Turn H C) (s : Bool) → Turning last d i 0 p → Turning last d i 0 q → Turning last d i 0 (if s then p else q)
  turn_stopped last d i p q true a b = a
  turn_stopped last d i p q false a b = b

  turn_rises : (last : ℕ) (d : ℕ → ℕ) (n i : ℕ) → last < 2 ^ 64 → (k : ℕ) (p : Turn H C) → Turning last d i k p → Turning last d i 0 (turn_from w n i k p)
  unfolding turn_from
  turn_rises last d n i small zero p g = g
  turn_rises last d n i small (suc k) p g =
      turn_stopped last d i p (turned n i (serial_next w n i p).answer p (serial_next w n i p) (turn_from w n i k)) (w.stopped p.hart) (turning_ended last d i (suc k) p g)
      (turn_answered last d n i k p (turn_from w n i k) (serial_next w n i p).answer small refl (turn_rises last d n i small k) g)

  -- between rounds: counts that are those of the harts, at most so many
  record CountsHold (last : ℕ) (s : State H C) : Type 0 where
    counts_now : ℕ → ℕ
    steady : Steady s.trace counts_now
    linked : Linked last counts_now 0 s.harts
    past : (j : ℕ) → length s.harts ≤ j → counts_now j ≡ 0

  within_budget : (budget : ℕ) (b : Bool) → (if b then budget else 0) ≤ budget
  within_budget budget true = omega arith
  within_budget budget false = omega arith

  length_pushed : (xs : List H) (x : H) → length (xs ++ x ∷ []) ≡ suc (length xs)
  length_pushed [] x = refl
  length_pushed (y ∷ ys) x = ap (λ (j : ℕ). suc j) (length_pushed ys x)

  serial_rises : (last budget i : ℕ) (rs : List (HartRound H)) (s : State H C) (d : ℕ → ℕ) → last + budget < 2 ^ 64 → length s.harts ≡ i → Steady s.trace d → Linked (last + budget) d 0 s.harts → Rounds last d i rs →
      ((j : ℕ) → i + length rs ≤ j → d j ≡ 0) → CountsHold (last + budget) (serial_from w budget i rs s)
  unfolding Rounds
  serial_rises last budget i [] s d small many st l r none = record { counts_now = d; steady = st; linked = l; past = λ j m. none j (omega (arith, m, many)) }
  serial_rises last budget i (r ∷ rs) s d small many st l rd none =
      let k : ℕ = if r.waits then budget else 0 in
      let start : Turn H C = record { hart = r.last.hart; bytes = s.bytes; console = s.console; trace = s.trace } in
      let p : Turn H C = turn_from w s.rounds i k start in
      let begun : Turning (last + budget) d i k start = record { steady = set_back d i (done r.last.hart) s.trace rd.0 st; room = omega (arith, rd.1, within_budget budget r.waits) } in
      let g : Turning (last + budget) d i 0 p = turn_rises (last + budget) d s.rounds i small k start begun in
      let e : ℕ → ℕ = set_at d i (done p.hart) in
      serial_rises last budget (suc i) rs (joined s p) e small (length_pushed s.harts p.hart ∙ ap (λ (j : ℕ). suc j) many) g.steady
      (linked_push (last + budget) e 0 s.harts p.hart (linked_same (last + budget) d e 0 s.harts (λ j m o. at_other d i (done p.hart) j (λ x. absurd (omega (arith, o, x, many)))) l)
      (at_same d i (done p.hart) (0 + length s.harts) (omega (arith, many))) (omega (arith, g.room)))
      (rounds_same last d e (suc i) rs (λ j m. at_other d i (done p.hart) j (λ x. absurd (omega (arith, m, x)))) rd.2)
      (λ j m. at_other d i (done p.hart) j (λ x. absurd (omega (arith, m, x))) ∙ none j (omega (arith, m)))

  -- ---- rounds and runs

  no_harts : (most : ℕ) (d : ℕ → ℕ) → Linked most d 0 []
  unfolding Linked
  no_harts most d = tt

  length-rounds : (bs qs : List ℕ) (hs : List H) → length (hart_rounds w bs qs hs) ≡ length hs
  length-rounds bs qs [] = refl
  length-rounds bs qs (h ∷ hs) = ap (λ (j : ℕ). suc j) (length-rounds bs (rest_of qs) hs)

  counts_hold_on : (last most budget : ℕ) (quotas : ℕ → List ℕ) (s : State H C) → ((m : ℕ) → All (λ q. q ≤ most) (quotas m)) → last + most + budget < 2 ^ 64 → CountsHold last s →
      CountsHold (last + most + budget) (round_of w budget quotas s)
  unfolding round_of
  counts_hold_on last most budget quotas s low small k =
      let rs : List (HartRound H) = hart_rounds w s.bytes (quotas s.rounds) s.harts in
      let rose : Rose (last + most) k.counts_now (s.trace ++ events_from (s.rounds + 1) 0 rs) 0 rs =
      rounds_rise s.bytes last most k.counts_now s.trace (s.rounds + 1) 0 (quotas s.rounds) s.harts (omega (arith, small)) (low s.rounds) k.steady k.linked in
      serial_rises (last + most) budget 0 rs (committed s rs) rose.counts_now small refl rose.steady (no_harts (last + most + budget) rose.counts_now) rose.rounds
      (λ j m. rose.beyond j m ∙ k.past j (omega (arith, m, length-rounds s.bytes (quotas s.rounds) s.harts)))

  run_rises : (last most budget : ℕ) (quotas : ℕ → List ℕ) (n : ℕ) (s : State H C) → ((m : ℕ) → All (λ q. q ≤ most) (quotas m)) → last + n * (most + budget) < 2 ^ 64 → CountsHold last s →
      PlacesRise (run_of w budget quotas n s).trace
  unfolding run_of
  run_rises last most budget quotas zero s low small k = k.steady.rises
  run_rises last most budget quotas (suc n) s low small k =
      let one_more : (last + most + budget) + n * (most + budget) ≡ last + suc n * (most + budget) = omega arith in
      run_rises (last + most + budget) most budget quotas n (round_of w budget quotas s) low (omega (arith, one_more, small))
      (counts_hold_on last most budget quotas s low (omega (arith, one_more, small)) k)

  linked_start : (i : ℕ) (hs : List H) → All (λ h. done h ≡ 0) hs → Linked 0 (λ j. 0) i hs
  unfolding Linked
  linked_start i [] h = tt
  linked_start i (x ∷ hs) h =
      let zero_done : done x ≡ 0 = All-head (λ (y : H). done y ≡ 0) x hs h in
      (sym zero_done, omega (arith, zero_done), linked_start (suc i) hs (All-tail (λ (y : H). done y ≡ 0) x hs h))

  places : (budget most : ℕ) (quotas : ℕ → List ℕ) → ((m : ℕ) → All (λ q. q ≤ most) (quotas m)) → (n : ℕ) (hs : List H) (bs : List ℕ) (c : C) → All (λ h. done h ≡ 0) hs → n * (most + budget) < 2 ^ 64 →
      PlacesRise (run_of w budget quotas n (opening_state hs bs c)).trace
  places budget most quotas low n hs bs c zero_done small =
      run_rises 0 most budget quotas n (opening_state hs bs c) low (omega (arith, small)) (record {
        counts_now = λ j. 0;
        steady = record { rises = λ i j l m. absurd (omega (arith, m)); below = λ k d l. absurd (omega (arith, l)) };
        linked = linked_start 0 hs zero_done;
        past = λ j l. refl;
      })

  -- ---- the same, told by the harts alone

  linked_from : (most : ℕ) (d : ℕ → ℕ) (i : ℕ) (hs : List H) → ((k : ℕ) → d (i + k) ≡ count_at done hs k) → All (λ (h : H). done h ≤ most) hs → Linked most d i hs
  unfolding Linked
  linked_from most d i [] same low = tt
  linked_from most d i (h ∷ hs) same low =
      let here : i + 0 ≡ i = omega arith in (
        sym (ap d here) ∙ same 0,
        All-head (λ (x : H). done x ≤ most) h hs low,
        linked_from most d (suc i) hs (λ k. let next : suc i + k ≡ i + suc k = omega arith in ap d next ∙ same (suc k)) (All-tail (λ (x : H). done x ≤ most) h hs low),
      )

  linked_at : (most : ℕ) (d : ℕ → ℕ) (i : ℕ) (hs : List H) → Linked most d i hs → ((j : ℕ) → i + length hs ≤ j → d j ≡ 0) → (k : ℕ) → d (i + k) ≡ count_at done hs k
  unfolding Linked
  linked_at most d i [] l none k = none (i + k) (omega arith)
  linked_at most d i (h ∷ hs) l none zero = let here : i + 0 ≡ i = omega arith in ap d here ∙ l.0
  linked_at most d i (h ∷ hs) l none (suc k) =
      let next : i + suc k ≡ suc i + k = omega arith in ap d next ∙ linked_at most d (suc i) hs l.2 (λ j m. none j (omega (arith, m))) k

  linked_low : (most : ℕ) (d : ℕ → ℕ) (i : ℕ) (hs : List H) → Linked most d i hs → All (λ (h : H). done h ≤ most) hs
  unfolding Linked
  linked_low most d i [] l = λ k x m. absurd (omega (arith, m))
  linked_low most d i (h ∷ hs) l = All-cons (λ (x : H). done x ≤ most) h hs l.1 (linked_low most d (suc i) hs l.2)

  none_past : (hs : List H) (j : ℕ) → length hs ≤ j → count_at done hs j ≡ 0
  none_past [] j m = refl
  none_past (h ∷ hs) zero m = absurd (omega (arith, m))
  none_past (h ∷ hs) (suc j) m = none_past hs j (omega (arith, m))

  placed_on : (last most budget : ℕ) (quotas : ℕ → List ℕ) (s : State H C) → ((m : ℕ) → All (λ q. q ≤ most) (quotas m)) → last + most + budget < 2 ^ 64 → Placed done last s.harts s.trace →
      Placed done (last + most + budget) (round_of w budget quotas s).harts (round_of w budget quotas s).trace
  placed_on last most budget quotas s low small p =
      let k : CountsHold (last + most + budget) (round_of w budget quotas s) = counts_hold_on last most budget quotas s low small (record {
        counts_now = count_at done s.harts;
        steady = record { rises = p.rising; below = p.below };
        linked = linked_from last (count_at done s.harts) 0 s.harts (λ j. ap (count_at done s.harts) (omega arith)) p.counts;
        past = none_past s.harts;
      }) in
      let same : (j : ℕ) → k.counts_now j ≡ count_at done (round_of w budget quotas s).harts j = λ j. ap k.counts_now (omega arith) ∙ linked_at (last + most + budget) k.counts_now 0 (round_of w budget quotas s).harts k.linked (λ i m. k.past i (omega (arith, m))) j in
      record {
        rising = k.steady.rises;
        below = All-weaker (λ (f : Event). place_of f.access < k.counts_now f.hart) (λ (f : Event). place_of f.access < count_at done (round_of w budget quotas s).harts f.hart)
            (λ f h. omega (arith, h, same f.hart)) (round_of w budget quotas s).trace k.steady.below;
        counts = linked_low (last + most + budget) k.counts_now 0 (round_of w budget quotas s).harts k.linked;
      }

-- places stay below their harts' counts over a round
pub places_low : {H C : Type 0} (w : Words H C) (done : H → ℕ) → Counts w done → (last most budget : ℕ) (quotas : ℕ → List ℕ) (s : State H C) → ((m : ℕ) → All (λ q. q ≤ most) (quotas m)) →
    last + most + budget < 2 ^ 64 → Placed done last s.harts s.trace → Placed done (last + most + budget) (round_of w budget quotas s).harts (round_of w budget quotas s).trace
places_low w done counts last most budget quotas s low small p = placed_on w done counts last most budget quotas s low small p

pub rising : (H C : Type 0) → PlacesOfRunsRise H C
rising H C = λ w done counts budget most quotas low n hs bs c zero_done small. places w done counts budget most quotas low n hs bs c zero_done small
