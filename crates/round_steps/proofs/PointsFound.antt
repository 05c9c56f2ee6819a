-- Points at which something is told, round by round.
use Rattle.std.proofs.Common.{◌≡◌, ℕ, zero, suc, ◌+◌, ◌-◌, ◌<◌, ◌≤◌, Bool, true, false, cond, List, [], ◌∷◌, ◌++◌, length, drop, filter, map, get_or, Option, Some, None, refl, sym, ◌∙◌, ap, arith, add-one, inl, inr}
use Rattle.std.specs.Prelude.{◌⊎◌}
use Rattle.std.proofs.lemmas.Bool.{cases_eq}
use Rattle.std.proofs.lemmas.List.{drop_more}
use Rattle.round_schedule.specs.declared.event.Event.{Event}
use Rattle.round_schedule.specs.Schedule.{State, round_of, run_of}
use Rattle.round_planner.specs.Quotas.{quotas_of}
use Rattle.hart_step.specs.declared.hart.Hart.{Hart}
use Rattle.hart_step.specs.Console.{ConsoleState}
use Rattle.hart_step.specs.Words.{words_of}
use Rattle.machine.specs.Machine.{Running, after_rounds}
use Rattle.machine.specs.Untraced.{AreAdded, IsUntraced, Untraced}
use Rattle.machine.proofs.Repeated.{more_rounds}
use Rattle.moments.specs.Moves.{events_left, moves_of}
use Rattle.moments.proofs.Left.{moves_leave}
use Rattle.moments.specs.declared.asked.Asked.{Asked}
use Rattle.watching.specs.declared.watchpoint.Watchpoint.{Watchpoint}
use Rattle.past_harts.specs.declared.point.Point.{Point}
use Rattle.round_steps.specs.declared.told.Told.{Told}
use Rattle.watching.specs.declared.hits.Hit.{Hit}
use Rattle.watching.specs.declared.watchpoint.Way.{Way}
use Rattle.watching.specs.declared.watchpoint.Way.TheVariants.{On, Back}
use Rattle.watching.specs.Watches.{hits_of}
use Rattle.past_harts.specs.declared.place.Place.{Place}
use Rattle.round_steps.specs.Places.{round_places}
use Rattle.round_steps.specs.Searching.{FindsNearest}
use Rattle.round_steps.specs.Points.{break_point, earliest, first_in, hit_point, ends, last_in, later, latest, nearest_in, nearest_point_of, nearest_told, next_point_of, or_else, points_of, previous_point_of, sooner}
use Rattle.past_harts.specs.Points.{point_before}

-- ---- on the way on

pub none_at_first : (a : Asked) (ws : List Watchpoint) (m : Running) (here : Point) → next_point_of a ws m 0 here ≡ None
unfolding next_point_of
none_at_first a ws m here = refl

one_more : (a : Asked) (ws : List Watchpoint) (m : Running) (d : ℕ) (here : Point) → next_point_of a ws m (d + 1) here ≡ or_else (next_point_of a ws m d here) (first_in a ws (after_rounds d m) here)
unfolding next_point_of
one_more a ws m d here = ap (λ (k : ℕ). next_point_of a ws m k here) (add-one d)

-- in one round more, where there was none before
pub first_now : (a : Asked) (ws : List Watchpoint) (m : Running) (d : ℕ) (here : Point) (x : Option Told) → next_point_of a ws m d here ≡ None → x ≡ first_in a ws (after_rounds d m) here → next_point_of a ws m (d + 1) here ≡ x
first_now a ws m d here x none e = one_more a ws m d here ∙ ap (λ (y : Option Told). or_else y (first_in a ws (after_rounds d m) here)) none ∙ sym e

-- what is found in some rounds is found in more
stays_found : (a : Asked) (ws : List Watchpoint) (m : Running) (d n : ℕ) (here : Point) (x : Told) → (d ≡ suc n) ⊎ (d ≡ suc n → ⊥) → d ≤ suc n → next_point_of a ws m d here ≡ Some x → (d ≤ n → next_point_of a ws m n here ≡ Some x) → next_point_of a ws m (suc n) here ≡ Some x
unfolding next_point_of
stays_found a ws m d n here x (inl e) le found ih = ap (λ (k : ℕ). next_point_of a ws m k here) (sym e) ∙ found
stays_found a ws m d n here x (inr ne) le found ih = ap (λ (y : Option Told). or_else y (first_in a ws (after_rounds n m) here)) (ih (omega (arith, le, ne)))

pub still_found : (a : Asked) (ws : List Watchpoint) (m : Running) (d n : ℕ) (here : Point) (x : Told) → d ≤ n → next_point_of a ws m d here ≡ Some x → next_point_of a ws m n here ≡ Some x
still_found a ws m d zero here x le found = (let e : 0 ≡ d = omega (arith, le) in ap (λ (k : ℕ). next_point_of a ws m k here) e) ∙ found
still_found a ws m d (suc n) here x le found = stays_found a ws m d n here x (cases_eq d (suc n)) le found (λ l. still_found a ws m d n here x l found)

-- ---- on the way back

pub last_at_first : (a : Asked) (ws : List Watchpoint) (m : Running) (here : Point) → None ≡ previous_point_of a ws m 0 here
unfolding previous_point_of
last_at_first a ws m here = refl

pub last_now : (a : Asked) (ws : List Watchpoint) (m : Running) (d : ℕ) (here : Point) (x y z : Option Told) → y ≡ previous_point_of a ws m d here → x ≡ last_in a ws (after_rounds d m) here → z ≡ or_else x y → z ≡ previous_point_of a ws m (d + 1) here
unfolding previous_point_of
last_now a ws m d here x y z ey ex ez =
    ez ∙ ap (λ (o : Option Told). or_else o y) ex ∙ ap (or_else (last_in a ws (after_rounds d m) here)) ey ∙ ap (λ (k : ℕ). previous_point_of a ws m k here) (sym (add-one d))

or_else_assoc : (x y z : Option Told) → or_else x (or_else y z) ≡ or_else (or_else x y) z
or_else_assoc None y z = refl
or_else_assoc (Some x) y z = refl

-- those of a stretch come before those of the rounds before it
previous_add : (a : Asked) (ws : List Watchpoint) (m : Running) (b n : ℕ) (here : Point) → previous_point_of a ws m (b + n) here ≡ or_else (previous_point_of a ws (after_rounds b m) n here) (previous_point_of a ws m b here)
unfolding previous_point_of
previous_add a ws m b zero here = let same : b + 0 ≡ b = omega arith in ap (λ (k : ℕ). previous_point_of a ws m k here) same
previous_add a ws m b (suc n) here =
    (let same : b + suc n ≡ suc (b + n) = omega arith in ap (λ (k : ℕ). previous_point_of a ws m k here) same)
    ∙ ap (λ (r : Running). or_else (last_in a ws r here) (previous_point_of a ws m (b + n) here)) (sym (more_rounds b n m))
    ∙ ap (or_else (last_in a ws (after_rounds n (after_rounds b m)) here)) (previous_add a ws m b n here)
    ∙ or_else_assoc (last_in a ws (after_rounds n (after_rounds b m)) here) (previous_point_of a ws (after_rounds b m) n here) (previous_point_of a ws m b here)

split : (a : Asked) (ws : List Watchpoint) (m : Running) (here : Point) (b e : ℕ) → b ≤ e → previous_point_of a ws m e here ≡ or_else (previous_point_of a ws (after_rounds b m) (e - b) here) (previous_point_of a ws m b here)
split a ws m here b e le = (let sum : e ≡ b + (e - b) = omega (arith, le) in ap (λ (k : ℕ). previous_point_of a ws m k here) sum) ∙ previous_add a ws m b (e - b) here

pub found_between : (a : Asked) (ws : List Watchpoint) (m : Running) (here : Point) (x : Told) (b e : ℕ) → b ≤ e → Some x ≡ previous_point_of a ws (after_rounds b m) (e - b) here → Some x ≡ previous_point_of a ws m e here
found_between a ws m here x b e le found = sym (split a ws m here b e le ∙ ap (λ (o : Option Told). or_else o (previous_point_of a ws m b here)) (sym found))

pub none_between : (a : Asked) (ws : List Watchpoint) (m : Running) (here : Point) (b e : ℕ) → b ≤ e → None ≡ previous_point_of a ws (after_rounds b m) (e - b) here → previous_point_of a ws m e here ≡ previous_point_of a ws m b here
none_between a ws m here b e le none = split a ws m here b e le ∙ ap (λ (o : Option Told). or_else o (previous_point_of a ws m b here)) (sym none)

pub none_at_all : (a : Asked) (ws : List Watchpoint) (m : Running) (here : Point) (e : ℕ) → e ≡ 0 → None ≡ previous_point_of a ws m e here
none_at_all a ws m here e z = last_at_first a ws m here ∙ ap (λ (k : ℕ). previous_point_of a ws m k here) (sym z)

-- ---- the events of one round

cancelled : (xs ys zs : List Event) → xs ++ ys ≡ xs ++ zs → ys ≡ zs
cancelled [] ys zs e = e
cancelled (x ∷ xs) ys zs e = cancelled xs ys zs (ap (λ (l : List Event). tail_of l) e)
  where
    tail_of : List Event → List Event
    tail_of [] = []
    tail_of (y ∷ ys) = ys

one_round : (m : Running) → (after_rounds 1 m).state ≡ round_of (words_of m.code) m.plan.budget (quotas_of m.plan) m.state
unfolding run_of
one_round m = refl

pub events_are : (m : Running) (u : Untraced) (es fs : List Event) → IsUntraced m u → es ≡ [] → AreAdded 1 u es fs → fs ≡ events_left (m.state.rounds + 1) (moves_of (words_of m.code) m.plan.budget (quotas_of m.plan) m.state)
events_are m u es fs is none added =
    let a = added m is in
    a.2 ∙ ap (λ (xs : List Event). xs ++ a.0) none
    ∙ cancelled m.state.trace a.0 (events_left (m.state.rounds + 1) (moves_of (words_of m.code) m.plan.budget (quotas_of m.plan) m.state))
    (sym a.1 ∙ ap (λ (s : State Hart ConsoleState). s.trace) (one_round m) ∙ moves_leave _ _ (words_of m.code) m.plan.budget (quotas_of m.plan) m.state)

-- ---- the earliest and the latest, at a step of a loop

sooner_step : (t : Told → Bool) (b : Bool) (y : Option Told) (x : Told) (xs : List Told) → t x ≡ b → earliest (cond b (sooner y x) y) (filter t xs) ≡ earliest y (filter t (x ∷ xs))
sooner_step t true y x xs h = rw h refl
sooner_step t false y x xs h = rw h refl

later_step : (t : Told → Bool) (b : Bool) (y : Option Told) (x : Told) (xs : List Told) → t x ≡ b → latest (cond b (later y x) y) (filter t xs) ≡ latest y (filter t (x ∷ xs))
later_step t true y x xs h = rw h refl
later_step t false y x xs h = rw h refl

pub sooner_noted : (t : Told → Bool) (y z : Option Told) (xs : List Told) (i : ℕ) (d : Told) (b : Bool) → i < length xs → b ≡ t (get_or xs i d) → z ≡ cond b (sooner y (get_or xs i d)) y →
    earliest z (filter t (drop (i + 1) xs)) ≡ earliest y (filter t (drop i xs))
sooner_noted t y z xs i d b lt h e =
    ap (λ (o : Option Told). earliest o (filter t (drop (i + 1) xs))) e
    ∙ sooner_step t b y (get_or xs i d) (drop (i + 1) xs) (sym h)
    ∙ ap (λ (ys : List Told). earliest y (filter t ys)) (sym (drop_more xs i d lt))

pub later_noted : (t : Told → Bool) (y z : Option Told) (xs : List Told) (i : ℕ) (d : Told) (b : Bool) → i < length xs → b ≡ t (get_or xs i d) → z ≡ cond b (later y (get_or xs i d)) y →
    latest z (filter t (drop (i + 1) xs)) ≡ latest y (filter t (drop i xs))
later_noted t y z xs i d b lt h e =
    ap (λ (o : Option Told). latest o (filter t (drop (i + 1) xs))) e
    ∙ later_step t b y (get_or xs i d) (drop (i + 1) xs) (sym h)
    ∙ ap (λ (ys : List Told). latest y (filter t ys)) (sym (drop_more xs i d lt))

none_left : (xs : List Told) (i : ℕ) → length xs ≤ i → drop i xs ≡ []
none_left [] zero le = refl
none_left [] (suc i) le = refl
none_left (x ∷ xs) zero le = absurd (omega (arith, le))
none_left (x ∷ xs) (suc i) le = none_left xs i (omega (arith, le))

pub all_noted : (t : Told → Bool) (y : Option Told) (xs : List Told) (i : ℕ) → length xs ≤ i → y ≡ earliest y (filter t (drop i xs))
all_noted t y xs i le = ap (λ (ys : List Told). earliest y (filter t ys)) (sym (none_left xs i le))

pub all_looked_at : (t : Told → Bool) (y : Option Told) (xs : List Told) (i : ℕ) → length xs ≤ i → y ≡ latest y (filter t (drop i xs))
all_looked_at t y xs i le = ap (λ (ys : List Told). latest y (filter t ys)) (sym (none_left xs i le))

-- ---- one round

pub points_are : (m : Running) (way : Way) (a : Asked) (ws : List Watchpoint) (k : ℕ) (places : List Place) (harts : List Hart) (hits : List Hit) (none some all : List Told) → k ≡ m.state.rounds → places ≡ round_places a m → harts ≡ m.state.harts →
    hits ≡ hits_of way ws (moves_of (words_of m.code) m.plan.budget (quotas_of m.plan) m.state) → none ≡ [] → some ≡ none ++ map (break_point k) places → all ≡ some ++ map (hit_point way k harts) hits → all ≡ points_of way a ws m
points_are m way a ws k places harts hits none some all ek ep eh ehits en es ea =
    ea
    ∙ ap (λ (xs : List Told). xs ++ map (hit_point way k harts) hits) (es ∙ ap (λ (xs : List Told). xs ++ map (break_point k) places) en)
    ∙ ap (λ (j : ℕ). map (break_point j) places ++ map (hit_point way j harts) hits) ek
    ∙ ap (λ (ps : List Place). map (break_point m.state.rounds) ps ++ map (hit_point way m.state.rounds harts) hits) ep
    ∙ ap (λ (hs : List Hart). map (break_point m.state.rounds) (round_places a m) ++ map (hit_point way m.state.rounds hs) hits) eh
    ∙ ap (λ (xs : List Hit). map (break_point m.state.rounds) (round_places a m) ++ map (hit_point way m.state.rounds m.state.harts) xs) ehits

pub first_of_points : (a : Asked) (ws : List Watchpoint) (m : Running) (here : Point) (told : List Told) (x : Option Told) → told ≡ points_of On a ws m → x ≡ earliest None (filter (λ (t : Told). point_before here t.point) told) → x ≡ first_in a ws m here
first_of_points a ws m here told x e f = f ∙ ap (λ (ts : List Told). earliest None (filter (λ (t : Told). point_before here t.point) ts)) e

pub last_of_points : (a : Asked) (ws : List Watchpoint) (m : Running) (here : Point) (told : List Told) (x : Option Told) → told ≡ points_of Back a ws m → x ≡ latest None (filter (λ (t : Told). point_before t.point here) told) → x ≡ last_in a ws m here
last_of_points a ws m here told x e f = f ∙ ap (λ (ts : List Told). latest None (filter (λ (t : Told). point_before t.point here) ts)) e

-- ---- a search

pub found_in_all : (a : Asked) (ws : List Watchpoint) (m : Running) (k n : ℕ) (here : Point) (x : Option Told) → k ≤ n → (x ≡ None → k ≡ n) → x ≡ next_point_of a ws m k here → x ≡ next_point_of a ws m n here
found_in_all a ws m k n here None le all e = e ∙ ap (λ (j : ℕ). next_point_of a ws m j here) (all refl)
found_in_all a ws m k n here (Some t) le all e = sym (still_found a ws m k n here t le (sym e))

pub found_one_way : (way : Way) (a : Asked) (ws : List Watchpoint) (m : Running) (n : ℕ) (here : Point) (u v : Untraced) (x : Option Told) → FindsNearest way a ws m n here u v x → x ≡ nearest_point_of way a ws m n here
found_one_way On a ws m n here u v x f = found_in_all a ws m f.done n here x f.most f.all f.told
found_one_way Back a ws m n here u v x f = f.told

-- ---- round by round, one way

pub nearest_of_points : (way : Way) (a : Asked) (ws : List Watchpoint) (m : Running) (here : Point) (told : List Told) (x : Option Told) → told ≡ points_of way a ws m → x ≡ nearest_told way here told → x ≡ nearest_in way a ws m here
nearest_of_points On = first_of_points
nearest_of_points Back = last_of_points

pub nearest_at_first : (way : Way) (a : Asked) (ws : List Watchpoint) (m : Running) (here : Point) → None ≡ nearest_point_of way a ws m 0 here
nearest_at_first On a ws m here = sym (none_at_first a ws m here)
nearest_at_first Back a ws m here = last_at_first a ws m here

or_none : (x : Option Told) → or_else x None ≡ x
or_none None = refl
or_none (Some t) = refl

pub nearest_now : (way : Way) (a : Asked) (ws : List Watchpoint) (m : Running) (d : ℕ) (here : Point) (x y z : Option Told) → ends way y ≡ false → y ≡ nearest_point_of way a ws m d here →
    x ≡ nearest_in way a ws (after_rounds d m) here → z ≡ or_else x y → z ≡ nearest_point_of way a ws m (d + 1) here
nearest_now On a ws m d here x None z goes ey ex ez = ez ∙ or_none x ∙ sym (first_now a ws m d here x (sym ey) ex)
nearest_now On a ws m d here x (Some t) z goes ey ex ez = absurd cc
nearest_now Back a ws m d here x y z goes ey ex ez = last_now a ws m d here x y z ey ex ez

pub finds_all : (way : Way) (a : Asked) (ws : List Watchpoint) (m : Running) (n : ℕ) (here : Point) (u v : Untraced) (x : Option Told) → IsUntraced (after_rounds n m) v → v.rounds ≡ u.rounds + n →
    x ≡ nearest_point_of way a ws m n here → FindsNearest way a ws m n here u v x
finds_all On a ws m n here u v x run rounds told = record { done = n; most = omega arith; all = λ none. refl; run = run; rounds = rounds; told = told }
finds_all Back a ws m n here u v x run rounds told = record { run = run; rounds = rounds; told = told }

pub finds_early : (way : Way) (a : Asked) (ws : List Watchpoint) (m : Running) (k n : ℕ) (here : Point) (u v : Untraced) (x : Option Told) → k ≤ n → ends way x ≡ true → IsUntraced (after_rounds k m) v → v.rounds ≡ u.rounds + k →
    x ≡ nearest_point_of way a ws m k here → FindsNearest way a ws m n here u v x
finds_early On a ws m k n here u v None few e run rounds told = absurd cc
finds_early On a ws m k n here u v (Some t) few e run rounds told = record { done = k; most = few; all = λ none. absurd cc; run = run; rounds = rounds; told = told }
finds_early Back a ws m k n here u v x few e run rounds told = absurd cc
