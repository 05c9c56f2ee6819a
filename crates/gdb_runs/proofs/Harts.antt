-- Of which harts something is told: of those that there are.
use Rattle.std.proofs.Common.{◌≡◌, ℕ, zero, suc, ◌+◌, ◌<◌, ◌≤◌, Bool, true, false, cond, List, [], ◌∷◌, ◌++◌, length, map, filter, All, Option, Some, None, refl, ◌∙◌, arith, length-append}
use Rattle.std.specs.Prelude.{IfSome, slice_get}
use Rattle.std.specs.List.{position}
use Rattle.std.proofs.lemmas.List.Elements.{All-append, All-cons, All-filter, All-head, All-nil, All-tail, All-weaker}
use Rattle.round_schedule.specs.Accesses.{place_of}
use Rattle.round_schedule.specs.declared.access.Access.{Access}
use Rattle.round_schedule.specs.declared.access.Stepped.{Stepped}
use Rattle.round_schedule.specs.declared.access.Stepped.TheVariants.{Done, Waits, Stopped}
use Rattle.round_schedule.specs.declared.event.Phase.{Phase}
use Rattle.round_schedule.specs.declared.event.Phase.TheVariants.{Parallel, Serial}
use Rattle.round_schedule.specs.Schedule.{HartRound, StepOutcome, SerialOutcome, State, Turn, Words, committed, first_or_zero, hart_rounds, joined, rest_of, round_of, run_of, serial_from, serial_next, turn_went, turn_of as turned_by}
use Rattle.round_schedule.proofs.PastEnds.{rounds_length}
use Rattle.round_planner.specs.Quotas.{quotas_of}
use Rattle.hart_step.specs.declared.hart.Hart.{Hart}
use Rattle.hart_step.specs.Words.{words_of}
use Rattle.machine.specs.Machine.{Running, after_rounds}
use Rattle.moments.specs.Moves.{Move, moved_by, moves_of, part_moves, parts_moves, stopped_at, stopped_by, taken_by, took, turn_moves, turns_moves, went_by}
use Rattle.moments.specs.Sights.{Sight, next_seen, seen_after, turn_start}
use Rattle.moments.specs.declared.asked.Asked.{Asked}
use Rattle.watching.specs.declared.hits.Hit.{Hit}
use Rattle.watching.specs.declared.watchpoint.Watchpoint.{Watchpoint}
use Rattle.watching.specs.declared.watchpoint.Way.{Way}
use Rattle.watching.specs.declared.watchpoint.Way.TheVariants.{On, Back}
use Rattle.watching.specs.Watches.{access_hits, beside, hit_at, hits_after, hits_of, is_rival, is_told}
use Rattle.past_harts.specs.declared.place.Place.{Place}
use Rattle.past_harts.specs.declared.point.Point.{Point}
use Rattle.round_steps.specs.declared.told.Told.{Told}
use Rattle.past_harts.specs.Begun.{Begun, begun_of}
use Rattle.round_steps.specs.Places.{parallel_places, part_places, past_at, places, round_places, serial_places, turn_of, turn_places}
use Rattle.past_harts.specs.Moments.{place_in}
use Rattle.round_steps.specs.Points.{break_point, first_in, hit_point, last_in, next_point_of, points_of, previous_point_of}
use Rattle.past_harts.specs.Points.{point_before}
use Rattle.gdb_runs.proofs.Within.{earliest_one, either, latest_one, weaker}

-- ---- how many harts there are

serial_length : {H C : Type 0} (w : Words H C) (budget i : ℕ) (rs : List (HartRound H)) (s : State H C) → length (serial_from w budget i rs s).harts ≡ length s.harts + length rs
serial_length w budget i [] s = omega arith
serial_length w budget i (r ∷ rs) s =
    let p = turned_by w budget s i r in
    omega (arith, serial_length w budget (suc i) rs (joined s p), length-append s.harts (p.hart ∷ []))

round_length : {H C : Type 0} (w : Words H C) (budget : ℕ) (quotas : ℕ → List ℕ) (s : State H C) → length (round_of w budget quotas s).harts ≡ length s.harts
unfolding round_of
round_length w budget quotas s =
    let rs = hart_rounds w s.bytes (quotas s.rounds) s.harts in
    omega (arith, serial_length w budget 0 rs (committed s rs), rounds_length w s.bytes (quotas s.rounds) s.harts)

run_length : {H C : Type 0} (w : Words H C) (budget : ℕ) (quotas : ℕ → List ℕ) (n : ℕ) (s : State H C) → length (run_of w budget quotas n s).harts ≡ length s.harts
unfolding run_of
run_length w budget quotas zero s = refl
run_length w budget quotas (suc n) s = run_length w budget quotas n (round_of w budget quotas s) ∙ round_length w budget quotas s

pub harts_after : (n : ℕ) (m : Running) → length (after_rounds n m).state.harts ≡ length m.state.harts
harts_after n m = run_length (words_of m.code) m.plan.budget (quotas_of m.plan) n m.state

-- ---- of which harts the moves of a round are

abbrev IsBelow : {H : Type 0} → ℕ → Move H → Type 0
IsBelow n m = m.hart < n

unless_stopped : {H : Type 0} (n : ℕ) (b : Bool) (ms : List (Move H)) → All (IsBelow n) ms → All (IsBelow n) (cond b [] ms)
unless_stopped n true ms below = All-nil (IsBelow n)
unless_stopped n false ms below = below

module _ {H C : Type 0} (w : Words H C) (n : ℕ) where
  moved_below : (i : ℕ) → i < n → (f : Sight H → List (Move H)) → ((s : Sight H) → All (IsBelow n) (f s)) → (a : Stepped) (s : Sight H) (o : StepOutcome H) →
      All (IsBelow n) (moved_by i a s o f)
  moved_below i low f below (Done a) s o = All-cons (IsBelow n) (went_by i s o a) (f (seen_after s o)) low (below (seen_after s o))
  moved_below i low f below Waits s o = All-nil (IsBelow n)
  moved_below i low f below (Stopped code) s o = All-cons (IsBelow n) (stopped_by code i s o) [] low (All-nil (IsBelow n))

  part_below : (i : ℕ) → i < n → (k : ℕ) (s : Sight H) → All (IsBelow n) (part_moves w i k s)
  unfolding part_moves
  part_below i low zero s = All-nil (IsBelow n)
  part_below i low (suc k) s =
      unless_stopped n (w.stopped s.hart) (moved_by i (next_seen w s).answer s (next_seen w s) (part_moves w i k))
      (moved_below i low (part_moves w i k) (part_below i low k) (next_seen w s).answer s (next_seen w s))

  parts_below : (bs qs : List ℕ) (i : ℕ) (hs : List H) → i + length hs ≤ n → All (IsBelow n) (parts_moves w bs qs i hs)
  parts_below bs qs i [] few = All-nil (IsBelow n)
  parts_below bs qs i (h ∷ hs) few =
      let s : Sight H = record { hart = h; bytes = bs } in
      All-append (IsBelow n) (part_moves w i (first_or_zero qs) s) (parts_moves w bs (rest_of qs) (suc i) hs)
      (part_below i (omega (arith, few)) (first_or_zero qs) s) (parts_below bs (rest_of qs) (suc i) hs (omega (arith, few)))

  taken_below : (round i : ℕ) → i < n → (f : Turn H C → List (Move H)) → ((p : Turn H C) → All (IsBelow n) (f p)) → (a : Stepped) (p : Turn H C) (o : SerialOutcome H C) →
      All (IsBelow n) (taken_by round i a p o f)
  taken_below round i low f below (Done a) p o = All-cons (IsBelow n) (took round i p o a) (f (turn_went round i p o a)) low (below (turn_went round i p o a))
  taken_below round i low f below Waits p o = All-nil (IsBelow n)
  taken_below round i low f below (Stopped code) p o = All-cons (IsBelow n) (stopped_at code i p o) [] low (All-nil (IsBelow n))

  turn_below : (round i : ℕ) → i < n → (k : ℕ) (p : Turn H C) → All (IsBelow n) (turn_moves w round i k p)
  unfolding turn_moves
  turn_below round i low zero p = All-nil (IsBelow n)
  turn_below round i low (suc k) p =
      unless_stopped n (w.stopped p.hart) (taken_by round i (serial_next w round i p).answer p (serial_next w round i p) (turn_moves w round i k))
      (taken_below round i low (turn_moves w round i k) (turn_below round i low k) (serial_next w round i p).answer p (serial_next w round i p))

  turns_below : (budget i : ℕ) (rs : List (HartRound H)) (s : State H C) → i + length rs ≤ n → All (IsBelow n) (turns_moves w budget i rs s)
  turns_below budget i [] s few = All-nil (IsBelow n)
  turns_below budget i (r ∷ rs) s few =
      let next = joined s (turned_by w budget s i r) in
      All-append (IsBelow n) (turn_moves w s.rounds i (cond r.waits budget 0) (turn_start s r)) (turns_moves w budget (suc i) rs next)
      (turn_below s.rounds i (omega (arith, few)) (cond r.waits budget 0) (turn_start s r)) (turns_below budget (suc i) rs next (omega (arith, few)))

moves_below : {H C : Type 0} (w : Words H C) (budget : ℕ) (quotas : ℕ → List ℕ) (s : State H C) → All (IsBelow (length s.harts)) (moves_of w budget quotas s)
unfolding moves_of
moves_below w budget quotas s =
    let n = length s.harts in
    let qs = quotas s.rounds in
    let rs = hart_rounds w s.bytes qs s.harts in
    All-append (IsBelow n) (parts_moves w s.bytes qs 0 s.harts) (turns_moves w budget 0 rs (committed s rs))
    (parts_below w n s.bytes qs 0 s.harts (omega arith))
    (turns_below w n budget 0 rs (committed s rs) (omega (arith, rounds_length w s.bytes qs s.harts)))

-- ---- of which harts the hits are

abbrev HitBelow : ℕ → Hit → Type 0
HitBelow n h = h.hart < n

at_below : (n : ℕ) (p : Phase) (i : ℕ) (a : Access) (rival : Bool) (x : Option ℕ) → i < n → All (HitBelow n) (hit_at p i a rival x)
at_below n p i a rival None low = All-nil (HitBelow n)
at_below n p i a rival (Some x) low = All-cons (HitBelow n) (record { phase = p; hart = i; place = place_of a; rival = rival; watch = x }) [] low (All-nil (HitBelow n))

module _ {H : Type 0} (way : Way) (ws : List Watchpoint) (n : ℕ) where
  access_below : (others : List (Move H)) (m : Move H) (a : Option Access) → m.hart < n → All (HitBelow n) (access_hits ws others m a)
  access_below others m None low = All-nil (HitBelow n)
  access_below others m (Some a) low =
      let rival = position (is_rival others m) ws in
      let told = position (is_told m) ws in
      All-append (HitBelow n) (hit_at m.phase m.hart a true rival) (hit_at m.phase m.hart a false told)
      (at_below n m.phase m.hart a true rival low) (at_below n m.phase m.hart a false told low)

  hits_below : (earlier ms : List (Move H)) → All (IsBelow n) ms → All (HitBelow n) (hits_after way ws earlier ms)
  hits_below earlier [] below = All-nil (HitBelow n)
  hits_below earlier (m ∷ ms) below =
      All-append (HitBelow n) (access_hits ws (beside way earlier ms) m m.access) (hits_after way ws (earlier ++ m ∷ []) ms)
      (access_below (beside way earlier ms) m m.access (All-head (IsBelow n) m ms below)) (hits_below (earlier ++ m ∷ []) ms (All-tail (IsBelow n) m ms below))

-- ---- of which harts the places are

abbrev PlaceBelow : ℕ → Place → Type 0
PlaceBelow n p = p.hart < n

places_below : (n : ℕ) (p : Phase) (i : ℕ) (cs : List ℕ) → i < n → All (PlaceBelow n) (places p i cs)
places_below n p i [] low = All-nil (PlaceBelow n)
places_below n p i (c ∷ cs) low = All-cons (PlaceBelow n) (place_in p i c) (places p i cs) low (places_below n p i cs low)

more_below : (n : ℕ) (ps : List Place) → All (PlaceBelow n) ps → All (PlaceBelow (suc n)) ps
more_below n ps below = All-weaker (PlaceBelow n) (PlaceBelow (suc n)) (λ p l. omega (arith, l)) ps below

part_places_below : (a : Asked) (b : Begun) (i : ℕ) (h : Option Hart) → All (PlaceBelow (suc i)) (part_places a b i h)
part_places_below a b i None = All-nil (PlaceBelow (suc i))
part_places_below a b i (Some h) = places_below (suc i) Parallel i _ (omega arith)

parallel_below : (a : Asked) (b : Begun) (n : ℕ) → All (PlaceBelow n) (parallel_places a b n)
unfolding parallel_places
parallel_below a b zero = All-nil (PlaceBelow 0)
parallel_below a b (suc i) =
    All-append (PlaceBelow (suc i)) (parallel_places a b i) (part_places a b i (slice_get b.harts i))
    (more_below i (parallel_places a b i) (parallel_below a b i)) (part_places_below a b i (slice_get b.harts i))

turn_places_below : (a : Asked) (i : ℕ) (past : List Hart) (turn : Option ℕ) → All (PlaceBelow (suc i)) (turn_places a i past turn)
turn_places_below a i past None = All-nil (PlaceBelow (suc i))
turn_places_below a i past (Some n) = places_below (suc i) Serial i _ (omega arith)

serial_below : (a : Asked) (m : Running) (n : ℕ) → All (PlaceBelow n) (serial_places a m n)
unfolding serial_places
serial_below a m zero = All-nil (PlaceBelow 0)
serial_below a m (suc i) =
    All-append (PlaceBelow (suc i)) (serial_places a m i) (turn_places a i (past_at m i) (turn_of m i))
    (more_below i (serial_places a m i) (serial_below a m i)) (turn_places_below a i (past_at m i) (turn_of m i))

-- ---- what is told is told of harts that there are

abbrev pub IsOfHart : ℕ → Told → Type 0
IsOfHart n x = x.point.moment.place.hart < n

map_below : {A : Type 0} (n : ℕ) (Q : A → Type 0) (f : A → Told) → ((a : A) → Q a → IsOfHart n (f a)) → (xs : List A) → All Q xs → All (IsOfHart n) (map f xs)
map_below n Q f each [] all = All-nil (IsOfHart n)
map_below n Q f each (x ∷ xs) all = All-cons (IsOfHart n) (f x) (map f xs) (each x (All-head Q x xs all)) (map_below n Q f each xs (All-tail Q x xs all))

points_below : (way : Way) (a : Asked) (ws : List Watchpoint) (m : Running) → All (IsOfHart (length m.state.harts)) (points_of way a ws m)
points_below way a ws m =
    let n = length m.state.harts in
    let k = m.state.rounds in
    let ms = moves_of (words_of m.code) m.plan.budget (quotas_of m.plan) m.state in
    let hits = hits_of way ws ms in
    All-append (IsOfHart n) (map (break_point k) (round_places a m)) (map (hit_point way k m.state.harts) hits)
    (map_below n (PlaceBelow n) (break_point k) (λ p l. l) (round_places a m)
    (All-append (PlaceBelow n) (parallel_places a (begun_of m) n) (serial_places a m n) (parallel_below a (begun_of m) n) (serial_below a m n)))
    (map_below n (HitBelow n) (hit_point way k m.state.harts) (λ h l. l) hits
    (hits_below way ws n [] ms (moves_below (words_of m.code) m.plan.budget (quotas_of m.plan) m.state)))

first_of_hart : (a : Asked) (ws : List Watchpoint) (m : Running) (here : Point) → IfSome (first_in a ws m here) (IsOfHart (length m.state.harts))
first_of_hart a ws m here =
    let P = IsOfHart (length m.state.harts) in
    let p : Told → Bool = λ x. point_before here x.point in
    earliest_one P None (filter p (points_of On a ws m)) tt (All-filter p P (points_of On a ws m) (points_below On a ws m))

last_of_hart : (a : Asked) (ws : List Watchpoint) (m : Running) (here : Point) → IfSome (last_in a ws m here) (IsOfHart (length m.state.harts))
last_of_hart a ws m here =
    let P = IsOfHart (length m.state.harts) in
    let p : Told → Bool = λ x. point_before x.point here in
    latest_one P None (filter p (points_of Back a ws m)) tt (All-filter p P (points_of Back a ws m) (points_below Back a ws m))

module _ (a : Asked) (ws : List Watchpoint) (m : Running) (here : Point) where
  abbrev There : Told → Type 0
  There x = IsOfHart (length m.state.harts) x

  same_harts : (n : ℕ) (x : Told) → IsOfHart (length (after_rounds n m).state.harts) x → There x
  same_harts n x low = omega (arith, low, harts_after n m)

  pub next_of_hart : (n : ℕ) → IfSome (next_point_of a ws m n here) There
  unfolding next_point_of
  next_of_hart zero = tt
  next_of_hart (suc n) =
      let late = after_rounds n m in
      either There (next_point_of a ws m n here) (first_in a ws late here) (next_of_hart n)
      (weaker (IsOfHart (length late.state.harts)) There (same_harts n) (first_in a ws late here) (first_of_hart a ws late here))

  pub previous_of_hart : (n : ℕ) → IfSome (previous_point_of a ws m n here) There
  unfolding previous_point_of
  previous_of_hart zero = tt
  previous_of_hart (suc n) =
      let late = after_rounds n m in
      either There (last_in a ws late here) (previous_point_of a ws m n here)
      (weaker (IsOfHart (length late.state.harts)) There (same_harts n) (last_in a ws late here) (last_of_hart a ws late here)) (previous_of_hart n)
