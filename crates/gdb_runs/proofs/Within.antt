-- In which rounds something is told.
use Rattle.std.proofs.Common.{◌≡◌, ℕ, zero, suc, ◌+◌, ◌<◌, ◌≤◌, Bool, true, false, cond, List, [], ◌∷◌, map, filter, All, Option, Some, None, refl, arith}
use Rattle.std.specs.Prelude.{IfSome}
use Rattle.std.proofs.lemmas.List.Elements.{All-append, All-cons, All-filter, All-head, All-tail}
use Rattle.round_schedule.specs.Schedule.{HartRound, State, Words, committed, hart_rounds, joined, round_of, run_of, serial_from, turn_of}
use Rattle.round_planner.specs.Quotas.{quotas_of}
use Rattle.hart_step.specs.Words.{words_of}
use Rattle.machine.specs.Machine.{Running, after_rounds}
use Rattle.moments.specs.Moves.{moves_of}
use Rattle.moments.specs.declared.asked.Asked.{Asked}
use Rattle.watching.specs.declared.watchpoint.Watchpoint.{Watchpoint}
use Rattle.watching.specs.declared.watchpoint.Way.{Way}
use Rattle.watching.specs.declared.watchpoint.Way.TheVariants.{On, Back}
use Rattle.watching.specs.Watches.{hits_of}
use Rattle.past_harts.specs.declared.point.Point.{Point}
use Rattle.round_steps.specs.declared.told.Told.{Told}
use Rattle.round_steps.specs.Places.{round_places}
use Rattle.round_steps.specs.Points.{break_point, earliest, first_in, hit_point, last_in, later, latest, next_point_of, or_else, points_of, previous_point_of, sooner}
use Rattle.past_harts.specs.Points.{point_before}

-- ---- how many rounds were done

serial_keeps : {H C : Type 0} (w : Words H C) (budget i : ℕ) (rs : List (HartRound H)) (s : State H C) → (serial_from w budget i rs s).rounds ≡ s.rounds
serial_keeps w budget i [] s = refl
serial_keeps w budget i (r ∷ rs) s = serial_keeps w budget (suc i) rs (joined s (turn_of w budget s i r))

round_counted : {H C : Type 0} (w : Words H C) (budget : ℕ) (quotas : ℕ → List ℕ) (s : State H C) → (round_of w budget quotas s).rounds ≡ s.rounds + 1
unfolding round_of
round_counted w budget quotas s =
    let rs = hart_rounds w s.bytes (quotas s.rounds) s.harts in
    serial_keeps w budget 0 rs (committed s rs)

so_many_more : {H C : Type 0} (w : Words H C) (budget : ℕ) (quotas : ℕ → List ℕ) (n : ℕ) (s : State H C) → (run_of w budget quotas n s).rounds ≡ s.rounds + n
unfolding run_of
so_many_more w budget quotas zero s = omega arith
so_many_more w budget quotas (suc n) s = omega (arith, so_many_more w budget quotas n (round_of w budget quotas s), round_counted w budget quotas s)

pub rounds_after : (n : ℕ) (m : Running) → (after_rounds n m).state.rounds ≡ m.state.rounds + n
rounds_after n m = so_many_more (words_of m.code) m.plan.budget (quotas_of m.plan) n m.state

-- ---- the earliest and the latest of some is one of them

module _ (P : Told → Type 0) where
  sooner_is : (x y : Told) (b : Bool) → P x → P y → IfSome (cond b (Some x) (Some y)) P
  sooner_is x y true p q = p
  sooner_is x y false p q = q

  sooner_one : (y : Option Told) (x : Told) → IfSome y P → P x → IfSome (sooner y x) P
  sooner_one None x none p = p
  sooner_one (Some y) x q p = sooner_is x y (point_before x.point y.point) p q

  later_one : (y : Option Told) (x : Told) → IfSome y P → P x → IfSome (later y x) P
  later_one None x none p = p
  later_one (Some y) x q p = sooner_is y x (point_before x.point y.point) q p

  pub earliest_one : (y : Option Told) (xs : List Told) → IfSome y P → All P xs → IfSome (earliest y xs) P
  earliest_one y [] q all = q
  earliest_one y (x ∷ xs) q all = earliest_one (sooner y x) xs (sooner_one y x q (All-head P x xs all)) (All-tail P x xs all)

  pub latest_one : (y : Option Told) (xs : List Told) → IfSome y P → All P xs → IfSome (latest y xs) P
  latest_one y [] q all = q
  latest_one y (x ∷ xs) q all = latest_one (later y x) xs (later_one y x q (All-head P x xs all)) (All-tail P x xs all)

-- ---- what is told in a round

abbrev InRound : ℕ → Told → Type 0
InRound n x = x.point.moment.rounds ≡ n

map_in : {A : Type 0} (n : ℕ) (f : A → Told) → ((a : A) → InRound n (f a)) → (xs : List A) → All (InRound n) (map f xs)
map_in n f each [] = λ k d l. absurd (omega (arith, l))
map_in n f each (x ∷ xs) = All-cons (InRound n) (f x) (map f xs) (each x) (map_in n f each xs)

points_in : (way : Way) (a : Asked) (ws : List Watchpoint) (m : Running) → All (InRound m.state.rounds) (points_of way a ws m)
points_in way a ws m =
    let n = m.state.rounds in
    let hits = hits_of way ws (moves_of (words_of m.code) m.plan.budget (quotas_of m.plan) m.state) in
    All-append (InRound n) (map (break_point n) (round_places a m)) (map (hit_point way n m.state.harts) hits)
    (map_in n (break_point n) (λ p. refl) (round_places a m))
    (map_in n (hit_point way n m.state.harts) (λ h. refl) hits)

first_is_in : (a : Asked) (ws : List Watchpoint) (m : Running) (here : Point) → IfSome (first_in a ws m here) (InRound m.state.rounds)
first_is_in a ws m here =
    let P = InRound m.state.rounds in
    let p : Told → Bool = λ x. point_before here x.point in
    earliest_one P None (filter p (points_of On a ws m)) tt (All-filter p P (points_of On a ws m) (points_in On a ws m))

last_is_in : (a : Asked) (ws : List Watchpoint) (m : Running) (here : Point) → IfSome (last_in a ws m here) (InRound m.state.rounds)
last_is_in a ws m here =
    let P = InRound m.state.rounds in
    let p : Told → Bool = λ x. point_before x.point here in
    latest_one P None (filter p (points_of Back a ws m)) tt (All-filter p P (points_of Back a ws m) (points_in Back a ws m))

-- ---- what is told in some rounds lies in them

abbrev pub IsIn : ℕ → ℕ → Told → Type 0
IsIn n k x = (n ≤ x.point.moment.rounds) × (x.point.moment.rounds < n + k)

pub either : (P : Told → Type 0) (x y : Option Told) → IfSome x P → IfSome y P → IfSome (or_else x y) P
either P None y p q = q
either P (Some x) y p q = p

pub weaker : (P Q : Told → Type 0) → ((x : Told) → P x → Q x) → (y : Option Told) → IfSome y P → IfSome y Q
weaker P Q f None p = tt
weaker P Q f (Some x) p = f x p

module _ (a : Asked) (ws : List Watchpoint) (m : Running) (here : Point) where
  more : (n : ℕ) (x : Told) → IsIn m.state.rounds n x → IsIn m.state.rounds (suc n) x
  more n x p = (p.0, omega (arith, p.1))

  here_in : (n : ℕ) (x : Told) → InRound (after_rounds n m).state.rounds x → IsIn m.state.rounds (suc n) x
  here_in n x p = (omega (arith, p, rounds_after n m), omega (arith, p, rounds_after n m))

  pub next_is_in : (n : ℕ) → IfSome (next_point_of a ws m n here) (IsIn m.state.rounds n)
  unfolding next_point_of
  next_is_in zero = tt
  next_is_in (suc n) =
      let k = m.state.rounds in
      let late = after_rounds n m in
      either (IsIn k (suc n)) (next_point_of a ws m n here) (first_in a ws late here)
      (weaker (IsIn k n) (IsIn k (suc n)) (more n) (next_point_of a ws m n here) (next_is_in n))
      (weaker (InRound late.state.rounds) (IsIn k (suc n)) (here_in n) (first_in a ws late here) (first_is_in a ws late here))

  pub previous_is_in : (n : ℕ) → IfSome (previous_point_of a ws m n here) (IsIn m.state.rounds n)
  unfolding previous_point_of
  previous_is_in zero = tt
  previous_is_in (suc n) =
      let k = m.state.rounds in
      let late = after_rounds n m in
      either (IsIn k (suc n)) (last_in a ws late here) (previous_point_of a ws m n here)
      (weaker (InRound late.state.rounds) (IsIn k (suc n)) (here_in n) (last_in a ws late here) (last_is_in a ws late here))
      (weaker (IsIn k n) (IsIn k (suc n)) (more n) (previous_point_of a ws m n here) (previous_is_in n))
