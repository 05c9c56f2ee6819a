-- Where a search has come to.
use Rattle.std.proofs.Common.{◌≡◌, ℕ, ◌-◌, ◌<◌, ◌≤◌, Bool, true, false, not, ◌&&◌, Option, Some, None, refl, sym, ap, subst, ◌∙◌, arith, eqb-true}
use Rattle.std.proofs.lemmas.Bool.Decides.{nat_tests}
use Rattle.std.specs.Prelude.{IfSome, nat_lt, ◌==◌, if◌then◌else◌}
use Rattle.machine.specs.Machine.{after_rounds}
use Rattle.watching.specs.declared.watchpoint.Way.{Way}
use Rattle.watching.specs.declared.watchpoint.Way.TheVariants.{On, Back}
use Rattle.past_harts.specs.declared.point.Point.{Point}
use Rattle.round_steps.specs.declared.told.Told.{Told}
use Rattle.round_steps.specs.declared.points.Telling.{Telling}
use Rattle.round_steps.specs.Points.{next_point_of, previous_point_of}
use Rattle.past_harts.specs.Points.{point_before}
use Rattle.round_steps.proofs.PointsFound.{last_at_first, none_at_first}
use Rattle.gdb_resumes.specs.declared.searching.Reach.{Reach}
use Rattle.gdb_resumes.specs.declared.searching.Searched.{Searched}
use Rattle.gdb_resumes.specs.declared.searching.Searched.TheVariants.{GoesOn, Stands}
use Rattle.gdb_runs.specs.declared.session.Standing.{Standing}
use Rattle.gdb_runs.specs.Sessions.{Recorded, State}
use Rattle.gdb_runs.specs.Wanted.{AsksFor, all_told, nearest_of}
use Rattle.gdb_resumes.specs.Searches.{IsPassed, begins_at, left_of}
use Rattle.gdb_runs.specs.Ways.{rounds_left}
use Rattle.gdb_resumes.specs.Resumes.{Continues, SearchesTo, comes_first, goal_or, goal_passed, goal_reached, is_ahead, is_passed}
use Rattle.gdb_runs.specs.Standings.{at_goal, end_of, told_at, told_or}
use Rattle.gdb_runs.proofs.Within.{IsIn, next_is_in, previous_is_in, rounds_after}

pub begins : (r : Recorded) (way : Way) (t : Telling) (here : Point) (n : ℕ) → n ≡ begins_at r.rounds way here.moment.rounds → nearest_of r way t here ≡ left_of r way n t here
begins r On t here n e = ap (λ (k : ℕ). left_of r On k t here) (sym e)
begins r Back t here n e = ap (λ (k : ℕ). left_of r Back k t here) (sym e)

none_left : (r : Recorded) (way : Way) (n : ℕ) (t : Telling) (here : Point) → rounds_left way r.rounds n ≡ 0 → left_of r way n t here ≡ None
none_left r On n t here e =
    ap (λ (k : ℕ). next_point_of t.asked t.watches.items (after_rounds n r.run) k here) e ∙ none_at_first t.asked t.watches.items (after_rounds n r.run) here
none_left r Back n t here e = ap (λ (k : ℕ). previous_point_of t.asked t.watches.items r.run k here) e ∙ sym (last_at_first t.asked t.watches.items r.run here)

-- ---- goals

-- what lies in a later round doesn't come before
not_before : (x y : Point) → y.moment.rounds < x.moment.rounds → point_before x y ≡ false
not_before x y low =
    let late : nat_lt x.moment.rounds y.moment.rounds ≡ false = grind (arith, nat_tests) in
    let other : (x.moment.rounds == y.moment.rounds) ≡ false = grind (arith, nat_tests) in
    rw (late, other)

-- a goal that was passed comes before all that is told in the rounds that are left
left_behind : (r : Recorded) (way : Way) (to : ℕ) (t : Telling) (here goal : Point) → r.run.state.rounds ≡ 0 → is_passed way to goal ≡ true →
    comes_first way goal (left_of r way to t here) ≡ true
left_behind r On to t here goal fresh passed =
    let a = t.asked in
    let ws = t.watches.items in
    let m = after_rounds to r.run in
    by_found (next_point_of a ws m (r.rounds - to) here) (next_is_in a ws m here (r.rounds - to))
  where
    by_found : (x : Option Told) → IfSome x (IsIn (after_rounds to r.run).state.rounds (r.rounds - to)) → comes_first On goal x ≡ true
    by_found None i = refl
    by_found (Some x) i =
        let low : goal.moment.rounds < to = grind (arith, nat_tests) in
        let late : goal.moment.rounds < x.point.moment.rounds = omega (arith, i.0, rounds_after to r.run) in
        ap not (not_before x.point goal late)
left_behind r Back to t here goal fresh passed =
    by_found (previous_point_of t.asked t.watches.items r.run to here) (previous_is_in t.asked t.watches.items r.run here to)
  where
    by_found : (x : Option Told) → IfSome x (IsIn r.run.state.rounds to) → comes_first Back goal x ≡ true
    by_found None i = refl
    by_found (Some x) i =
        let low : to ≤ goal.moment.rounds = grind (arith, nat_tests) in
        let late : x.point.moment.rounds < goal.moment.rounds = omega (arith, i.1) in
        ap not (not_before goal x.point late)

-- what is found in a stretch of rounds is what is found in all
same_found : (way : Way) (to : ℕ) (here : Point) (x : Told) (goal : Option Point) → goal_passed way to here (Some x) goal ≡ goal_reached way here (Some x) goal
same_found way to here x None = refl
same_found way to here x (Some goal) = refl

if_both : (b c : Bool) (x y : Point) → (if b && c then Some x else None) ≡ Some y → (b ≡ true) × (c ≡ true) × (x ≡ y)
if_both true true x y e = (refl, refl, cc)
if_both true false x y e = absurd cc
if_both false c x y e = absurd cc

reached_still : (way : Way) (to : ℕ) (here : Point) (y : Option Told) (goal : Option Point) (g : Point) → ((h : Point) → is_passed way to h ≡ true → comes_first way h y ≡ true) →
    goal_passed way to here None goal ≡ Some g → goal_reached way here y goal ≡ Some g
reached_still way to here y None g law e = absurd cc
reached_still way to here y (Some h) g law e =
    let both = if_both (is_ahead way here h) (is_passed way to h) h g e in
    ap (λ (b : Bool). if b && comes_first way h y then Some h else None) both.0
    ∙ ap (λ (b : Bool). if b then Some h else None) (law h both.1)
    ∙ ap (λ (x : Point). Some x) both.2

-- where no rounds are left each goal was passed
all_passed : (way : Way) (rounds to : ℕ) (goal : Point) → goal.moment.rounds < rounds → rounds_left way rounds to ≡ 0 → is_passed way to goal ≡ true
all_passed On rounds to goal within none = grind (arith, nat_tests)
all_passed Back rounds to goal within none = grind (arith, nat_tests)

none_reached : (way : Way) (rounds to : ℕ) (here : Point) (goal : Option Point) → IfSome goal (λ (g : Point). g.moment.rounds < rounds) → rounds_left way rounds to ≡ 0 →
    goal_passed way to here None goal ≡ None → goal_reached way here None goal ≡ None
none_reached way rounds to here None within none e = refl
none_reached way rounds to here (Some g) within none e =
    ap (λ (b : Bool). if is_ahead way here g && b then Some g else None) (sym (all_passed way rounds to g within none)) ∙ e

module _ (r : Recorded) (s : State) (way : Way) (t : Telling) (asks : AsksFor (all_told s None) t) (n to : ℕ)
    (come : nearest_of r way t s.standing.point ≡ left_of r way n t s.standing.point) where
  -- something was told
  pub told_there : (found : Option Told) (x : Told) (u : Standing) → found ≡ Some x → goal_passed way to s.standing.point found s.standing.goal ≡ None →
      IsPassed r way n to t s.standing.point found → u ≡ told_at r s x → Continues r s way u
  told_there found x u is none passed at =
      let G : Option Told → Type 0 = λ o. goal_passed way to s.standing.point o s.standing.goal ≡ None in
      let none_there = sym (same_found way to s.standing.point x s.standing.goal) ∙ subst G is none in
      record {
        found = Some x;
        finds = record { telling = t; asks = asks; is = subst (λ (o : Option Told). IsPassed r way n to t s.standing.point o) is passed ∙ sym come };
        is = at ∙ sym (ap (goal_or s.standing (told_at r s x)) none_there);
      }

  -- the goal came before it
  pub goes_there : (found : Option Told) (g : Point) (u : Standing) → r.run.state.rounds ≡ 0 → goal_passed way to s.standing.point found s.standing.goal ≡ Some g →
      IsPassed r way n to t s.standing.point found → u ≡ at_goal s.standing g → Continues r s way u
  goes_there None g u fresh is passed at =
      let rest = left_of r way to t s.standing.point in
      let reached = reached_still way to s.standing.point rest s.standing.goal g (λ h p. left_behind r way to t s.standing.point h fresh p) is in
      record {
        found = rest;
        finds = record { telling = t; asks = asks; is = passed ∙ sym come };
        is = at ∙ sym (ap (goal_or s.standing (told_or r s (end_of r.rounds s.standing way) rest)) reached);
      }
  goes_there (Some x) g u fresh is passed at =
      record {
        found = Some x;
        finds = record { telling = t; asks = asks; is = passed ∙ sym come };
        is = at ∙ sym (ap (goal_or s.standing (told_at r s x)) (sym (same_found way to s.standing.point x s.standing.goal) ∙ is));
      }

  -- nothing was told, and no rounds are left, or some are
  pub come_there : (found : Option Told) → found ≡ None → IsPassed r way n to t s.standing.point found →
      nearest_of r way t s.standing.point ≡ left_of r way to t s.standing.point
  come_there found is passed = come ∙ sym (subst (λ (o : Option Told). IsPassed r way n to t s.standing.point o) is passed)

  pub ends_there : (found : Option Told) → found ≡ None → IsPassed r way n to t s.standing.point found → rounds_left way r.rounds to ≡ 0 →
      goal_reached way s.standing.point None s.standing.goal ≡ None → Continues r s way (end_of r.rounds s.standing way)
  ends_there found is passed none no_goal = record {
    found = None;
    finds = record { telling = t; asks = asks; is = sym (come_there found is passed ∙ none_left r way to t s.standing.point none) };
    is = sym (ap (goal_or s.standing (end_of r.rounds s.standing way)) no_goal);
  }

  -- so it has ended, or goes on
  by_left : (reach : Reach) (found : Option Told) → found ≡ None → IsPassed r way n reach.rounds t s.standing.point found → reach.way ≡ way → to ≡ reach.rounds →
      IfSome s.standing.goal (λ (g : Point). g.moment.rounds < r.rounds) → goal_passed way to s.standing.point None s.standing.goal ≡ None →
      (b : Bool) → (b ≡ true → rounds_left reach.way r.rounds reach.rounds ≡ 0) → (x : Searched) →
      x ≡ (if b then Stands (end_of r.rounds s.standing reach.way) else GoesOn (record { reach = reach; telling = t })) → SearchesTo r s way x
  by_left reach found is passed same there within no_goal true none x e =
      let P : Way → Type 0 = λ w. Continues r s way (end_of r.rounds s.standing w) in
      let left : rounds_left way r.rounds to ≡ 0 =
      subst (λ (k : ℕ). rounds_left way r.rounds k ≡ 0) (sym there) (subst (λ (w : Way). rounds_left w r.rounds reach.rounds ≡ 0) same (none refl)) in
      let passed_to = subst (λ (k : ℕ). IsPassed r way n k t s.standing.point found) (sym there) passed in
      let no_goal_there = none_reached way r.rounds to s.standing.point s.standing.goal within left no_goal in
      subst (λ (y : Searched). SearchesTo r s way y) (sym e) (subst P (sym same) (ends_there found is passed_to left no_goal_there))
  by_left reach found is passed same there within no_goal false none x e =
      let passed_to = subst (λ (k : ℕ). IsPassed r way n k t s.standing.point found) (sym there) passed in
      let come_to = subst (λ (k : ℕ). nearest_of r way t s.standing.point ≡ left_of r way k t s.standing.point) there (come_there found is passed_to) in
      subst (λ (y : Searched). SearchesTo r s way y) (sym e)
      (same, subst (λ (w : Way). nearest_of r w t s.standing.point ≡ left_of r w reach.rounds t s.standing.point) (sym same) come_to)

  pub searched_there : (rounds : ℕ) → rounds ≡ r.rounds → (reach : Reach) (found : Option Told) → found ≡ None →
      IsPassed r way n reach.rounds t s.standing.point found → reach.way ≡ way → to ≡ reach.rounds →
      IfSome s.standing.goal (λ (g : Point). g.moment.rounds < r.rounds) → goal_passed way to s.standing.point None s.standing.goal ≡ None → (x : Searched) →
      x ≡ (if rounds_left reach.way rounds reach.rounds == 0 then Stands (end_of rounds s.standing reach.way) else GoesOn (record { reach = reach; telling = t })) →
      SearchesTo r s way x
  searched_there rounds all reach found is passed same there within no_goal x e =
      by_left reach found is passed same there within no_goal (rounds_left reach.way r.rounds reach.rounds == 0) (λ z. eqb-true (rounds_left reach.way r.rounds reach.rounds) 0 z) x
      (subst
      (λ (k : ℕ). x ≡ (if rounds_left reach.way k reach.rounds == 0 then Stands (end_of k s.standing reach.way) else GoesOn (record { reach = reach; telling = t })))
      all
      e)
