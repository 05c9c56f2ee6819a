use Rattle.std.proofs.Common.{◌≡◌, ◌<◌, ℕ, Bool, true, false, ◌&&◌, Option, Some, None, refl, sym, ap, subst, ◌∙◌, arith}
use Rattle.std.specs.Prelude.{IfSome, if◌then◌else◌}
use Rattle.machine.specs.Untraced.{IsUntraced, Untraced}
use Rattle.past_harts.specs.declared.point.Point.{Point}
use Rattle.round_steps.specs.declared.told.Told.{Told}
use Rattle.gdb_runs.specs.declared.debugged.Debugged.{Debugged}
use Rattle.watching.specs.declared.watchpoint.Way.{Way}
use Rattle.gdb_runs.specs.declared.session.Standing.{Standing}
use Rattle.gdb_runs.specs.Sessions.{IsReady, IsWithin, Recorded, recorded_of, state_of}
use Rattle.gdb_runs.specs.Standings.{at_goal, told_at}
use Rattle.gdb_resumes.specs.Resumes.{goal_passed, is_ahead, passed_first}
use Rattle.gdb_resumes.proofs.Come.{goes_there, searched_there, told_there}
use Rattle.gdb_runs.proofs.Recording.{begun}
use Rattle.gdb_resumes.proofs.Passed.{passed_within}
use Rattle.gdb_runs.proofs.Runs.{of_same}
use Rattle.gdb_resumes.proofs.searching.Search.go_on.Goals as goal

goal_within : (rounds harts : ℕ) (goal : Option Point) → IfSome goal (λ (g : Point). (g.moment.rounds < rounds) × (g.moment.place.hart < harts)) →
    IfSome goal (λ (g : Point). g.moment.rounds < rounds)
goal_within rounds harts None p = tt
goal_within rounds harts (Some g) p = p.0

pub returns-in-Some-clause-searches : goal.returns-in-Some-clause-searches
returns-in-Some-clause-searches g c = λ m is.
    let d = c.args.run.now in
    let s = state_of c.args.session.now in
    let x = c.args.self in
    let fresh : m.state.rounds ≡ 0 = sym is.rounds ∙ ap (λ (u : Untraced). u.rounds) (sym c.requires.ready.start) ∙ c.requires.ready.fresh in
    goes_there (recorded_of m d) s x.reach.way x.telling c.requires.search.asks x.reach.rounds c.in_ok-found.reach.rounds (c.requires.search.come m is)
    c.in_ok-found.found c.in-Some.goal c.at_goal.result fresh
    (ap (λ w. goal_passed w c.in_ok-found.reach.rounds s.standing.point c.in_ok-found.found s.standing.goal) (sym c.in_ok-found.ensures.way) ∙ sym c.goal_passed.ensures ∙ c.in-Some.is)
    (c.in_ok-found.ensures.passed m is) c.at_goal.ensures

by_test : (P : Point → Type 0) (b : Bool) (h g : Point) → (if b then Some h else None) ≡ Some g → P h → P g
by_test P true h g e p = let is : h ≡ g = cc in subst P is p
by_test P false h g e p = absurd cc

passed_one : (P : Point → Type 0) (way : Way) (to : ℕ) (here : Point) (found : Option Told) (goal : Option Point) (g : Point) →
    goal_passed way to here found goal ≡ Some g → IfSome goal P → P g
passed_one P way to here found None g e p = absurd cc
passed_one P way to here found (Some h) g e p = by_test P (is_ahead way here h && passed_first way to h found) h g e p

stands_ready : (d : Debugged) (t : Standing) (g : Point) → IsReady d t → (g.moment.rounds < d.timeline.rounds) × (g.moment.place.hart < d.harts) → IsReady d (at_goal t g)
stands_ready d t g ready there = record {
  harts = ready.harts;
  all = ready.all;
  workers = ready.workers;
  start = ready.start;
  fresh = ready.fresh;
  run = ready.run;
  rounds = ready.rounds;
  within = omega (arith, there.0);
  told = there.1;
  general = there.1;
  moving = ready.moving;
  goal = tt;
}

pub returns-in-Some-clause-searched : goal.returns-in-Some-clause-searched
returns-in-Some-clause-searched g c =
    let d = c.args.run.now in
    let t = c.args.session.now.standing in
    let P : Point → Type 0 = λ at. (at.moment.rounds < d.timeline.rounds) × (at.moment.place.hart < d.harts) in
    let there = passed_one P c.in_ok-found.reach.way c.in_ok-found.reach.rounds t.point c.in_ok-found.found t.goal c.in-Some.goal
    (sym c.goal_passed.ensures ∙ c.in-Some.is) c.requires.ready.goal in
    subst (λ (u : Standing). IsReady d u) (sym c.at_goal.ensures) (stands_ready d t c.in-Some.goal c.requires.ready there)

pub tell-requires-clause-within : goal.tell-requires-clause-within
tell-requires-clause-within g c = λ κs lifetimes.
    let d = c.args.run.now in
    let x = c.args.self in
    let ready = c.requires.ready in
    let m = ready.run.0 in
    let is = subst (λ (u : Untraced). IsUntraced m u) ready.start ready.run.1 in
    subst (λ (y : Debugged). IsWithin y c.in-Some-found.told.point) (sym c.in_ok-found.ensures.stays)
    (passed_within d m (begun d m is ready.start ready.fresh ready.all) x.telling c.args.session.now.standing.point c.in-Some-found.told x.reach.way x.reach.rounds
    c.in_ok-found.reach.rounds c.requires.search.within c.in_ok-found.found c.in-Some-found.is (c.in_ok-found.ensures.passed m is))

pub returns-in_ok-standing-in-Some-found-clause-searches : goal.returns-in_ok-standing-in-Some-found-clause-searches
returns-in_ok-standing-in-Some-found-clause-searches g c = λ m is.
    let d = c.args.run.now in
    let s = state_of c.args.session.now in
    let x = c.args.self in
    let to = c.in_ok-found.reach.rounds in
    let told = c.in-Some-found.told in
    let u = c.in_ok-standing-in-Some-found.standing in
    let P : Recorded → Type 0 = λ r. u ≡ told_at r s told in
    let none = ap (λ (w : Way). goal_passed w to s.standing.point c.in_ok-found.found s.standing.goal) (sym c.in_ok-found.ensures.way) ∙ sym c.goal_passed.ensures ∙ c.in_default.is in
    told_there (recorded_of m d) s x.reach.way x.telling c.requires.search.asks x.reach.rounds to (c.requires.search.come m is)
    c.in_ok-found.found told u c.in-Some-found.is none (c.in_ok-found.ensures.passed m is)
    (of_same d c.look_through.new.run P c.in_ok-found.ensures.stays (λ n there. c.in_ok-standing-in-Some-found.ensures.standing n there) m is)

pub returns-in-None-clause-searches : goal.returns-in-None-clause-searches
returns-in-None-clause-searches g c = λ m is.
    let d = c.args.run.now in
    let s = state_of c.args.session.now in
    let x = c.args.self in
    let to = c.in_ok-found.reach.rounds in
    let G : Option Told → Type 0 = λ o. goal_passed x.reach.way to s.standing.point o s.standing.goal ≡ None in
    let none = ap (λ (w : Way). goal_passed w to s.standing.point c.in_ok-found.found s.standing.goal) (sym c.in_ok-found.ensures.way) ∙ sym c.goal_passed.ensures ∙ c.in_default.is in
    searched_there (recorded_of m d) s x.reach.way x.telling c.requires.search.asks x.reach.rounds to (c.requires.search.come m is)
    c.look_through.new.run.timeline.rounds (ap (λ (y : Debugged). y.timeline.rounds) c.in_ok-found.ensures.stays) c.in_ok-found.reach
    c.in_ok-found.found c.in-None.is (c.in_ok-found.ensures.passed m is) c.in_ok-found.ensures.way refl
    (goal_within d.timeline.rounds d.harts s.standing.goal c.requires.ready.goal) (subst G c.in-None.is none) c.goes_to.result c.goes_to.ensures
