-- Rounds of a machine that keeps no trace.
use Rattle.std.proofs.Common.{◌≡◌, ℕ, zero, suc, ◌+◌, ◌-◌, ◌*◌, ◌^◌, ◌<◌, ◌≤◌, List, [], ◌++◌, length, All, refl, sym, ap, ◌∙◌, subst, arith, append_assoc, append-nil, length-append}
use Rattle.std.proofs.lemmas.List.{get_or-append-add}
use Rattle.pages.specs.declared.access.Range.{Range}
use Rattle.pages.specs.Memory.{IsBytes}
use Rattle.round_schedule.specs.declared.event.Event.{Event}
use Rattle.round_schedule.specs.Accesses.{place_of}
use Rattle.round_schedule.specs.ByReservations.{RoundByReservations, Reserving}
use Rattle.round_schedule.specs.Places.{Placed}
use Rattle.round_schedule.specs.Positions.{no_event}
use Rattle.round_schedule.specs.Schedule.{State, round_of}
use Rattle.round_schedule.specs.Reservations.{Tied}
use Rattle.round_schedule.proofs.Machines.{rounds_by_reservations}
use Rattle.round_schedule.proofs.Preserved.{rounds_preserve}
use Rattle.round_schedule.proofs.Rising.{places_low}
use Rattle.round_planner.specs.Quotas.{IsQuota, Planned, quotas_of}
use Rattle.hart_step.specs.declared.hart.Hart.{Hart}
use Rattle.hart_step.specs.Console.{ConsoleState}
use Rattle.hart_step.specs.Words.{words_of}
use Rattle.hart_step.proofs.Formation.{has_forms}
use Rattle.hart_step.specs.Stops.{has_stop}
use Rattle.hart_step.proofs.Stopping.{stops_fit}
use Rattle.hart_step.proofs.Soundness.{counts_done, sound}
use Rattle.trace.specs.Traced.{HasForm, IsTrace}
use Rattle.trace.proofs.RunForms.{round_leaves_trace}
use Rattle.guest_rounds.specs.Guests.{Guest, guest_events, next_guest}
use Rattle.guest_rounds.specs.Held.{most_of_round}
use Rattle.machine.specs.Machine.{Running, after_round, after_rounds, count_stopped}
use Rattle.machine.specs.Untraced.{HasRun, IsUntraced, MayGoOn, Untraced, next_events, next_of, reserving_of, untraced_of, untraced_round}
use Rattle.machine.proofs.Repeated.{more_rounds, next_round, no_rounds, passed}
use Rattle.guest_rounds.proofs.RoundDone.{only_added, rounds_next, traced_fields, whole}
use Rattle.machine.proofs.SizeStays.{size_stays}
use Rattle.guest_rounds.proofs.TraceHolds.{low_quotas, placed_more}

-- the machine of a run with these events
abbrev pub with_events : Untraced → List Event → List ℕ → Running
with_events u es bs = record { state = whole u.harts u.bytes u.console es u.rounds; code = u.code; plan = u.plan; opening = bs }

abbrev running : List Hart → List ℕ → ConsoleState → List Event → ℕ → List Range → Planned → List ℕ → Running
running hs bs c es n rs plan opening = record { state = whole hs bs c es n; code = rs; plan = plan; opening = opening }

pub is_running : (m : Running) (u : Untraced) → IsUntraced m u → with_events u m.state.trace m.opening ≡ m
is_running m u i =
    ap (λ (x : List Hart). running x u.bytes u.console m.state.trace u.rounds u.code u.plan m.opening) i.harts
    ∙ ap (λ (x : List ℕ). running m.state.harts x u.console m.state.trace u.rounds u.code u.plan m.opening) i.bytes
    ∙ ap (λ (x : ConsoleState). running m.state.harts m.state.bytes x m.state.trace u.rounds u.code u.plan m.opening) i.console
    ∙ ap (λ (x : ℕ). running m.state.harts m.state.bytes m.state.console m.state.trace x u.code u.plan m.opening) i.rounds
    ∙ ap (λ (x : List Range). running m.state.harts m.state.bytes m.state.console m.state.trace m.state.rounds x u.plan m.opening) i.code
    ∙ ap (λ (x : Planned). running m.state.harts m.state.bytes m.state.console m.state.trace m.state.rounds m.code x m.opening) i.plan

-- the machine whose guest has done a round
pub same_untraced : (g new : Guest) (plan : Planned) (events more rounds : ℕ) → new ≡ next_guest plan rounds g → more ≡ length (guest_events plan rounds g) →
    untraced_of new plan (events + more) (rounds + 1) ≡ untraced_round (untraced_of g plan events rounds)
same_untraced g new plan events more rounds e f =
    ap (λ (x : Guest). untraced_of x plan (events + more) (rounds + 1)) e
    ∙ ap (λ (k : ℕ). untraced_of (next_guest plan rounds g) plan (events + k) (rounds + 1)) f

-- what a machine keeps, so that a round may follow
pub record CanGoOn (u : Untraced) : Type 0 where
  pub bytes : IsBytes u.bytes
  pub few : length u.bytes ≤ 2 ^ 26
  pub size : length u.reservations ≡ length u.harts
  pub quotas : (m : ℕ) → All IsQuota (quotas_of u.plan m)
  pub budget : u.plan.budget ≤ 1000

-- a round of it is a round of the run
pub record IsNext (m : Running) (u : Untraced) : Type 0 where
  pub run : IsUntraced (after_round m) (untraced_round u)
  pub events : (after_round m).state.trace ≡ m.state.trace ++ next_events u
  pub can : CanGoOn (untraced_round u)

next_here : (u : Untraced) (es : List Event) (bs : List ℕ) → IsUntraced (with_events u es bs) u → CanGoOn u → u.rounds + 1 < 2 ^ 32 → IsNext (with_events u es bs) u
next_here u es bs i can few =
    let W = words_of u.code in
    let q = quotas_of u.plan in
    let m = traced_fields u.rounds u.harts u.bytes u.reservations u.console es in
    let r = next_of u in
    let is = only_added W u.plan.budget q u.rounds u.harts u.bytes u.reservations u.console es in
    let one : RoundByReservations W u.plan.budget q m = rounds_by_reservations Hart ConsoleState W u.plan.budget q m (sound u.code) can.bytes i.reservations can.size in
    let s = round_of W u.plan.budget q m.state in
    let state : whole r.state.harts r.state.bytes r.state.console (es ++ r.state.trace) r.state.rounds ≡ s = ap (λ (y : Reserving Hart ConsoleState). y.state) (sym is) ∙ one.same in
    let tied : Tied r.reservations (es ++ r.state.trace) = subst (λ (y : Reserving Hart ConsoleState). Tied y.reservations y.state.trace) is one.tied in
    let low = low_quotas u.plan can.quotas in
    let sizes : length r.reservations ≡ length u.reservations = ap (λ (y : Reserving Hart ConsoleState). length y.reservations) (sym is) ∙ one.size in
    let harts : length r.state.harts ≡ length u.harts = ap (λ (y : Reserving Hart ConsoleState). length y.state.harts) (sym is) ∙ one.harts in
    record {
      run = record {
        harts = ap (λ (y : State Hart ConsoleState). y.harts) state;
        bytes = ap (λ (y : State Hart ConsoleState). y.bytes) state;
        console = ap (λ (y : State Hart ConsoleState). y.console) state;
        rounds = rounds_next W u.plan.budget q (reserving_of u) ∙ ap (λ (y : State Hart ConsoleState). y.rounds) state;
        code = refl;
        plan = refl;
        events = omega (arith, i.events, length-append es r.state.trace, ap (λ (y : State Hart ConsoleState). length y.trace) state);
        reservations = subst (λ (y : State Hart ConsoleState). Tied r.reservations y.trace) state tied;
        sound = round_leaves_trace W (λ (h : Hart). h.done) (has_forms u.code) (counts_done u.code) (most_of_round * u.rounds) 1000000 u.plan.budget q m.state low
            (omega (arith, can.budget, few)) can.bytes (omega (arith, can.few)) i.sound i.placed;
        placed = subst (λ (k : ℕ). Placed (λ (h : Hart). h.done) (most_of_round * k) s.harts s.trace) (rounds_next W u.plan.budget q (reserving_of u) ∙ ap (λ (y : State Hart ConsoleState). y.rounds) state)
            (placed_more (most_of_round * u.rounds + 1000000 + u.plan.budget) (most_of_round * (u.rounds + 1)) s.harts s.trace (omega (arith, can.budget))
            (places_low W (λ (h : Hart). h.done) (counts_done u.code) (most_of_round * u.rounds) 1000000 u.plan.budget q m.state low (omega (arith, can.budget, few)) i.placed));
        stops = rounds_preserve Hart ConsoleState W (λ (h : Hart). has_stop h.stop) (stops_fit u.code) u.plan.budget q m.state i.stops;
      };
      events = sym (ap (λ (y : State Hart ConsoleState). y.trace) state);
      can = record {
        bytes = subst (λ (y : Reserving Hart ConsoleState). IsBytes y.state.bytes) is one.bytes;
        few = omega (arith, can.few, ap (λ (y : State Hart ConsoleState). length y.bytes) state, size_stays W u.plan.budget q m.state);
        size = sizes ∙ can.size ∙ sym harts;
        quotas = can.quotas;
        budget = can.budget;
      };
    }

pub is_next : (m : Running) (u : Untraced) → IsUntraced m u → CanGoOn u → u.rounds + 1 < 2 ^ 32 → IsNext m u
is_next m u i can few =
    let e = is_running m u i in
    subst (λ (x : Running). IsNext x u) e (next_here u m.state.trace m.opening (subst (λ (x : Running). IsUntraced x u) (sym e) i) can few)

-- no event is a trace
pub no_trace : IsTrace []
no_trace = record { formed = λ k d l. absurd (omega (arith, l)); rising = λ i j l m. absurd (omega (arith, m)) }

-- the end of a trace is one
ending : (t u : List Event) → IsTrace (t ++ u) → IsTrace u
ending t u h = record {
  formed = λ k d l. subst HasForm (get_or-append-add t u k d) (h.formed (length t + k) d (omega (arith, l, length-append t u)));
  rising = λ i j l m e.
      let ei = get_or-append-add t u i no_event in
      let ej = get_or-append-add t u j no_event in
      let r = h.rising (length t + i) (length t + j) (omega (arith, l)) (omega (arith, m, length-append t u)) (ap (λ (f : Event). f.hart) ei ∙ e ∙ sym (ap (λ (f : Event). f.hart) ej)) in
      omega (arith, r, ap (λ (f : Event). place_of f.access) ei, ap (λ (f : Event). place_of f.access) ej);
}

-- the last events of a run go on with those of its next rounds
pub traces_go_on : (n : ℕ) (m : Running) (u : Untraced) (fs es : List Event) → IsUntraced m u → CanGoOn u → u.rounds + n < 2 ^ 32 → m.state.trace ≡ fs ++ es → MayGoOn IsTrace n es u
traces_go_on zero m u fs es i can few e = tt
traces_go_on (suc n) m u fs es i can few e =
    let one = is_next m u i can (omega (arith, few)) in
    let split : (after_round m).state.trace ≡ fs ++ (es ++ next_events u) = one.events ∙ ap (λ (x : List Event). x ++ next_events u) e ∙ append_assoc fs es (next_events u) in
    (ending fs (es ++ next_events u) (subst IsTrace split one.run.sound), traces_go_on n (after_round m) (untraced_round u) fs (es ++ next_events u) one.run one.can (omega (arith, few)) split)

-- who keeps no event may always go on
pub nothing_to_keep : (n : ℕ) (es : List Event) (u : Untraced) → MayGoOn (λ _. Unit {0}) n es u
nothing_to_keep zero es u = tt
nothing_to_keep (suc n) es u = (tt, nothing_to_keep n (es ++ next_events u) (untraced_round u))

-- ---- rounds after rounds

pub none_run : (u : Untraced) (keeps : List Event → Type 0) → HasRun 0 u u keeps keeps
none_run u keeps = record {
  rounds = omega arith;
  run = λ m i. subst (λ (x : Running). IsUntraced x u) (no_rounds m) i;
  events = λ m es i k. ([], ap (λ (x : Running). x.state.trace) (sym (no_rounds m)) ∙ sym (append-nil m.state.trace), subst keeps (sym (append-nil es)) k);
}

pub then_run : (j k : ℕ) (u v w : Untraced) (a b c : List Event → Type 0) → HasRun j u v a b → HasRun k v w b c → HasRun (j + k) u w a c
then_run j k u v w a b c x y = record {
  rounds = omega (arith, x.rounds, y.rounds);
  run = λ m i. subst (λ (n : Running). IsUntraced n w) (more_rounds j k m) (y.run (after_rounds j m) (x.run m i));
  events = λ m es i kept.
      let first = x.events m es i kept in
      let then' = y.events (after_rounds j m) (es ++ first.0) (x.run m i) first.2 in (
        first.0 ++ then'.0,
        ap (λ (n : Running). n.state.trace) (sym (more_rounds j k m)) ∙ then'.1 ∙ ap (λ (t : List Event). t ++ then'.0) first.1 ∙ append_assoc m.state.trace first.0 then'.0,
        subst c (append_assoc es first.0 then'.0) then'.2,
      );
}

-- a keeper that has kept the same
pub still_keeps : (k : ℕ) (u v : Untraced) (a b c : List Event → Type 0) → HasRun k u v a b → ((es : List Event) → b es → c es) → HasRun k u v a c
still_keeps k u v a b c x f = record {
  rounds = x.rounds;
  run = x.run;
  events = λ m es i kept. let all = x.events m es i kept in (all.0, all.1, f (es ++ all.0) all.2);
}

-- one round is a round
pub one_round : (m : Running) → after_round m ≡ after_rounds 1 m
one_round m = ap after_round (no_rounds m) ∙ next_round 0 m

pub once_run : (u v : Untraced) (a b : List Event → Type 0) → CanGoOn u → u.rounds + 1 < 2 ^ 32 → v ≡ untraced_round u → ((es : List Event) → a es → b (es ++ next_events u)) → HasRun 1 u v a b
once_run u v a b can few e f = subst (λ (x : Untraced). HasRun 1 u x a b) (sym e) (record {
  rounds = refl;
  run = λ m i. subst (λ (n : Running). IsUntraced n (untraced_round u)) (one_round m) (is_next m u i can few).run;
  events = λ m es i k. (next_events u, ap (λ (n : Running). n.state.trace) (sym (one_round m)) ∙ (is_next m u i can few).events, f es k);
})

-- rounds that leave all but their number as it was
pub passed_by : (k : ℕ) (u v : Untraced) (keeps : List Event → Type 0) → v.rounds ≡ u.rounds + k →
    ((m : Running) → IsUntraced m u → IsUntraced (after_rounds k m) v × ((after_rounds k m).state.trace ≡ m.state.trace)) → HasRun k u v keeps keeps
passed_by k u v keeps more f = record {
  rounds = more;
  run = λ m i. (f m i).0;
  events = λ m es i kept. ([], (f m i).1 ∙ sym (append-nil m.state.trace), subst keeps (sym (append-nil es)) kept);
}

-- ---- once all harts have stopped

pub rounds_pass : (k : ℕ) (u : Untraced) (m : Running) → count_stopped u.harts ≡ length u.harts → IsUntraced m u →
    IsUntraced (after_rounds k m) (record u { rounds = u.rounds + k }) × ((after_rounds k m).state.trace ≡ m.state.trace)
rounds_pass k u m stopped i =
    let still : count_stopped m.state.harts ≡ length m.state.harts = subst (λ (hs : List Hart). count_stopped hs ≡ length hs) i.harts stopped in
    let is = passed k m still in (
      subst (λ (n : Running). IsUntraced n (record u { rounds = u.rounds + k })) is (record {
        harts = i.harts;
        bytes = i.bytes;
        console = i.console;
        rounds = ap (λ (n : ℕ). n + k) i.rounds;
        code = i.code;
        plan = i.plan;
        events = i.events;
        reservations = i.reservations;
        sound = i.sound;
        placed = placed_more (most_of_round * m.state.rounds) (most_of_round * (m.state.rounds + k)) m.state.harts m.state.trace (omega arith) i.placed;
        stops = i.stops;
      }),
      ap (λ (n : Running). n.state.trace) (sym is),
    )

-- ---- what the rounds ask

-- with one round fewer to come
pub may_next : (may_keep : List Event → Type 0) (k n : ℕ) (es : List Event) (u : Untraced) → k < n → MayGoOn may_keep (n - k) es u →
    may_keep (es ++ next_events u) × MayGoOn may_keep (n - (k + 1)) (es ++ next_events u) (untraced_round u)
may_next may_keep k n es u low may = let one : n - k ≡ suc (n - (k + 1)) = omega (arith, low) in subst (λ (j : ℕ). MayGoOn may_keep j es u) one may
