-- A machine with the trace of its run.
use Rattle.std.proofs.Common.{◌≡◌, ℕ, zero, suc, ◌+◌, List, [], length, refl, sym, ap, ◌∙◌, subst, arith}
use Rattle.std.specs.Prelude.{Result, Ok, Err, OnErr}
use Rattle.host_io.specs.declared.error.RunError.{RunError}
use Rattle.round_schedule.specs.declared.event.Event.{Event}
use Rattle.round_schedule.specs.Schedule.{run_of}
use Rattle.round_planner.specs.Quotas.{quotas_of}
use Rattle.hart_step.specs.Words.{words_of}
use Rattle.trace.specs.Traced.{Laid, Traced, opening_at, opening_bytes}
use Rattle.machine.specs.Machine.{Running, after_round, after_rounds, opening}
use Rattle.machine.specs.Untraced.{AreLast, HasRun, HoldsTogether, IsOfRun, IsUntraced, Untraced, traced}
use Rattle.machine.proofs.Repeated.{more_rounds}
use Rattle.machine.proofs.SizeStays.{size_stays}
use Rattle.machine.proofs.UntracedRounds.{is_running, with_events}

pub traced_untraced : (m : Running) (u : Untraced) (t : Traced) → IsUntraced m u → t.events ≡ m.state.trace → IsUntraced (traced u t) u
traced_untraced m u t i e =
    let j : IsUntraced (with_events u m.state.trace m.opening) u = subst (λ (x : Running). IsUntraced x u) (sym (is_running m u i)) i in
    let k : IsUntraced (with_events u t.events m.opening) u = subst (λ (es : List Event). IsUntraced (with_events u es m.opening) u) (sym e) j in
    record {
      harts = k.harts;
      bytes = k.bytes;
      console = k.console;
      rounds = k.rounds;
      code = k.code;
      plan = k.plan;
      events = k.events;
      reservations = k.reservations;
      sound = k.sound;
      placed = k.placed;
      stops = k.stops;
    }

pub traced_is : (m : Running) (u : Untraced) (t : Traced) → IsUntraced m u → t.events ≡ m.state.trace → opening_bytes t.opening (length u.bytes) ≡ m.opening → traced u t ≡ m
traced_is m u t i e o =
    ap (λ (es : List Event). with_events u es (opening_bytes t.opening (length u.bytes))) e ∙ ap (λ (bs : List ℕ). with_events u m.state.trace bs) o ∙ is_running m u i

sizes_stay : (k : ℕ) (m : Running) → length (after_rounds k m).state.bytes ≡ length m.state.bytes
unfolding run_of
sizes_stay zero m = refl
sizes_stay (suc k) m = sizes_stay k (after_round m) ∙ size_stays (words_of m.code) m.plan.budget (quotas_of m.plan) m.state

-- a machine of a run is one after more rounds
of_run_after : (k : ℕ) (m n : Running) → n ≡ after_rounds k m → IsOfRun m → IsOfRun n
of_run_after k m n e r = record {
  image = r.image;
  input = r.input;
  plan = r.plan;
  rounds = r.rounds + k;
  bytes = r.bytes;
  is = e ∙ (ap (after_rounds k) r.is ∙ more_rounds r.rounds k (opening r.image r.input r.plan));
}

-- its events are the last ones of its run
pub all_last : (u : Untraced) (t : Traced) → HoldsTogether u t → AreLast u t.events
all_last u t h = (traced u t, h.run, ([], refl))

-- the machine and its trace after k rounds
pub record RunDone (k : ℕ) (u v : Untraced) (t s : Traced) : Type 0 where
  pub holds : HoldsTogether v s
  pub is : traced v s ≡ after_rounds k (traced u t)

pub traced_run : (k : ℕ) (u v : Untraced) (t s : Traced) → HoldsTogether u t → HasRun k u v (λ (es : List Event). t.events ≡ es) (λ (es : List Event). s.events ≡ es) → s.opening ≡ t.opening → RunDone k u v t s
traced_run k u v t s h x o =
    let m = traced u t in
    let n = after_rounds k m in
    let i : IsUntraced n v = x.run m h.run in
    let all = x.events m t.events h.run refl in
    let events : s.events ≡ n.state.trace = all.2 ∙ sym all.1 in
    let size : length v.bytes ≡ length u.bytes = ap length i.bytes ∙ sizes_stay k m in
    let opened : opening_bytes s.opening (length v.bytes) ≡ opening_bytes t.opening (length u.bytes) = ap (λ (ps : List Laid). opening_bytes ps (length v.bytes)) o ∙ ap (opening_bytes t.opening) size in
    record {
      holds = record { run = traced_untraced n v s i events; of_run = of_run_after k m (traced v s) (traced_is n v s i events opened) h.of_run; beyond = λ a l. ap (λ (ps : List Laid). opening_at ps a) o ∙ h.beyond a (omega (arith, l, size)) };
      is = traced_is n v s i events opened;
    }

-- a round that was refused
pub not_run : (u v : Untraced) (t s : Traced) → HoldsTogether u t → v ≡ u → s.events ≡ t.events → s.opening ≡ t.opening → HoldsTogether v s × (traced v s ≡ traced u t)
not_run u v t s h e more o = subst (λ (w : Untraced). HoldsTogether w s × (traced w s ≡ traced u t)) (sym e) (
  record { run = traced_untraced (traced u t) u s h.run more; of_run = subst IsOfRun (sym is) h.of_run; beyond = λ a l. ap (λ (ps : List Laid). opening_at ps a) o ∙ h.beyond a l },
  is,
)
  where
    is : traced u s ≡ traced u t
    is = traced_is (traced u t) u s h.run more (ap (λ (ps : List Laid). opening_bytes ps (length u.bytes)) o)

-- what holds holds after an error
pub on_err : {X : Type 0} (r : Result X RunError) (P : Type 0) → P → OnErr r P
on_err (Ok x) P p = tt
on_err (Err e) P p = p
