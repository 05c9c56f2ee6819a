-- Rounds add events of their own numbers to the trace, after those that it has.
use Rattle.std.proofs.Common.{◌≡◌, ℕ, zero, suc, ◌+◌, ◌-◌, ◌<◌, ◌≤◌, ◌&&◌, inl, inr, Bool, true, false, List, [], ◌∷◌, ◌++◌, refl, sym, ap, subst, ◌∙◌, append_assoc, append-nil, arith}
use Rattle.std.specs.Prelude.{filter, if◌then◌else◌, nat_le, option_to_list}
use Rattle.std.proofs.lemmas.Bool.{cases_lt}
use Rattle.std.proofs.lemmas.Bool.Decides.{nat_tests}
use Rattle.std.proofs.lemmas.List.Elements.{filter-append}
use Rattle.round_schedule.specs.declared.access.Access.{Access}
use Rattle.round_schedule.specs.declared.access.Stepped.{Stepped}
use Rattle.round_schedule.specs.declared.access.Stepped.TheVariants.{Done, Waits, Stopped}
use Rattle.round_schedule.specs.declared.event.Event.{Event}
use Rattle.round_schedule.specs.declared.event.Phase.{Phase}
use Rattle.round_schedule.specs.declared.event.Phase.TheVariants.{Parallel, Serial}
use Rattle.round_schedule.specs.Events.{events_of}
use Rattle.round_schedule.specs.Schedule.{HartRound, State, Turn, Words, committed, events_from, hart_rounds, joined, round_of, run_of, serial_from, serial_next, turn_from, turn_of, turned}
use Rattle.round_planner.specs.Quotas.{quotas_of}
use Rattle.hart_step.specs.Words.{words_of}
use Rattle.machine.specs.Machine.{Running, after_rounds}
use Rattle.machine.proofs.Repeated.{more_rounds}
use Rattle.run_events.specs.Hits.{is_within}
use Rattle.replayer.proofs.Counted.{round_counted, rounds_after}

-- they are all of later rounds than this one
abbrev AreLater : ℕ → List Event → Type 0
AreLater n [] = Unit {0}
AreLater n (e ∷ es) = (n < e.round) × AreLater n es

later_both : (n : ℕ) (xs ys : List Event) → AreLater n xs → AreLater n ys → AreLater n (xs ++ ys)
later_both n [] ys a b = b
later_both n (x ∷ xs) ys a b = (a.0, later_both n xs ys a.1 b)

-- the second trace is the first one with events of later rounds after it
pub record Grows (n : ℕ) (t u : List Event) : Type 0 where
  pub more : List Event
  pub whole : u ≡ t ++ more
  pub later : AreLater n more

none_more : (n : ℕ) (t : List Event) → Grows n t t
none_more n t = record { more = []; whole = sym (append-nil t); later = tt }

some_more : (n : ℕ) (t es : List Event) → AreLater n es → Grows n t (t ++ es)
some_more n t es l = record { more = es; whole = refl; later = l }

grows_on : (n : ℕ) (t u v : List Event) → Grows n t u → Grows n u v → Grows n t v
grows_on n t u v a b = record {
  more = a.more ++ b.more;
  whole = b.whole ∙ ap (λ (xs : List Event). xs ++ b.more) a.whole ∙ append_assoc t a.more b.more;
  later = later_both n a.more b.more a.later b.later;
}

-- ---- the events of a round

later_events : (n k i : ℕ) (s : Phase) (as' : List Access) → n < k → AreLater n (events_of k i s as')
later_events n k i s [] l = tt
later_events n k i s (a ∷ as') l = (l, later_events n k i s as' l)

later_from : {H : Type 0} (n k i : ℕ) (rs : List (HartRound H)) → n < k → AreLater n (events_from k i rs)
later_from n k i [] l = tt
later_from n k i (r ∷ rs) l = later_both n (events_of k i Parallel r.last.accesses) (events_from k (suc i) rs) (later_events n k i Parallel r.last.accesses l) (later_from n k (suc i) rs l)

module _ {H C : Type 0} (w : Words H C) (n : ℕ) where
  turn_answered : (k i : ℕ) (p : Turn H C) (f : Turn H C → Turn H C) (y : Stepped) → n < k → ((q : Turn H C) → Grows n q.trace (f q).trace) →
      Grows n p.trace (turned k i y p (serial_next w k i p) f).trace
  turn_answered k i p f (Done a) l rest =
      grows_on n p.trace (p.trace ++ events_of k i Serial (option_to_list a)) _ (some_more n p.trace (events_of k i Serial (option_to_list a)) (later_events n k i Serial (option_to_list a) l)) (rest _)
  turn_answered k i p f Waits l rest = none_more n p.trace
  turn_answered k i p f (Stopped code) l rest = none_more n p.trace

  turn_stopped : (p q : Turn H C) (s : Bool) → Grows n p.trace q.trace → Grows n p.trace (if s then p else q).trace
  turn_stopped p q true g = none_more n p.trace
  turn_stopped p q false g = g

  turn_grows : (k i j : ℕ) (p : Turn H C) → n < k → Grows n p.trace (turn_from w k i j p).trace
  unfolding turn_from
  turn_grows k i zero p l = none_more n p.trace
  turn_grows k i (suc j) p l =
      turn_stopped p (turned k i (serial_next w k i p).answer p (serial_next w k i p) (turn_from w k i j)) (w.stopped p.hart)
      (turn_answered k i p (turn_from w k i j) (serial_next w k i p).answer l (λ q. turn_grows k i j q l))

  serial_grows : (budget i : ℕ) (rs : List (HartRound H)) (s : State H C) → n < s.rounds → Grows n s.trace (serial_from w budget i rs s).trace
  serial_grows budget i [] s l = none_more n s.trace
  serial_grows budget i (r ∷ rs) s l =
      grows_on n s.trace (turn_of w budget s i r).trace (serial_from w budget (suc i) rs (joined s (turn_of w budget s i r))).trace
      (turn_grows s.rounds i (if r.waits then budget else 0) (record { hart = r.last.hart; bytes = s.bytes; console = s.console; trace = s.trace }) l)
      (serial_grows budget (suc i) rs (joined s (turn_of w budget s i r)) l)

  round_grows : (budget : ℕ) (quotas : ℕ → List ℕ) (s : State H C) → n ≤ s.rounds → Grows n s.trace (round_of w budget quotas s).trace
  unfolding round_of
  round_grows budget quotas s l =
      let rs = hart_rounds w s.bytes (quotas s.rounds) s.harts in
      grows_on n s.trace (committed s rs).trace (serial_from w budget 0 rs (committed s rs)).trace
      (some_more n s.trace (events_from (s.rounds + 1) 0 rs) (later_from n (s.rounds + 1) 0 rs (omega (arith, l))))
      (serial_grows budget 0 rs (committed s rs) (omega (arith, l)))

  run_grows : (budget : ℕ) (quotas : ℕ → List ℕ) (k : ℕ) (s : State H C) → n ≤ s.rounds → Grows n s.trace (run_of w budget quotas k s).trace
  unfolding run_of
  run_grows budget quotas zero s l = none_more n s.trace
  run_grows budget quotas (suc k) s l =
      grows_on n s.trace (round_of w budget quotas s).trace (run_of w budget quotas k (round_of w budget quotas s)).trace
      (round_grows budget quotas s l) (run_grows budget quotas k (round_of w budget quotas s) (omega (arith, l, round_counted w budget quotas s)))

pub rounds_grow : (k : ℕ) (m : Running) → Grows m.state.rounds m.state.trace (after_rounds k m).state.trace
rounds_grow k m = run_grows (words_of m.code) m.state.rounds m.plan.budget (quotas_of m.plan) k m.state (omega arith)

-- ---- none of them is of an earlier round

is_not : (m n : ℕ) → n < m → nat_le m n ≡ false
is_not m n l = grind (arith, nat_tests, l)

not_within : (from to : ℕ) (e : Event) → to < e.round → is_within from to e ≡ false
not_within from to e l = both (nat_le from e.round) (nat_le e.round to) (is_not e.round to l)
  where
    both : (a b : Bool) → b ≡ false → (a && b) ≡ false
    both true b f = f
    both false b f = refl

none_within : (from to : ℕ) (p : Event → Bool) (es : List Event) → AreLater to es → filter (is_within from to) (filter p es) ≡ []
none_within from to p [] l = refl
none_within from to p (e ∷ es) l = by_test (p e) refl (none_within from to p es l.1)
  where
    by_test : (b : Bool) → p e ≡ b → filter (is_within from to) (filter p es) ≡ [] → filter (is_within from to) (filter p (e ∷ es)) ≡ []
    by_test true is rest = let no = not_within from to e l.0 in rw (is, no) rest
    by_test false is rest = rw is rest

within_front : (from to : ℕ) (p : Event → Bool) (t u : List Event) → Grows to t u → filter (is_within from to) (filter p u) ≡ filter (is_within from to) (filter p t)
within_front from to p t u g =
    ap (λ (es : List Event). filter (is_within from to) (filter p es)) g.whole
    ∙ ap (filter (is_within from to)) (filter-append p t g.more)
    ∙ filter-append (is_within from to) (filter p t) (filter p g.more)
    ∙ ap (λ (es : List Event). filter (is_within from to) (filter p t) ++ es) (none_within from to p g.more g.later)
    ∙ append-nil (filter (is_within from to) (filter p t))

-- the events of rounds up to `to` of so many rounds stand after the first `to` of them
pub within_rounds : (from to rounds n : ℕ) (p : Event → Bool) (m : Running) → m.state.rounds ≡ 0 → n ≤ rounds → (n < rounds → n ≡ to) →
    filter (is_within from to) (filter p (after_rounds n m).state.trace) ≡ filter (is_within from to) (filter p (after_rounds rounds m).state.trace)
within_rounds from to rounds n p m opened le ends = elim (cases_lt n rounds) [ inl lt ↦ shorter lt | inr ge ↦ whole ge ]
  where
    whole : rounds ≤ n → filter (is_within from to) (filter p (after_rounds n m).state.trace) ≡ filter (is_within from to) (filter p (after_rounds rounds m).state.trace)
    whole ge = let same : n ≡ rounds = omega (arith, ge, le) in ap (λ (k : ℕ). filter (is_within from to) (filter p (after_rounds k m).state.trace)) same

    shorter : n < rounds → filter (is_within from to) (filter p (after_rounds n m).state.trace) ≡ filter (is_within from to) (filter p (after_rounds rounds m).state.trace)
    shorter lt =
        let sum : n + (rounds - n) ≡ rounds = omega (arith, lt) in
        let counted : (after_rounds n m).state.rounds ≡ to = rounds_after n m ∙ omega (arith, opened, ends lt) in
        let grown : Grows to (after_rounds n m).state.trace (after_rounds (rounds - n) (after_rounds n m)).state.trace = subst (λ (k : ℕ). Grows k (after_rounds n m).state.trace (after_rounds (rounds - n) (after_rounds n m)).state.trace) counted (rounds_grow (rounds - n) (after_rounds n m)) in
        sym (within_front from to p (after_rounds n m).state.trace (after_rounds (rounds - n) (after_rounds n m)).state.trace grown)
        ∙ ap (λ (r : Running). filter (is_within from to) (filter p r.state.trace)) (more_rounds n (rounds - n) m)
        ∙ ap (λ (k : ℕ). filter (is_within from to) (filter p (after_rounds k m).state.trace)) sum
