-- What a turn, a phase, a round and a run leave of the console is what their calls leave.
use Rattle.std.proofs.Common.{◌≡◌, ℕ, zero, suc, Bool, true, false, if◌then◌else◌, List, [], ◌∷◌, ◌++◌, length, All, inl, inr, refl, sym, ap, ◌∙◌, subst, arith}
use Rattle.std.proofs.lemmas.List.Elements.{All-cons, All-head, All-push}
use Rattle.pages.specs.declared.access.Range.{Range}
use Rattle.pages.specs.Memory.{after}
use Rattle.round_schedule.specs.declared.access.Stepped.{Stepped}
use Rattle.round_schedule.specs.declared.access.Stepped.TheVariants.{Done, Waits, Stopped}
use Rattle.round_schedule.specs.Held.{held}
use Rattle.round_schedule.specs.Schedule.{HartRound, IsSerialTurn, Progress, State, Turn, TurnEnds, TurnGoes, TurnReaches, Words, began, by_answer, committed, ended, first_or_zero, hart_round_of, hart_rounds, joined, next_of, rest_of, round_from, round_of, run_of, serial_from, serial_next, turn_from, turn_of, went}
use Rattle.hart_step.specs.declared.hart.Hart.{Hart}
use Rattle.hart_step.specs.Console.{ConsoleState}
use Rattle.hart_step.specs.Words.{words_of}
use Rattle.console_law.specs.Calls.{ConsoleCall, call_between, calls_along, calls_of_phase, calls_of_round, calls_of_run, calls_of_turn, turn_start}
use Rattle.console_law.specs.Laws.{GetsTakeInput, HasRegisters, OutputIsFirstPuts, PutsAreAnswered, run_opening}
use Rattle.console_law.specs.TurnStates.{turn_states}
use Rattle.console_law.proofs.Closed.{AreAnswered, AreAnswered-append, Told, after_calls, after_calls-append, closed_form, told_form}
use Rattle.console_law.proofs.Effects.{serial_follows, step_keeps}
use Rattle.console_law.proofs.TurnStates.{states_are_turn}

-- under the premise that harts have their registers, if at all
module _ (code : List Range) (premise : Type 0) where
  abbrev w : Words Hart ConsoleState
  w = words_of code

  abbrev Has : Hart → Type 0
  Has h = premise → length h.x ≡ 32

  -- the console is that after these calls, and the premise gives their answers
  record Did (cs : List ConsoleCall) (c d : ConsoleState) : Type 0 where
    console : d ≡ after_calls cs c
    answers : premise → AreAnswered cs c

  did_both : (xs ys : List ConsoleCall) (c d e : ConsoleState) → Did xs c d → Did ys d e → Did (xs ++ ys) c e
  did_both xs ys c d e a b = record {
    console = b.console ∙ ap (after_calls ys) a.console ∙ sym (after_calls-append xs ys c);
    answers = λ p. AreAnswered-append xs ys c (a.answers p) (subst (AreAnswered ys) a.console (b.answers p));
  }

  did_nothing : (c d : ConsoleState) → d ≡ c → Did [] c d
  did_nothing c d e = record { console = e; answers = λ p. tt }

  -- ---- a turn

  turn_goes : (n i : ℕ) (p q : Turn Hart ConsoleState) → TurnGoes w n i p q → Has p.hart → Did (call_between code p q) p.console q.console × Has q.hart
  turn_goes n i p q g has =
      let hart : q.hart ≡ (serial_next w n i p).hart = ap (λ (t : Turn Hart ConsoleState). t.hart) g.1.2 in
      let f = serial_follows n p.hart q.hart p.console (record { bytes = p.bytes; code = code }) (held i p.trace) hart in (
        record { console = ap (λ (t : Turn Hart ConsoleState). t.console) g.1.2 ∙ f.console; answers = λ h. f.answers (has h) },
        λ h. ap (λ (k : Hart). length k.x) hart ∙ f.registers ∙ has h,
      )

  turn_reaches : (n i : ℕ) (p t : Turn Hart ConsoleState) (qs : List (Turn Hart ConsoleState)) → TurnReaches w n i p qs t → Has p.hart →
      Did (calls_along code p qs) p.console t.console × Has t.hart
  turn_reaches n i p t [] e has =
      (did_nothing p.console t.console (ap (λ (u : Turn Hart ConsoleState). u.console) e), λ h. ap (λ (u : Turn Hart ConsoleState). length u.hart.x) e ∙ has h)
  turn_reaches n i p t (q ∷ qs) g has =
      let first : Did (call_between code p q) p.console q.console × Has q.hart = turn_goes n i p q g.0 has in
      let rest : Did (calls_along code q qs) q.console t.console × Has t.hart = turn_reaches n i q t qs g.1 first.1 in
      (did_both (call_between code p q) (calls_along code q qs) p.console q.console t.console first.0 rest.0, rest.1)

  -- the instruction that ends a turn changes neither the console nor how many registers there are
  abbrev Same : Turn Hart ConsoleState → Turn Hart ConsoleState → Type 0
  Same t r = (r.console ≡ t.console) × (length r.hart.x ≡ length t.hart.x)

  next_keeps : (n i : ℕ) (t : Turn Hart ConsoleState) → length (serial_next w n i t).hart.x ≡ length t.hart.x
  next_keeps n i t = (serial_follows n t.hart (serial_next w n i t).hart t.console (record { bytes = t.bytes; code = code }) (held i t.trace) refl).registers

  same_turn : (t r : Turn Hart ConsoleState) → r ≡ t → Same t r
  same_turn t r e = (ap (λ (u : Turn Hart ConsoleState). u.console) e, ap (λ (u : Turn Hart ConsoleState). length u.hart.x) e)

  halted_turn : (n i : ℕ) (t r : Turn Hart ConsoleState) → r ≡ record t { hart = (serial_next w n i t).hart } → Same t r
  halted_turn n i t r e = (ap (λ (u : Turn Hart ConsoleState). u.console) e, ap (λ (u : Turn Hart ConsoleState). length u.hart.x) e ∙ next_keeps n i t)

  turn_ends : (n i j : ℕ) (t r : Turn Hart ConsoleState) → TurnEnds w n i j t r → Same t r
  turn_ends n i j t r (inl e) = same_turn t r e.1
  turn_ends n i j t r (inr (inl e)) = same_turn t r e.1
  turn_ends n i j t r (inr (inr (inl e))) = halted_turn n i t r e.3
  turn_ends n i j t r (inr (inr (inr e))) = halted_turn n i t r e.4

  turn_did : (n i k : ℕ) (p : Turn Hart ConsoleState) → Has p.hart →
      Did (calls_along code p (turn_states w n i k p)) p.console (turn_from w n i k p).console × Has (turn_from w n i k p).hart
  turn_did n i k p has =
      let qs : List (Turn Hart ConsoleState) = turn_states w n i k p in
      let r : Turn Hart ConsoleState = turn_from w n i k p in
      let is : IsSerialTurn w n i k p qs r = states_are_turn Hart ConsoleState w n i k p in
      let d : Did (calls_along code p qs) p.console is.1.console × Has is.1.hart = turn_reaches n i p is.1 qs is.3 has in
      let s : Same is.1 r = turn_ends n i is.0 is.1 r is.4 in
      (record { console = s.0 ∙ d.0.console; answers = d.0.answers }, λ h. s.1 ∙ d.1 h)

  -- ---- a phase

  abbrev Ended : HartRound Hart → Type 0
  Ended r = Has r.last.hart

  phase_did : (budget i : ℕ) (rs : List (HartRound Hart)) (s : State Hart ConsoleState) → All Ended rs → All Has s.harts →
      Did (calls_of_phase code budget i rs s) s.console (serial_from w budget i rs s).console × All Has (serial_from w budget i rs s).harts
  phase_did budget i [] s each has = (did_nothing s.console s.console refl, has)
  phase_did budget i (r ∷ rs) s each has =
      let p : Turn Hart ConsoleState = turn_of w budget s i r in
      let one : Did (calls_of_turn code budget s i r) s.console p.console × Has p.hart =
      turn_did s.rounds i (if r.waits then budget else 0) (turn_start s r) (All-head Ended r rs each) in
      let more = phase_did budget (suc i) rs (joined s p) (λ k d l. each (suc k) d (omega (arith, l))) (All-push Has s.harts p.hart has one.1) in
      (did_both (calls_of_turn code budget s i r) (calls_of_phase code budget (suc i) rs (joined s p)) s.console p.console (serial_from w budget (suc i) rs (joined s p)).console one.0 more.0, more.1)

  -- ---- a round

  abbrev Keeps : Progress Hart → HartRound Hart → Type 0
  Keeps p r = length r.last.hart.x ≡ length p.hart.x

  next_of_keeps : (bs : List ℕ) (p : Progress Hart) → length (next_of w bs p).hart.x ≡ length p.hart.x
  next_of_keeps bs p = step_keeps p.hart (record { bytes = after bs p.stores; code = code })

  answered_keeps : (bs : List ℕ) (p : Progress Hart) (f : Progress Hart → HartRound Hart) (y : Stepped) → ((q : Progress Hart) → Keeps q (f q)) →
      Keeps p (by_answer y p (next_of w bs p) f)
  answered_keeps bs p f (Done a) rest = rest (went p (next_of w bs p) a) ∙ next_of_keeps bs p
  answered_keeps bs p f Waits rest = next_of_keeps bs p
  answered_keeps bs p f (Stopped c) rest = next_of_keeps bs p

  stopped_keeps : (p : Progress Hart) (r : HartRound Hart) (s : Bool) → Keeps p r → Keeps p (if s then ended p false else r)
  stopped_keeps p r true k = refl
  stopped_keeps p r false k = k

  round_keeps : (bs : List ℕ) (k : ℕ) (p : Progress Hart) → Keeps p (round_from w bs k p)
  unfolding round_from
  round_keeps bs zero p = refl
  round_keeps bs (suc k) p =
      stopped_keeps p (by_answer (next_of w bs p).answer p (next_of w bs p) (round_from w bs k)) (w.stopped p.hart)
      (answered_keeps bs p (round_from w bs k) (next_of w bs p).answer (round_keeps bs k))

  rounds_have : (bs qs : List ℕ) (hs : List Hart) → All Has hs → All Ended (hart_rounds w bs qs hs)
  rounds_have bs qs [] all = λ k d l. absurd (omega (arith, l))
  rounds_have bs qs (h ∷ hs) all =
      All-cons Ended (hart_round_of w bs (first_or_zero qs) h) (hart_rounds w bs (rest_of qs) hs)
      (λ p. round_keeps bs (first_or_zero qs) (began h) ∙ All-head Has h hs all p)
      (rounds_have bs (rest_of qs) hs (λ k d l. all (suc k) d (omega (arith, l))))

  round_did : (budget : ℕ) (quotas : ℕ → List ℕ) (s : State Hart ConsoleState) → All Has s.harts →
      Did (calls_of_round code budget quotas s) s.console (round_of w budget quotas s).console × All Has (round_of w budget quotas s).harts
  unfolding calls_of_round round_of
  round_did budget quotas s has =
      let rs : List (HartRound Hart) = hart_rounds w s.bytes (quotas s.rounds) s.harts in
      phase_did budget 0 rs (committed s rs) (rounds_have s.bytes (quotas s.rounds) s.harts has) (λ k d l. absurd (omega (arith, l)))

  -- ---- a run

  run_did : (budget : ℕ) (quotas : ℕ → List ℕ) (n : ℕ) (s : State Hart ConsoleState) → All Has s.harts →
      Did (calls_of_run code budget quotas n s) s.console (run_of w budget quotas n s).console
  unfolding calls_of_run run_of
  run_did budget quotas zero s has = did_nothing s.console s.console refl
  run_did budget quotas (suc n) s has =
      let t : State Hart ConsoleState = round_of w budget quotas s in
      let one : Did (calls_of_round code budget quotas s) s.console t.console × All Has t.harts = round_did budget quotas s has in
      did_both (calls_of_round code budget quotas s) (calls_of_run code budget quotas n t) s.console t.console (run_of w budget quotas n t).console one.0 (run_did budget quotas n t one.1)

pub output_is_first : OutputIsFirstPuts
output_is_first code budget quotas n harts bytes input =
    let s : State Hart ConsoleState = run_opening harts bytes input in
    let cs : List ConsoleCall = calls_of_run code budget quotas n s in
    let d : Did code ⊥ cs s.console (run_of (words_of code) budget quotas n s).console = run_did code ⊥ budget quotas n s (λ k d l p. absurd p) in
    ap (λ (c : ConsoleState). c.output) d.console ∙ (closed_form input cs).output

told_of_run : (code : List Range) (budget : ℕ) (quotas : ℕ → List ℕ) (n : ℕ) (harts : List Hart) (bytes input : List ℕ) → All HasRegisters harts →
    Told input (calls_of_run code budget quotas n (run_opening harts bytes input))
told_of_run code budget quotas n harts bytes input has =
    let s : State Hart ConsoleState = run_opening harts bytes input in
    let cs : List ConsoleCall = calls_of_run code budget quotas n s in
    let d : Did code (All HasRegisters harts) cs s.console (run_of (words_of code) budget quotas n s).console =
    run_did code (All HasRegisters harts) budget quotas n s (λ k d l p. p k d l) in
    told_form input cs (d.answers has)

pub gets_take_input : GetsTakeInput
gets_take_input code budget quotas n harts bytes input has = (told_of_run code budget quotas n harts bytes input has).gets

pub puts_are_answered : PutsAreAnswered
puts_are_answered code budget quotas n harts bytes input has = (told_of_run code budget quotas n harts bytes input has).puts
