-- The answers are the right ones.
use Rattle.std.proofs.Common.{◌≡◌, ℕ, zero, suc, ◌+◌, ◌-◌, ◌/◌, ◌%◌, ◌<◌, ◌≤◌, ◌==◌, ◌&&◌, ◌||◌, ◌⊎◌, inl, inr, not, Bool, true, false, List, [], ◌∷◌, map, length, Option, Some, None, refl, sym, ◌∙◌, ap, subst, arith, below_more}
use Rattle.std.specs.Str.{bytes_eq}
use Rattle.std.proofs.lemmas.Bool.{false≢true, eqb-true}
use Rattle.std.proofs.lemmas.Bool.Decides.{nat_tests}
use Rattle.std.proofs.lemmas.Slice.Eq.{bytes_eq-Decides}
use Rattle.pages.specs.Memory.{width_bytes}
use Rattle.pages.specs.declared.access.Range.{Range}
use Rattle.pages.specs.declared.access.Width.{Width}
use Rattle.pages.specs.declared.access.Width.TheVariants.{W1, W2, W4, W8}
use Rattle.round_schedule.specs.declared.span.Span.{Span}
use Rattle.round_schedule.specs.Held.{held}
use Rattle.round_schedule.specs.Schedule.{State, run_of}
use Rattle.hart_step.specs.declared.hart.Hart.{Hart}
use Rattle.hart_step.specs.declared.hart.Stop.{Stop}
use Rattle.hart_step.specs.Console.{ConsoleState}
use Rattle.hart_step.specs.Words.{words_of}
use Rattle.serial_phase.specs.Asking.{asks_in_run}
use Rattle.serial_phase.specs.Decided.{AlikeIsDecided, EarlierGoesRound, GoingRoundComesBack, are_alike, comes_back_within, goes_round, is_back_in, same_console, same_hart, same_harts, same_held, same_span, same_stop}
use Rattle.serial_phase.specs.Forgetting.{asks_number, uncounted}
use Rattle.serial_phase.specs.Returning.{Alike, ComesBack}
use Rattle.serial_phase.proofs.Forgetting.{counts_are_forgotten}
use Rattle.serial_phase.proofs.Returning.{comes_back_later, run_sum}

both : (a b : Bool) → (a && b) ≡ true → (a ≡ true) × (b ≡ true)
both true b e = (refl, e)
both false b e = absurd (false≢true e)

and : (a b : Bool) → a ≡ true → b ≡ true → (a && b) ≡ true
and true b e f = f
and false b e f = e

eqb_same : (m n : ℕ) → m ≡ n → (m == n) ≡ true
eqb_same m n e = grind (arith, nat_tests)

stop_found : (s t : Option Stop) → same_stop s t ≡ true → s ≡ t
stop_found None None e = refl
stop_found None (Some t) e = absurd (false≢true e)
stop_found (Some s) None e = absurd (false≢true e)
stop_found (Some s) (Some t) e =
    let d : ((s.code == t.code) ≡ true) × ((s.value == t.value) ≡ true) = both _ _ e in
    let c : s.code ≡ t.code = eqb-true s.code t.code d.0 in
    let v : s.value ≡ t.value = eqb-true s.value t.value d.1 in
    ap (λ (k : ℕ). Some (record { code = k; value = s.value })) c ∙ ap (λ (k : ℕ). Some (record { code = t.code; value = k })) v

stop_same : (s : Option Stop) → same_stop s s ≡ true
stop_same None = refl
stop_same (Some s) = and _ _ (eqb_same s.code s.code refl) (eqb_same s.value s.value refl)

hart_found : (h g : Hart) → same_hart h g ≡ true → uncounted h ≡ uncounted g
hart_found h g e =
    let d : ((bytes_eq h.x g.x && (h.pc == g.pc)) ≡ true) × (same_stop h.stop g.stop ≡ true) = both _ _ e in
    let f : (bytes_eq h.x g.x ≡ true) × ((h.pc == g.pc) ≡ true) = both _ _ d.0 in
    let x : h.x ≡ g.x = (bytes_eq-Decides h.x g.x).0 f.0 in
    let pc : h.pc ≡ g.pc = eqb-true h.pc g.pc f.1 in
    let stop : h.stop ≡ g.stop = stop_found h.stop g.stop d.1 in
    ap (λ (y : List ℕ). record { x = y; pc = h.pc; stop = h.stop; done = 0 }) x
    ∙ ap (λ (y : ℕ). record { x = g.x; pc = y; stop = h.stop; done = 0 }) pc
    ∙ ap (λ (y : Option Stop). record { x = g.x; pc = g.pc; stop = y; done = 0 }) stop

hart_same : (h g : Hart) → uncounted h ≡ uncounted g → same_hart h g ≡ true
hart_same h g e =
    let x : h.x ≡ g.x = ap (λ (y : Hart). y.x) e in
    let pc : h.pc ≡ g.pc = ap (λ (y : Hart). y.pc) e in
    let stop : h.stop ≡ g.stop = ap (λ (y : Hart). y.stop) e in
    and _ _ (and _ _ ((bytes_eq-Decides h.x g.x).1 x) (eqb_same h.pc g.pc pc)) (subst (λ (y : Option Stop). same_stop h.stop y ≡ true) stop (stop_same h.stop))

harts_found : (hs gs : List Hart) → same_harts hs gs ≡ true → map uncounted hs ≡ map uncounted gs
harts_found [] [] e = refl
harts_found [] (g ∷ gs) e = absurd (false≢true e)
harts_found (h ∷ hs) [] e = absurd (false≢true e)
harts_found (h ∷ hs) (g ∷ gs) e =
    let d : (same_hart h g ≡ true) × (same_harts hs gs ≡ true) = both _ _ e in
    ap (λ (y : Hart). y ∷ map uncounted hs) (hart_found h g d.0) ∙ ap (λ (ys : List Hart). uncounted g ∷ ys) (harts_found hs gs d.1)

head_is : {X : Type 0} (x y : X) (xs ys : List X) → x ∷ xs ≡ y ∷ ys → (x ≡ y) × (xs ≡ ys)
head_is x y xs ys e = (cc, cc)

harts_same : (hs gs : List Hart) → map uncounted hs ≡ map uncounted gs → same_harts hs gs ≡ true
harts_same [] [] e = refl
harts_same [] (g ∷ gs) e = cc
harts_same (h ∷ hs) [] e = cc
harts_same (h ∷ hs) (g ∷ gs) e =
    let d : (uncounted h ≡ uncounted g) × (map uncounted hs ≡ map uncounted gs) = head_is _ _ _ _ e in
    and _ _ (hart_same h g d.0) (harts_same hs gs d.1)

console_found : (c d : ConsoleState) → same_console c d ≡ true → c ≡ d
console_found c d e =
    let f : ((bytes_eq c.input d.input && (c.place == d.place)) ≡ true) × (bytes_eq c.output d.output ≡ true) = both _ _ e in
    let g : (bytes_eq c.input d.input ≡ true) × ((c.place == d.place) ≡ true) = both _ _ f.0 in
    ap (λ (x : List ℕ). record { input = x; place = c.place; output = c.output }) ((bytes_eq-Decides c.input d.input).0 g.0)
    ∙ ap (λ (x : ℕ). record { input = d.input; place = x; output = c.output }) (eqb-true c.place d.place g.1)
    ∙ ap (λ (x : List ℕ). record { input = d.input; place = d.place; output = x }) ((bytes_eq-Decides c.output d.output).0 f.1)

console_same : (c : ConsoleState) → same_console c c ≡ true
console_same c =
    and _ _ (and _ _ ((bytes_eq-Decides c.input c.input).1 refl) (eqb_same c.place c.place refl)) ((bytes_eq-Decides c.output c.output).1 refl)

width_found : (v w : Width) → width_bytes v ≡ width_bytes w → v ≡ w
width_found W1 W1 e = refl
width_found W1 W2 e = absurd (omega (arith, e))
width_found W1 W4 e = absurd (omega (arith, e))
width_found W1 W8 e = absurd (omega (arith, e))
width_found W2 W1 e = absurd (omega (arith, e))
width_found W2 W2 e = refl
width_found W2 W4 e = absurd (omega (arith, e))
width_found W2 W8 e = absurd (omega (arith, e))
width_found W4 W1 e = absurd (omega (arith, e))
width_found W4 W2 e = absurd (omega (arith, e))
width_found W4 W4 e = refl
width_found W4 W8 e = absurd (omega (arith, e))
width_found W8 W1 e = absurd (omega (arith, e))
width_found W8 W2 e = absurd (omega (arith, e))
width_found W8 W4 e = absurd (omega (arith, e))
width_found W8 W8 e = refl

span_found : (s t : Option Span) → same_span s t ≡ true → s ≡ t
span_found None None e = refl
span_found None (Some t) e = absurd (false≢true e)
span_found (Some s) None e = absurd (false≢true e)
span_found (Some s) (Some t) e =
    let d : ((s.address == t.address) ≡ true) × ((width_bytes s.width == width_bytes t.width) ≡ true) = both _ _ e in
    ap (λ (k : ℕ). Some (record { address = k; width = s.width })) (eqb-true s.address t.address d.0)
    ∙ ap (λ (k : Width). Some (record { address = t.address; width = k })) (width_found s.width t.width (eqb-true _ _ d.1))

span_same : (s : Option Span) → same_span s s ≡ true
span_same None = refl
span_same (Some s) = and _ _ (eqb_same s.address s.address refl) (eqb_same (width_bytes s.width) (width_bytes s.width) refl)

held_found : (n : ℕ) (s t : State Hart ConsoleState) → same_held n s t ≡ true → (h : ℕ) → h < n → held h s.trace ≡ held h t.trace
held_found zero s t e h l = absurd (omega (arith, l))
held_found (suc n) s t e h l =
    let d : (same_held n s t ≡ true) × (same_span (held n s.trace) (held n t.trace) ≡ true) = both _ _ e in
    below_more (λ (k : ℕ). held k s.trace ≡ held k t.trace) n (held_found n s t d.0) (span_found _ _ d.1) h (omega (arith, l))

held_same : (n : ℕ) (s t : State Hart ConsoleState) → ((h : ℕ) → h < n → held h s.trace ≡ held h t.trace) → same_held n s t ≡ true
held_same zero s t e = refl
held_same (suc n) s t e =
    and _ _ (held_same n s t (λ h l. e h (omega (arith, l)))) (subst (λ (x : Option Span). same_span (held n s.trace) x ≡ true) (e n (omega arith)) (span_same (held n s.trace)))

pub alike_is_decided : AlikeIsDecided
unfolding are_alike
alike_is_decided = λ s t. (
  λ e.
      let d = both (same_harts s.harts t.harts && bytes_eq s.bytes t.bytes && same_console s.console t.console) (same_held (length s.harts) s t) e in
      let f = both (same_harts s.harts t.harts && bytes_eq s.bytes t.bytes) (same_console s.console t.console) d.0 in
      let g = both (same_harts s.harts t.harts) (bytes_eq s.bytes t.bytes) f.0 in
      record {
        harts = harts_found s.harts t.harts g.0;
        bytes = (bytes_eq-Decides s.bytes t.bytes).0 g.1;
        console = console_found s.console t.console f.1;
        holds = held_found (length s.harts) s t d.1;
      },
  λ a. and _ _ (and _ _ (and _ _ (harts_same s.harts t.harts a.harts) ((bytes_eq-Decides s.bytes t.bytes).1 a.bytes))
      (subst (λ (c : ConsoleState). same_console s.console c ≡ true) a.console (console_same s.console))) (held_same (length s.harts) s t a.holds),
)

-- ---- runs

not_is : (b : Bool) → not b ≡ true → b ≡ false
not_is true e = sym e
not_is false e = refl

is_not : (b : Bool) → b ≡ false → not b ≡ true
is_not true e = sym e
is_not false e = refl

at_or_below : (p n : ℕ) → p ≤ suc n → (p ≡ suc n) ⊎ (p ≤ n)
at_or_below zero n m = inr (omega arith)
at_or_below (suc p) zero m = inl (omega (arith, m))
at_or_below (suc p) (suc n) m = elim (at_or_below p n (omega (arith, m))) [
  | inl f ↦ inl (ap (λ (k : ℕ). suc k) f)
  | inr f ↦ inr (omega (arith, f))
]

module _ (code : List Range) (budget : ℕ) (quotas : ℕ → List ℕ) (rows : ℕ) (again : (p x : ℕ) → p % rows ≡ 0 → quotas (x + p) ≡ quotas x) where
  abbrev Back : ℕ → State Hart ConsoleState → Type 0
  Back p s = ComesBack (words_of code) uncounted (asks_number code) budget quotas p s

  pub back_found : (s : State Hart ConsoleState) (p : ℕ) → 1 ≤ p → is_back_in code budget quotas rows s p ≡ true → Back p s
  unfolding is_back_in
  back_found s p l e =
      let t : State Hart ConsoleState = run_of (words_of code) budget quotas p s in
      let d = both ((p % rows == 0) && are_alike s t) (not (asks_in_run (words_of code) (asks_number code) budget quotas p s)) e in
      let f = both (p % rows == 0) (are_alike s t) d.0 in
      record {
        on = l;
        again = λ x. again p x (eqb-true (p % rows) 0 f.0);
        alike = (alike_is_decided s t).0 f.1;
        unasked = not_is _ d.1;
      }

  back_is : (s : State Hart ConsoleState) (p : ℕ) → p % rows ≡ 0 → Back p s → is_back_in code budget quotas rows s p ≡ true
  unfolding is_back_in
  back_is s p e b =
      and _ _ (and _ _ (eqb_same (p % rows) 0 e) ((alike_is_decided s (run_of (words_of code) budget quotas p s)).1 b.alike)) (is_not _ b.unasked)

  either : (a b : Bool) → (a || b) ≡ true → (a ≡ true) ⊎ (b ≡ true)
  either true b e = inl refl
  either false b e = inr e

  within_found : (s : State Hart ConsoleState) (n : ℕ) → comes_back_within code budget quotas rows s n ≡ true → (p : ℕ) × (p ≤ n) × Back p s
  unfolding comes_back_within
  within_found s zero e = absurd (false≢true e)
  within_found s (suc n) e = elim (either _ _ e) [
    | inl f ↦ let r = within_found s n f in (r.0, omega (arith, r.1), r.2)
    | inr f ↦ (suc n, omega arith, back_found s (suc n) (omega arith) f)
  ]

  first_true : (a b : Bool) → a ≡ true → (a || b) ≡ true
  first_true true b e = refl
  first_true false b e = absurd (false≢true e)

  second_true : (a b : Bool) → b ≡ true → (a || b) ≡ true
  second_true true b e = refl
  second_true false b e = e

  pub within_is : (s : State Hart ConsoleState) (n p : ℕ) → 1 ≤ p → p ≤ n → is_back_in code budget quotas rows s p ≡ true → comes_back_within code budget quotas rows s n ≡ true
  unfolding comes_back_within
  within_is s zero p l m e = absurd (omega (arith, l, m))
  within_is s (suc n) p l m e = elim (at_or_below p n m) [
    | inl f ↦ second_true _ _ (subst (λ (k : ℕ). is_back_in code budget quotas rows s k ≡ true) f e)
    | inr f ↦ first_true _ _ (within_is s n p l f e)
  ]

  going_round : (s : State Hart ConsoleState) (rounds : ℕ) → goes_round code budget quotas rows s rounds ≡ true →
      (p : ℕ) × (p ≤ rounds - rounds / 2) × Back p (run_of (words_of code) budget quotas (rounds / 2) s)
  unfolding goes_round
  going_round s rounds e = within_found (run_of (words_of code) budget quotas (rounds / 2) s) (rounds - rounds / 2) e

  rows_of_back : (s : State Hart ConsoleState) (p : ℕ) → is_back_in code budget quotas rows s p ≡ true → p % rows ≡ 0
  unfolding is_back_in
  rows_of_back s p e = eqb-true (p % rows) 0 (both _ _ (both _ _ e).0).0

  earlier : (s : State Hart ConsoleState) (rounds i p : ℕ) → i ≤ rounds / 2 → 1 ≤ p → p ≤ rounds - rounds / 2 →
      is_back_in code budget quotas rows (run_of (words_of code) budget quotas i s) p ≡ true → goes_round code budget quotas rows s rounds ≡ true
  unfolding goes_round
  earlier s rounds i p l some few e =
      let w = words_of code in
      let t : State Hart ConsoleState = run_of w budget quotas i s in
      let further : ℕ = rounds / 2 - i in
      let there : run_of w budget quotas further t ≡ run_of w budget quotas (rounds / 2) s =
      sym (run_sum w uncounted (asks_number code) (counts_are_forgotten code) budget quotas i further s) ∙ ap (λ (n : ℕ). run_of w budget quotas n s) (omega (arith, l)) in
      let back : Back p (run_of w budget quotas (rounds / 2) s) =
      subst (Back p) there (comes_back_later w uncounted (asks_number code) (counts_are_forgotten code) budget quotas p further t (back_found t p some e)) in
      within_is (run_of w budget quotas (rounds / 2) s) (rounds - rounds / 2) p some few (back_is (run_of w budget quotas (rounds / 2) s) p (rows_of_back t p e) back)

pub going_round_comes_back : GoingRoundComesBack
going_round_comes_back = λ code budget quotas rows s rounds again e. going_round code budget quotas rows again s rounds e

pub earlier_goes_round : EarlierGoesRound
earlier_goes_round = λ code budget quotas rows s rounds i p again l some few e. earlier code budget quotas rows again s rounds i p l some few e
