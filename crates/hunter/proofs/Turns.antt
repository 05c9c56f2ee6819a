-- A run is looked at after whole turns of its plan's rows alone, and is back nowhere else.
use Rattle.std.proofs.Common.{◌≡◌, ◌≢◌, ℕ, zero, suc, ◌+◌, ◌-◌, ◌*◌, ◌/◌, ◌%◌, ◌<◌, ◌≤◌, ◌==◌, ◌&&◌, ◌||◌, ◌⊎◌, inl, inr, not, Bool, true, false, List, [], length, refl, sym, ◌∙◌, ap, subst, arith, below_more}
use Rattle.std.specs.Prelude.{slice_index_or}
use Rattle.std.proofs.lemmas.Bool.{cases_lt, false≢true, eqb-true}
use Rattle.std.proofs.lemmas.Bool.Decides.{nat_tests}
use Rattle.std.proofs.Math.Nat.{add-mul-mod_self_right, div-mul-le_self, mod-add-div', mul-le-mul_right, mul-mod_left}
use Rattle.std.proofs.lemmas.Nat.{le-div}
use Rattle.pages.specs.declared.access.Range.{Range}
use Rattle.round_schedule.specs.Schedule.{State, run_of}
use Rattle.round_planner.specs.Quotas.{Planned, quotas_of, spread}
use Rattle.hart_step.specs.declared.hart.Hart.{Hart}
use Rattle.hart_step.specs.Console.{ConsoleState}
use Rattle.hart_step.specs.Words.{words_of}
use Rattle.serial_phase.specs.Asking.{asks_in_round, asks_in_run}
use Rattle.serial_phase.specs.Decided.{are_alike, comes_back_within, is_back_in}
use Rattle.serial_phase.specs.Forgetting.{asks_number}

-- whole turns of the rows later the quotas are the same
pub again : (plan : Planned) (q x : ℕ) → q % length plan.rows ≡ 0 → quotas_of plan (x + q) ≡ quotas_of plan x
again plan q x e =
    let r : ℕ = length plan.rows in
    let whole : q ≡ q / r * r = omega (arith, mod-add-div' q r, e) in
    let place : (x + q) % r ≡ x % r = ap (λ (n : ℕ). (x + n) % r) whole ∙ add-mul-mod_self_right x (q / r) r in
    ap (λ (n : ℕ). spread plan.harts (slice_index_or plan.rows n [])) place

no_first : (a b c : Bool) → a ≡ false → (a && b && not c) ≡ false
no_first true b c e = absurd (false≢true (sym e))
no_first false b c e = refl

no_second : (a b c : Bool) → b ≡ false → (a && b && not c) ≡ false
no_second a true c e = absurd (false≢true (sym e))
no_second true false c e = refl
no_second false false c e = refl

no_third : (a b c : Bool) → c ≡ true → (a && b && not c) ≡ false
no_third a b false e = absurd (false≢true e)
no_third true true true e = refl
no_third true false true e = refl
no_third false b true e = refl

all_three : (a b c : Bool) → a ≡ true → b ≡ true → c ≡ false → (a && b && not c) ≡ true
all_three true true false e f g = refl
all_three true true true e f g = absurd (false≢true (sym g))
all_three true false c e f g = absurd (false≢true f)
all_three false b c e f g = absurd (false≢true e)

zero_or_not : (b : Bool) → (b ≡ true) ⊎ (b ≡ false)
zero_or_not true = inl refl
zero_or_not false = inr refl

is_zero : (n : ℕ) → n ≡ 0 → (n == 0) ≡ true
is_zero n e = grind (arith, nat_tests)

neither_is : (a b : Bool) → a ≡ false → b ≡ false → (a || b) ≡ false
neither_is true b e f = absurd (false≢true (sym e))
neither_is false b e f = f

one_is : (a b : Bool) → a ≡ true → (a || b) ≡ true
one_is true b e = refl
one_is false b e = absurd (false≢true e)

other_is : (a b : Bool) → b ≡ true → (a || b) ≡ true
other_is true b e = refl
other_is false b e = e

at_or_below : (p n : ℕ) → p ≤ suc n → (p ≡ suc n) ⊎ (p ≤ n)
at_or_below zero n m = inr (omega arith)
at_or_below (suc p) zero m = inl (omega (arith, m))
at_or_below (suc p) (suc n) m = elim (at_or_below p n (omega (arith, m))) [
  | inl f ↦ inl (ap (λ (k : ℕ). suc k) f)
  | inr f ↦ inr (omega (arith, f))
]

module _ (code : List Range) (budget : ℕ) (quotas : ℕ → List ℕ) (rows : ℕ) where
  -- t turns of the rows on
  abbrev pub turns_on : ℕ → State Hart ConsoleState → State Hart ConsoleState
  turns_on t s = run_of (words_of code) budget quotas (t * rows) s

  -- after none of the turns before turn n it is as it was
  abbrev pub Moves : ℕ → State Hart ConsoleState → Type 0
  Moves n s = (t : ℕ) → 1 ≤ t → t < n → are_alike s (turns_on t s) ≡ false

  pub moves_first : (s : State Hart ConsoleState) → Moves 1 s
  moves_first s = λ t l m. absurd (omega (arith, l, m))

  pub moves_more : (n : ℕ) (s : State Hart ConsoleState) → Moves n s → are_alike s (turns_on n s) ≡ false → Moves (n + 1) s
  moves_more n s f e = λ t l m. below_more (λ (k : ℕ). 1 ≤ k → are_alike s (turns_on k s) ≡ false) n (λ k b some. f k some b) (λ some. e) t (omega (arith, m)) l

  -- ---- asking

  pub asks_more : (m n : ℕ) (s : State Hart ConsoleState) → asks_in_run (words_of code) (asks_number code) budget quotas m s ≡ true → m ≤ n →
      asks_in_run (words_of code) (asks_number code) budget quotas n s ≡ true
  unfolding asks_in_run
  asks_more m zero s e l = let none : m ≡ zero = omega (arith, l) in subst (λ (k : ℕ). asks_in_run (words_of code) (asks_number code) budget quotas k s ≡ true) none e
  asks_more m (suc n) s e l = elim (at_or_below m n l) [
    | inl f ↦ subst (λ (k : ℕ). asks_in_run (words_of code) (asks_number code) budget quotas k s ≡ true) f e
    | inr f ↦ one_is _ _ (asks_more m n s e f)
  ]

  pub asks_none : (s : State Hart ConsoleState) → asks_in_run (words_of code) (asks_number code) budget quotas 0 s ≡ false
  unfolding asks_in_run
  asks_none s = refl

  pub asks_next : (n : ℕ) (s : State Hart ConsoleState) → asks_in_run (words_of code) (asks_number code) budget quotas n s ≡ false →
      asks_in_round (words_of code) (asks_number code) budget quotas (run_of (words_of code) budget quotas n s) ≡ false →
      asks_in_run (words_of code) (asks_number code) budget quotas (n + 1) s ≡ false
  unfolding asks_in_run
  asks_next n s e f = let same : suc n ≡ n + 1 = omega arith in subst (λ (k : ℕ). asks_in_run (words_of code) (asks_number code) budget quotas k s ≡ false) same (more n e f)
    where
      more : (n : ℕ) → asks_in_run (words_of code) (asks_number code) budget quotas n s ≡ false →
          asks_in_round (words_of code) (asks_number code) budget quotas (run_of (words_of code) budget quotas n s) ≡ false →
          asks_in_run (words_of code) (asks_number code) budget quotas (suc n) s ≡ false
      more n e f = neither_is _ _ e f

  pub asks_here : (n k : ℕ) (s : State Hart ConsoleState) → n < k →
      asks_in_round (words_of code) (asks_number code) budget quotas (run_of (words_of code) budget quotas n s) ≡ true →
      asks_in_run (words_of code) (asks_number code) budget quotas k s ≡ true
  unfolding asks_in_run
  asks_here n k s l e = asks_more (suc n) k s (more n e) (omega (arith, l))
    where
      more : (n : ℕ) → asks_in_round (words_of code) (asks_number code) budget quotas (run_of (words_of code) budget quotas n s) ≡ true →
          asks_in_run (words_of code) (asks_number code) budget quotas (suc n) s ≡ true
      more n e = other_is _ _ e

  -- ---- coming back

  pub is_back : (t : ℕ) (s : State Hart ConsoleState) → are_alike s (turns_on t s) ≡ true →
      asks_in_run (words_of code) (asks_number code) budget quotas (t * rows) s ≡ false → is_back_in code budget quotas rows s (t * rows) ≡ true
  unfolding is_back_in
  is_back t s e f = all_three ((t * rows) % rows == 0) _ _ (is_zero _ (mul-mod_left t rows)) e f

  none_within : (n : ℕ) (s : State Hart ConsoleState) → ((p : ℕ) → 1 ≤ p → p ≤ n → is_back_in code budget quotas rows s p ≡ false) →
      comes_back_within code budget quotas rows s n ≡ false
  unfolding comes_back_within
  none_within zero s f = refl
  none_within (suc n) s f = neither_is _ _ (none_within n s (λ p l m. f p l (omega (arith, m)))) (f (suc n) (omega arith) (omega arith))

  -- after rounds with fewer whole turns
  not_back : (n p : ℕ) (s : State Hart ConsoleState) → Moves n s → 1 ≤ p → p / rows < n → is_back_in code budget quotas rows s p ≡ false
  unfolding is_back_in
  not_back n p s f l m = elim (zero_or_not (p % rows == 0)) [
    | inr e ↦ no_first (p % rows == 0) _ _ e
    | inl e ↦
        let whole : (p / rows) * rows ≡ p = omega (arith, mod-add-div' p rows, eqb-true (p % rows) 0 e) in
        no_second (p % rows == 0) _ _ (subst (λ (k : ℕ). are_alike s (run_of (words_of code) budget quotas k s) ≡ false) whole (f (p / rows) (some (p / rows) whole) m))
  ]
    where
      some : (t : ℕ) → t * rows ≡ p → 1 ≤ t
      some zero w = absurd (omega (arith, w, l))
      some (suc t) w = omega arith

  pub never_back : (n rounds : ℕ) (s : State Hart ConsoleState) → 0 < rows → Moves n s → rounds / rows < n → comes_back_within code budget quotas rows s rounds ≡ false
  never_back n rounds s z f m =
      none_within rounds s (λ p l u. not_back n p s f l (omega (arith, le-div (p / rows) rounds rows z (omega (arith, div-mul-le_self p rows, u)), m)))

  -- by the first turn after which it is as it was a hart has asked
  pub asked_before : (n rounds : ℕ) (s : State Hart ConsoleState) → Moves n s →
      asks_in_run (words_of code) (asks_number code) budget quotas (n * rows) s ≡ true → comes_back_within code budget quotas rows s rounds ≡ false
  unfolding is_back_in
  asked_before n rounds s f e = none_within rounds s (λ p l u. elim (cases_lt (p / rows) n) [
    | inl m ↦ not_back n p s f l m
    | inr m ↦ asked p (asks_more (n * rows) p s e (omega (arith, mul-le-mul_right {m = n} {n = p / rows} rows m, div-mul-le_self p rows)))
  ])
    where
      asked : (p : ℕ) → asks_in_run (words_of code) (asks_number code) budget quotas p s ≡ true → is_back_in code budget quotas rows s p ≡ false
      asked p d = no_third (p % rows == 0) _ _ d
