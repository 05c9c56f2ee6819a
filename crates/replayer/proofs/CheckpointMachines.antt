-- The machines that are kept of a run, round after round.
use Rattle.std.proofs.Common.{◌≡◌, ℕ, zero, suc, ◌+◌, ◌-◌, ◌*◌, ◌/◌, ◌%◌, ◌<◌, ◌≤◌, ◌==◌, Bool, true, false, List, [], ◌∷◌, ◌++◌, length, slice_get, Option, Some, None, refl, sym, ap, subst, ◌∙◌, arith, inl, inr}
use Rattle.std.specs.Prelude.{◌&&◌, if◌then◌else◌, not}
use Rattle.std.proofs.lemmas.List.{append-nil}
use Rattle.std.proofs.lemmas.Bool.{cases_lt}
use Rattle.std.proofs.lemmas.Bool.Decides.{nat_tests}
use Rattle.std.proofs.lemmas.Option.{slice_get_within}
use Rattle.std.specs.Prelude.{nat_lt}
use Rattle.std.proofs.Math.Nat.{lt_of_mul-lt-mul_left}
use Rattle.machine.specs.Machine.{Running, after_rounds}
use Rattle.machine.proofs.Repeated.{more_rounds, no_rounds}
use Rattle.replayer.proofs.Counted.{rounds_after}
use Rattle.recording.specs.Grammar.{is_due}
use Rattle.replayer.specs.Checkpoints.{AreCheckpoints, Opened, checkpoints_of, checkpoint_machine}

-- ---- quotients, from a multiple of e on to at most the next one

one_due : (e n k : ℕ) → 0 < e → n % e ≡ 0 → n < k → k ≤ n + e → k % e ≡ 0 → k / e ≡ n / e + 1
one_due e n k some at more few due =
    let low : n / e < k / e = lt_of_mul-lt-mul_left e (omega (arith, some, at, more, due)) in
    let high : k / e < n / e + 2 = lt_of_mul-lt-mul_left e (omega (arith, some, at, few, due)) in
    omega (arith, low, high)

none_due : (e n k : ℕ) → 0 < e → n % e ≡ 0 → n < k → k ≤ n + e → 0 < k % e → k / e ≡ n / e
none_due e n k some at more few due =
    let low : n / e < k / e + 1 = lt_of_mul-lt-mul_left e (omega (arith, some, at, more, due)) in
    let high : k / e < n / e + 1 = lt_of_mul-lt-mul_left e (omega (arith, some, at, few, due)) in
    omega (arith, low, high)

next_multiple : (e n : ℕ) → 0 < e → n % e ≡ 0 → (n + e) % e ≡ 0
next_multiple e n some at =
    let low : n / e + 1 < (n + e) / e + 1 = lt_of_mul-lt-mul_left e (omega (arith, some, at)) in
    let high : (n + e) / e < n / e + 2 = lt_of_mul-lt-mul_left e (omega (arith, some, at)) in
    let one : (n + e) / e ≡ n / e + 1 = omega (arith, low, high) in
    let same : e * ((n + e) / e) ≡ e * (n / e + 1) = ap (λ (q : ℕ). e * q) one in
    omega (arith, some, at, same)

-- n rounds are a multiple; of 0 there is one alone
abbrev pub IsMultiple : ℕ → ℕ → Type 0
IsMultiple zero n = n ≡ 0
IsMultiple (suc e) n = n % suc e ≡ 0

pub none_multiple : (e : ℕ) → IsMultiple e 0
none_multiple zero = refl
none_multiple (suc e) = omega arith

pub more_multiple : (e n k : ℕ) → 1 ≤ k → k ≡ e → IsMultiple e n → IsMultiple e (n + k)
more_multiple zero n k some is at = absurd (omega (arith, some, is))
more_multiple (suc e) n k some is at = subst (λ (j : ℕ). (n + j) % suc e ≡ 0) (sym is) (next_multiple (suc e) n (omega arith) at)

-- how many are kept where some are
by_none : (b : Bool) (n : ℕ) → b ≡ false → (if b then 1 else n) ≡ n
by_none b n e = rw e refl

of_some : (e n : ℕ) → checkpoints_of (suc e) n ≡ n / suc e + 1
of_some e n = by_none (suc e == 0) (n / suc e + 1) (grind (arith, nat_tests))

-- ---- what is at a place of a list with one more

at_front : {A : Type 0} (xs : List A) (x : A) (k : ℕ) → k < length xs → slice_get (xs ++ x ∷ []) k ≡ slice_get xs k
at_front [] x k lt = absurd (omega (arith, lt))
at_front (y ∷ ys) x zero lt = refl
at_front (y ∷ ys) x (suc k) lt = at_front ys x k (omega (arith, lt))

at_last : {A : Type 0} (xs : List A) (x : A) → slice_get (xs ++ x ∷ []) (length xs) ≡ Some x
at_last [] x = refl
at_last (y ∷ ys) x = at_last ys x

one_longer : {A : Type 0} (xs : List A) (x : A) → length (xs ++ x ∷ []) ≡ suc (length xs)
one_longer [] x = refl
one_longer (y ∷ ys) x = ap suc (one_longer ys x)

-- ---- some more rounds

abbrev later_with : Bool → List Running → Running → List Running
later_with due later now = later ++ (if due then now ∷ [] else [])

pub checkpoints_first : (every : ℕ) (start : Running) → AreCheckpoints every 0 start []
checkpoints_first every start = record { count = counted every; each = λ k lt. absurd (omega (arith, lt)) }
  where
    counted : (e : ℕ) → 1 ≡ checkpoints_of e 0
    counted zero = refl
    counted (suc e) = omega (arith, of_some e 0)

checkpoints_as_before : (every n k : ℕ) (start now : Running) (later : List Running) → checkpoints_of every k ≡ checkpoints_of every n → AreCheckpoints every n start later → AreCheckpoints every k start (later_with false later now)
checkpoints_as_before every n k start now later same before =
    subst (AreCheckpoints every k start) (sym (append-nil later)) (record { count = before.count ∙ sym same; each = before.each })

checkpoints_with_now : (every n k : ℕ) (start now : Running) (later : List Running) → checkpoints_of every k ≡ suc (checkpoints_of every n) → suc (length later) * every ≡ k → now ≡ after_rounds k start →
    AreCheckpoints every n start later → AreCheckpoints every k start (later_with true later now)
checkpoints_with_now every n k start now later more place there before = record {
  count = ap suc (one_longer later now) ∙ ap suc before.count ∙ sym more;
  each = by_place;
}
  where
    last : slice_get (later ++ now ∷ []) (length later) ≡ Some (after_rounds (suc (length later) * every) start)
    last = at_last later now ∙ ap (λ (m : Running). Some m) there ∙ ap (λ (j : ℕ). Some (after_rounds j start)) (sym place)

    by_place : (j : ℕ) → j < length (later ++ now ∷ []) → slice_get (later ++ now ∷ []) j ≡ Some (after_rounds (suc j * every) start)
    by_place j lt = elim (cases_lt j (length later)) [
      | inl low ↦ at_front later now j low ∙ before.each j low
      | inr high ↦ subst (λ (i : ℕ). slice_get (later ++ now ∷ []) i ≡ Some (after_rounds (suc i * every) start)) (omega (arith, high, lt, one_longer later now)) last
    ]

by_due : (e n k : ℕ) (start now : Running) (later : List Running) (due : Bool) → (k % suc e == 0) ≡ due → n % suc e ≡ 0 → n < k → k ≤ n + suc e → now ≡ after_rounds k start →
    AreCheckpoints (suc e) n start later → AreCheckpoints (suc e) k start (later_with due later now)
by_due e n k start now later true is at some few there before =
    let due : k % suc e ≡ 0 = grind (arith, nat_tests, is) in
    let more : k / suc e ≡ n / suc e + 1 = one_due (suc e) n k (omega arith) at some few due in
    let same : suc (length later) ≡ k / suc e = omega (arith, more, before.count, of_some e n) in
    let place : suc (length later) * suc e ≡ k = ap (λ (j : ℕ). j * suc e) same ∙ omega (arith, due) in
    checkpoints_with_now (suc e) n k start now later (omega (arith, more, of_some e n, of_some e k)) place there before
by_due e n k start now later false is at some few there before =
    let due : 0 < k % suc e = grind (arith, nat_tests, is) in
    checkpoints_as_before (suc e) n k start now later (omega (arith, none_due (suc e) n k (omega arith) at some few due, of_some e n, of_some e k)) before

by_test_alone : (b c : Bool) → b ≡ false → (not b && c) ≡ c
by_test_alone b c e = rw e refl

due_of_some : (e n : ℕ) → is_due (suc e) n ≡ (n % suc e == 0)
due_of_some e n = by_test_alone (suc e == 0) (n % suc e == 0) (grind (arith, nat_tests))

-- what is kept after some more rounds, to the next multiple at most, after which the machine is `now`
pub checkpoints_next : (every n k : ℕ) (start now : Running) (later : List Running) → IsMultiple every n → 1 ≤ k → (0 < every → k ≤ every) → now ≡ after_rounds (n + k) start →
    AreCheckpoints every n start later → AreCheckpoints every (n + k) start (later ++ (if is_due every (n + k) then now ∷ [] else []))
checkpoints_next zero n k start now later at some few there before = checkpoints_as_before zero n (n + k) start now later refl before
checkpoints_next (suc e) n k start now later at some few there before =
    subst (λ (due : Bool). AreCheckpoints (suc e) (n + k) start (later_with due later now)) (sym (due_of_some e (n + k)))
    (by_due e n (n + k) start now later ((n + k) % suc e == 0) refl at (omega (arith, some)) (omega (arith, few (omega arith))) there before)

-- ---- what is found of them

if_low : (b : Bool) (m : Running) → b ≡ true → (if b then Some m else None) ≡ Some m
if_low b m e = rw e refl

if_high : (b : Bool) (m : Running) → b ≡ false → (if b then Some m else None) ≡ None
if_high b m e = rw e refl

is_low : (k n : ℕ) → k < n → nat_lt k n ≡ true
is_low k n lt = grind (arith, nat_tests, lt)

is_high : (k n : ℕ) → n ≤ k → nat_lt k n ≡ false
is_high k n le = grind (arith, nat_tests, le)

abbrev some : Running → Option Running
some m = Some m

pub found_first : (o : Opened) (later : List Running) → AreCheckpoints o.every o.rounds o.start later → checkpoint_machine o 0 ≡ Some o.start
found_first o later are =
    let none : 0 * o.every ≡ 0 = omega arith in
    if_low (nat_lt 0 (checkpoints_of o.every o.rounds)) (after_rounds (0 * o.every) o.start) (is_low 0 (checkpoints_of o.every o.rounds) (omega (arith, are.count)))
    ∙ ap (λ (k : ℕ). Some (after_rounds k o.start)) none
    ∙ ap (λ (m : Running). Some m) (sym (no_rounds o.start))

pub found_later : (o : Opened) (later : List Running) (k : ℕ) (m : Running) → AreCheckpoints o.every o.rounds o.start later → 1 ≤ k → slice_get later (k - 1) ≡ Some m → checkpoint_machine o k ≡ Some m
found_later o later zero m are some at = absurd (omega (arith, some))
found_later o later (suc k) m are some at =
    let less : suc k - 1 ≡ k = omega arith in
    let here : slice_get later k ≡ Some m = subst (λ (i : ℕ). slice_get later i ≡ Some m) less at in
    let low : k < length later = slice_get_within later k m here in
    if_low (nat_lt (suc k) (checkpoints_of o.every o.rounds)) (after_rounds (suc k * o.every) o.start) (is_low (suc k) (checkpoints_of o.every o.rounds) (omega (arith, low, are.count)))
    ∙ sym (are.each k low) ∙ here

pub found_none : (o : Opened) (later : List Running) (k : ℕ) → AreCheckpoints o.every o.rounds o.start later → 1 ≤ k → length later ≤ k - 1 → checkpoint_machine o k ≡ None
found_none o later k are some high =
    if_high (nat_lt k (checkpoints_of o.every o.rounds)) (after_rounds (k * o.every) o.start) (is_high k (checkpoints_of o.every o.rounds) (omega (arith, high, some, are.count)))

by_test : (b : Bool) (x m : Running) → (if b then Some x else None) ≡ Some m → m ≡ x
by_test true x m e = cc
by_test false x m e = absurd cc

-- the machine that is found
pub found_is : (o : Opened) (k : ℕ) (m : Running) → checkpoint_machine o k ≡ Some m → m ≡ after_rounds (k * o.every) o.start
found_is o k m e = by_test (nat_lt k (checkpoints_of o.every o.rounds)) (after_rounds (k * o.every) o.start) m e

no_none : (m : Running) → some m ≡ None → ⊥
no_none m e = absurd cc

pub is_found : (o : Opened) (k : ℕ) → k < checkpoints_of o.every o.rounds → checkpoint_machine o k ≡ None → ⊥
is_found o k low e =
    no_none (after_rounds (k * o.every) o.start) (sym (if_low (nat_lt k (checkpoints_of o.every o.rounds)) (after_rounds (k * o.every) o.start) (is_low k (checkpoints_of o.every o.rounds) low)) ∙ e)

-- ---- which one is the last before a round

-- after the rounds that are left, a copy of it is the machine after as many rounds as are wanted
pub going_on : (o : Opened) (k left rounds every : ℕ) (m copy : Running) → every ≡ o.every → k * every + left ≡ rounds → checkpoint_machine o k ≡ Some m → copy ≡ m → after_rounds left copy ≡ after_rounds rounds o.start
going_on o k left rounds every m copy same sum at e =
    let whole : k * o.every + left ≡ rounds = subst (λ (n : ℕ). k * n + left ≡ rounds) same sum in
    ap (after_rounds left) (e ∙ found_is o k m at) ∙ more_rounds (k * o.every) left o.start ∙ ap (λ (n : ℕ). after_rounds n o.start) whole

pub going_counted : (o : Opened) (k left rounds every : ℕ) (m copy : Running) → every ≡ o.every → k * every + left ≡ rounds → checkpoint_machine o k ≡ Some m → copy ≡ m → o.start.state.rounds ≡ 0 → copy.state.rounds + left ≡ rounds
going_counted o k left rounds every m copy same sum at e none =
    let whole : k * o.every + left ≡ rounds = subst (λ (n : ℕ). k * n + left ≡ rounds) same sum in
    omega (arith, whole, none, ap (λ (r : Running). r.state.rounds) (e ∙ found_is o k m at), rounds_after (k * o.every) o.start)
