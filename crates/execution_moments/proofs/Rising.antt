-- In each hart times don't fall.
use Rattle.std.proofs.Common.{◌≡◌, ℕ, zero, suc, ◌+◌, ◌-◌, ◌<◌, ◌≤◌, max, min, Bool, true, false, if◌then◌else◌, List, MatchOption, Option, Some, length, subst, refl, ap, arith, ◌∙◌, add-zero}
use Rattle.round_schedule.specs.declared.event.Event.{Event}
use Rattle.round_schedule.specs.Positions.{event}
use Rattle.execution_moments.specs.Times.{AreTimesBy, is_load_of, is_operation_of, later_of, latest_load, sooner_of, soonest_operation, time_of}

pub at_some : {A : Type 0} (o : Option A) (P : Type 0) (Q : A → Type 0) (a : A) → o ≡ Some a → MatchOption o P Q → Q a
at_some o P Q a e h = subst (λ x. MatchOption x P Q) e h

-- ---- by one event

later_by : (b : Bool) (x p : ℕ) → x ≤ (if b then max x p else x)
later_by true x p = omega arith
later_by false x p = omega arith

later_up : (h : ℕ) (e : Event) (x p : ℕ) → x ≤ later_of h e x p
later_up h e x p = later_by (is_load_of h e) x p

sooner_by : (b : Bool) (x p : ℕ) → (if b then min x p else x) ≤ x
sooner_by true x p = omega arith
sooner_by false x p = omega arith

sooner_down : (h : ℕ) (e : Event) (x p : ℕ) → sooner_of h e x p ≤ x
sooner_down h e x p = sooner_by (is_operation_of h e) x p

-- ---- by several

latest_up : (t : List Event) (pos : ℕ → ℕ) (h i d : ℕ) → latest_load t pos h i ≤ latest_load t pos h (i + d)
latest_up t pos h i zero = omega (arith, ap (λ (k : ℕ). latest_load t pos h k) (add-zero i))
latest_up t pos h i (suc d) =
    let so_far = latest_up t pos h i d in
    let one = later_up h (event t (i + d)) (latest_load t pos h (i + d)) (pos (i + d)) in
    let e : i + suc d ≡ suc (i + d) = omega arith in
    omega (arith, so_far, one, ap (λ (k : ℕ). latest_load t pos h k) e)

soonest_up : (t : List Event) (pos : ℕ → ℕ) (end h k d n : ℕ) → soonest_operation t pos end h k (d + n) ≤ soonest_operation t pos end h (k + d) n
soonest_up t pos end h k zero n =
    let none : 0 + n ≡ n = omega arith in
    omega (arith, ap (λ (m : ℕ). soonest_operation t pos end h k m) none, ap (λ (j : ℕ). soonest_operation t pos end h j n) (add-zero k))
soonest_up t pos end h k (suc d) n =
    let rest = soonest_up t pos end h (k + 1) d n in
    let one = sooner_down h (event t k) (soonest_operation t pos end h (k + 1) (d + n)) (pos k) in
    let e : k + 1 + d ≡ k + suc d = omega arith in
    let more : suc d + n ≡ suc (d + n) = omega arith in
    omega (arith, rest, one, ap (λ (m : ℕ). soonest_operation t pos end h k m) more, ap (λ (j : ℕ). soonest_operation t pos end h j n) e)

-- the later of two instructions of one hart has no earlier time
pub time_up : (t : List Event) (pos : ℕ → ℕ) (end a b : ℕ) → a ≤ b → b < length t → (event t a).hart ≡ (event t b).hart → time_of t pos end a ≤ time_of t pos end b
time_up t pos end a b up l same =
    let h = (event t a).hart in
    let loads = latest_up t pos h (suc a) (b - a) in
    let to_b : suc a + (b - a) ≡ suc b = omega arith in
    let operations = soonest_up t pos end h a (b - a) (length t - b) in
    let at_b : a + (b - a) ≡ b = omega arith in
    let all : b - a + (length t - b) ≡ length t - a = omega arith in
    let latest = ap (λ (k : ℕ). latest_load t pos h k) to_b in
    let latest_of = ap (λ (g : ℕ). latest_load t pos g (suc b)) same in
    let soonest = ap (λ (k : ℕ). soonest_operation t pos end h k (length t - b)) at_b in
    let soonest_of = ap (λ (g : ℕ). soonest_operation t pos end g b (length t - b)) same in
    let whole = ap (λ (n : ℕ). soonest_operation t pos end h a n) all in
    both (latest_load t pos h (suc a)) (soonest_operation t pos end h a (length t - a)) (latest_load t pos (event t b).hart (suc b))
    (soonest_operation t pos end (event t b).hart b (length t - b)) (omega (arith, loads, latest, latest_of)) (omega (arith, operations, soonest, soonest_of, whole))
  where
    both : (x y u v : ℕ) → x ≤ u → y ≤ v → max x y ≤ max u v
    both x y u v l m = omega arith

-- ---- times by positions that are the same

latest_same : (t : List Event) (pos others : ℕ → ℕ) (h k : ℕ) → ((i : ℕ) → i < k → pos i ≡ others i) → latest_load t pos h k ≡ latest_load t others h k
latest_same t pos others h zero same = refl
latest_same t pos others h (suc k) same =
    ap (λ (x : ℕ). later_of h (event t k) x (pos k)) (latest_same t pos others h k (λ i l. same i (omega (arith, l))))
    ∙ ap (λ (p : ℕ). later_of h (event t k) (latest_load t others h k) p) (same k (omega arith))

soonest_same : (t : List Event) (pos others : ℕ → ℕ) (end h k n : ℕ) → ((i : ℕ) → i < k + n → pos i ≡ others i) → soonest_operation t pos end h k n ≡ soonest_operation t others end h k n
soonest_same t pos others end h k zero same = refl
soonest_same t pos others end h k (suc n) same =
    ap (λ (x : ℕ). sooner_of h (event t k) x (pos k)) (soonest_same t pos others end h (k + 1) n (λ i l. same i (omega (arith, l))))
    ∙ ap (λ (p : ℕ). sooner_of h (event t k) (soonest_operation t others end h (k + 1) n) p) (same k (omega arith))

pub times_same : (t : List Event) (pos others : ℕ → ℕ) (end : ℕ) (v : List ℕ) → ((i : ℕ) → i < length t → pos i ≡ others i) → AreTimesBy t pos end v → AreTimesBy t others end v
times_same t pos others end v same x = record {
  count = x.count;
  each = λ k l.
      let h = (event t k).hart in
      x.each k l
      ∙ ap (λ (m : ℕ). max m (soonest_operation t pos end h k (length t - k))) (latest_same t pos others h (suc k) (λ i m. same i (omega (arith, m, l))))
      ∙ ap (λ (m : ℕ). max (latest_load t others h (suc k)) m) (soonest_same t pos others end h k (length t - k) (λ i m. same i (omega (arith, m, l))));
}
