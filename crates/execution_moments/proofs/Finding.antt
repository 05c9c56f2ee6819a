-- The first time from one on at which something is told, and the last one back from one; and where nothing is told.
use Rattle.std.proofs.Common.{◌≡◌, ℕ, suc, ◌+◌, ◌-◌, ◌<◌, true, false, is_some, List, Option, Some, None, refl, sym, ap, ◌∙◌, arith}
use Rattle.round_schedule.specs.declared.event.Event.{Event}
use Rattle.round_schedule.specs.Accesses.{address_of, bytes_of}
use Rattle.round_schedule.specs.Positions.{event}
use Rattle.watching.specs.declared.watchpoint.Watchpoint.{Watchpoint}
use Rattle.watching.specs.Events.{told_alone}
use Rattle.execution_moments.specs.declared.told.Told.{Told}
use Rattle.execution_moments.specs.Looked.{Looked, bytes_shown}
use Rattle.execution_moments.specs.Told.{first_told, last_told, or_next, watch_of}

some_first : (o y : Option Told) → is_some o ≡ true → or_next o y ≡ o
some_first None y e = absurd cc
some_first (Some x) y e = refl

none_next : (o y : Option Told) → is_some o ≡ false → or_next o y ≡ y
none_next None y e = refl
none_next (Some x) y e = absurd cc

first_step : (f : ℕ → Option Told) (a n : ℕ) → a < n → first_told f a (n - a) ≡ or_next (f a) (first_told f (a + 1) (n - (a + 1)))
first_step f a n l = let e : n - a ≡ suc (n - (a + 1)) = omega arith in ap (first_told f a) e

-- it is what is told at a, where something is
pub told_first : (f : ℕ → Option Told) (a n : ℕ) (o answer : Option Told) → answer ≡ first_told f a (n - a) → a < n → o ≡ f a → is_some o ≡ true → o ≡ answer
told_first f a n o answer e l is some =
    sym (e ∙ first_step f a n l ∙ ap (λ (x : Option Told). or_next x (first_told f (a + 1) (n - (a + 1)))) (sym is) ∙ some_first o (first_told f (a + 1) (n - (a + 1))) some)

-- and else the first from a + 1 on
pub told_later : (f : ℕ → Option Told) (a n : ℕ) (o answer : Option Told) → answer ≡ first_told f a (n - a) → a < n → o ≡ f a → is_some o ≡ false → answer ≡ first_told f (a + 1) (n - (a + 1))
told_later f a n o answer e l is none =
    e ∙ first_step f a n l ∙ ap (λ (x : Option Told). or_next x (first_told f (a + 1) (n - (a + 1)))) (sym is) ∙ none_next o (first_told f (a + 1) (n - (a + 1))) none

last_step : (f : ℕ → Option Told) (n : ℕ) → 0 < n → last_told f n ≡ or_next (f n) (last_told f (n - 1))
last_step f n l =
    let e : n ≡ suc (n - 1) = omega arith in
    ap (last_told f) e ∙ ap (λ (k : ℕ). or_next (f k) (last_told f (n - 1))) (sym e)

pub told_last : (f : ℕ → Option Told) (n : ℕ) (o answer : Option Told) → answer ≡ last_told f n → 0 < n → o ≡ f n → is_some o ≡ true → o ≡ answer
told_last f n o answer e l is some =
    sym (e ∙ last_step f n l ∙ ap (λ (x : Option Told). or_next x (last_told f (n - 1))) (sym is) ∙ some_first o (last_told f (n - 1)) some)

pub told_before : (f : ℕ → Option Told) (n : ℕ) (o answer : Option Told) → answer ≡ last_told f n → 0 < n → o ≡ f n → is_some o ≡ false → answer ≡ last_told f (n - 1)
told_before f n o answer e l is none =
    e ∙ last_step f n l ∙ ap (λ (x : Option Told). or_next x (last_told f (n - 1))) (sym is) ∙ none_next o (last_told f (n - 1)) none

-- no watchpoint tells of an instruction whose event touches no watched byte
pub untouched : (r : Looked) (ws : List Watchpoint) (time h k : ℕ) (index : Option ℕ) (e : Event) → index ≡ Some k → e ≡ event r.events k → ((bytes : List ℕ) → told_alone ws e bytes ≡ None) →
    None ≡ watch_of r ws time h index
untouched r ws time h k index e is there none =
    sym (ap (watch_of r ws time h) is
    ∙ ap (λ (x : Event). told_alone ws x (bytes_shown r time h (address_of x.access) (bytes_of x.access))) (sym there)
    ∙ none (bytes_shown r time h (address_of e.access) (bytes_of e.access)))

-- the first watchpoint that tells of it, where it does
pub told_there : (r : Looked) (ws : List Watchpoint) (time h k : ℕ) (index : Option ℕ) (e : Event) (a n : ℕ) (bs : List ℕ) → index ≡ Some k → e ≡ event r.events k → a ≡ address_of e.access →
    n ≡ bytes_of e.access → bs ≡ bytes_shown r time h a n → told_alone ws e bs ≡ watch_of r ws time h index
told_there r ws time h k index e a n bs is there at few shown =
    ap (told_alone ws e) (shown ∙ ap (λ (x : ℕ). bytes_shown r time h x n) at ∙ ap (bytes_shown r time h (address_of e.access)) few)
    ∙ ap (λ (x : Event). told_alone ws x (bytes_shown r time h (address_of x.access) (bytes_of x.access))) there
    ∙ sym (ap (watch_of r ws time h) is)
