-- The stores of a hart's round lie in memory and touch no code, and so does each byte of its buffer.
use Rattle.std.proofs.Common.{◌≡◌, ℕ, zero, suc, ◌+◌, ◌/◌, ◌%◌, ◌^◌, ◌≤◌, ◌==◌, ◌||◌, Bool, true, false, cond, List, [], ◌∷◌, ◌++◌, length, Some, None, is_some, refl, sym, ap, ◌∙◌, subst, arith}
use Rattle.std.proofs.lemmas.Bool.Decides.{nat_tests}
use Rattle.std.specs.Prelude.{nat_lt, nat_le}
use Rattle.pages.specs.declared.access.Fault.TheVariants.{StoreToCode, StoreOutside, StoreMisaligned}
use Rattle.pages.specs.declared.access.Range.{Range}
use Rattle.pages.specs.declared.access.Store.{Store}
use Rattle.pages.specs.declared.access.Width.{Width}
use Rattle.pages.specs.declared.access.Width.TheVariants.{W1}
use Rattle.pages.specs.Memory.{Memory, store_fault, stored, after, is_code, any_code, width_bytes}
use Rattle.pages.proofs.StoreLaws.{length-after}
use Rattle.round_schedule.specs.declared.access.Stepped.{Stepped}
use Rattle.round_schedule.specs.declared.access.Stepped.TheVariants.{Done, Waits, Stopped}
use Rattle.round_schedule.specs.Schedule.{StepOutcome, Progress, HartRound, round_from, by_answer, next_of, went, began}
use Rattle.store_buffer.specs.Covered.{with_byte, with_bytes, with_store, with_stores}
use Rattle.hart_step.specs.declared.hart.Hart.{Hart}
use Rattle.hart_step.specs.Step.{stepped}
use Rattle.hart_step.specs.Words.{words_of}
use Rattle.serial_phase.proofs.PlainSteps.{Quiet, none, one, good_step}
use Rattle.guest_rounds.specs.HartEnds.{AllFit}

-- the stores have no fault
abbrev pub FitStores : Memory → List Store → Type 0
FitStores m [] = Unit {0}
FitStores m (s ∷ ss) = (store_fault m s.address s.width ≡ None) × FitStores m ss

fit-append : (m : Memory) (ss ts : List Store) → FitStores m ss → FitStores m ts → FitStores m (ss ++ ts)
fit-append m [] ts f g = g
fit-append m (s ∷ ss) ts f g = (f.0, fit-append m ss ts f.1 g)

-- a store's fault depends on how long memory is, and on its code
pub same_fault : (m n : Memory) (a : ℕ) (w : Width) → length n.bytes ≡ length m.bytes → n.code ≡ m.code → store_fault n a w ≡ store_fault m a w
unfolding store_fault
same_fault m n a w e f =
    ap (λ (k : ℕ). cond (a % width_bytes w == 0) (cond (nat_le (a + width_bytes w) k) (cond (any_code n.code a (width_bytes w)) (Some StoreToCode) None) (Some StoreOutside)) (Some StoreMisaligned)) e
    ∙ ap (λ (rs : List Range). cond (a % width_bytes w == 0) (cond (nat_le (a + width_bytes w) (length m.bytes)) (cond (any_code rs a (width_bytes w)) (Some StoreToCode) None) (Some StoreOutside)) (Some StoreMisaligned)) f

quiet_fits : (m n : Memory) (o : StepOutcome Hart) → length n.bytes ≡ length m.bytes → n.code ≡ m.code → Quiet n o → FitStores m o.stores
quiet_fits m n o e f (none g) = subst (FitStores m) (sym g) tt
quiet_fits m n o e f (one s g h) = subst (FitStores m) (sym g) (sym (same_fault m n s.address s.width e f) ∙ h, tt)

step_fits : (m : Memory) (ss : List Store) (h : Hart) → FitStores m ((words_of m.code).step h (after m.bytes ss)).stores
step_fits m ss h = quiet_fits m (stored m ss) (stepped h (stored m ss)) (length-after m.bytes ss) refl (good_step (stored m ss) h).quiet

answered : (m : Memory) (p : Progress Hart) (f : Progress Hart → HartRound Hart) (y : Stepped) →
    ((q : Progress Hart) → FitStores m q.stores → FitStores m (f q).last.stores) → FitStores m p.stores →
    FitStores m (by_answer y p (next_of (words_of m.code) m.bytes p) f).last.stores
answered m p f (Done a) rest fit = rest (went p (next_of (words_of m.code) m.bytes p) a) (fit-append m p.stores _ fit (step_fits m p.stores p.hart))
answered m p f Waits rest fit = fit
answered m p f (Stopped code) rest fit = fit

either : (m : Memory) (b : Bool) (r s : HartRound Hart) → FitStores m r.last.stores → FitStores m s.last.stores → FitStores m (cond b r s).last.stores
either m true r s f g = f
either m false r s f g = g

pub round_fits : (m : Memory) (n : ℕ) (p : Progress Hart) → FitStores m p.stores → FitStores m (round_from (words_of m.code) m.bytes n p).last.stores
unfolding round_from
round_fits m zero p fit = fit
round_fits m (suc n) p fit = either m (is_some p.hart.stop) _ _ fit (answered m p (round_from (words_of m.code) m.bytes n) (next_of (words_of m.code) m.bytes p).answer (round_fits m n) fit)

-- ---- bytes

abbrev FitsAt : Memory → ℕ → Type 0
FitsAt m x = store_fault m x W1 ≡ None

abbrev FitBytes : Memory → List (ℕ × ℕ) → Type 0
FitBytes m [] = Unit {0}
FitBytes m (e ∷ es) = FitsAt m e.0 × FitBytes m es

by_tests : (m : Memory) (b c : Bool) (x y z : List (ℕ × ℕ)) → FitBytes m x → FitBytes m y → FitBytes m z → FitBytes m (cond b x (cond c y z))
by_tests m true c x y z f g h = f
by_tests m false true x y z f g h = g
by_tests m false false x y z f g h = h

fit_byte : (m : Memory) (es : List (ℕ × ℕ)) (a b : ℕ) → FitsAt m a → FitBytes m es → FitBytes m (with_byte es a b)
fit_byte m [] a b f g = (f, tt)
fit_byte m (e ∷ es) a b f g = by_tests m (nat_lt a e.0) (a == e.0) _ _ _ (f, g) (f, g.1) (g.0, fit_byte m es a b f g.1)

at_byte : (len a : ℕ) (c : Bool) → a + 1 ≤ len → c ≡ false → cond (a % 1 == 0) (cond (nat_le (a + 1) len) (cond (c || false) (Some StoreToCode) None) (Some StoreOutside)) (Some StoreMisaligned) ≡ None
at_byte len a c low e = grind (arith, nat_tests)

fits_at : (m : Memory) (a : ℕ) → a + 1 ≤ length m.bytes → is_code m.code a ≡ false → FitsAt m a
unfolding store_fault
fits_at m a low e = at_byte (length m.bytes) a (is_code m.code a) low e

or_false : (a b : Bool) → (a || b) ≡ false → (a ≡ false) × (b ≡ false)
or_false true b e = (e, cc)
or_false false b e = (refl, e)

fit_bytes : (m : Memory) (n : ℕ) (es : List (ℕ × ℕ)) (a v : ℕ) → a + n ≤ length m.bytes → any_code m.code a n ≡ false → FitBytes m es → FitBytes m (with_bytes es a v n)
fit_bytes m zero es a v low e f = f
fit_bytes m (suc n) es a v low e f =
    let p = or_false (is_code m.code a) (any_code m.code (a + 1) n) e in
    fit_bytes m n (with_byte es a (v % 2 ^ 8)) (a + 1) (v / 2 ^ 8) (omega arith) p.1 (fit_byte m es a (v % 2 ^ 8) (fits_at m a (omega arith) p.0) f)

in_memory : (m : Memory) (a : ℕ) (w : Width) → store_fault m a w ≡ None → a + width_bytes w ≤ length m.bytes
unfolding store_fault
in_memory m a w ok = grind (arith, nat_tests)

pub no_code : (m : Memory) (a : ℕ) (w : Width) → store_fault m a w ≡ None → any_code m.code a (width_bytes w) ≡ false
unfolding store_fault
no_code m a w ok = grind (arith, nat_tests)

fit_store : (m : Memory) (es : List (ℕ × ℕ)) (s : Store) → store_fault m s.address s.width ≡ None → FitBytes m es → FitBytes m (with_store es s)
unfolding with_store
fit_store m es s ok f = fit_bytes m (width_bytes s.width) es s.address s.value (in_memory m s.address s.width ok) (no_code m s.address s.width ok) f

fit_stores : (m : Memory) (es : List (ℕ × ℕ)) (ss : List Store) → FitStores m ss → FitBytes m es → FitBytes m (with_stores es ss)
fit_stores m es [] g f = f
fit_stores m es (s ∷ ss) g f = fit_stores m (with_store es s) ss g.1 (fit_store m es s g.0 f)

all_of : (m : Memory) (es : List (ℕ × ℕ)) → FitBytes m es → AllFit m es
all_of m [] f k d low = absurd (omega arith)
all_of m (e ∷ es) f zero d low = f.0
all_of m (e ∷ es) f (suc k) d low = all_of m es f.1 k d (omega arith)

-- each byte of the buffer of a hart's round is a byte of memory that is not code
pub buffer_fits : (m : Memory) (quota : ℕ) (h : Hart) → AllFit m (with_stores [] (round_from (words_of m.code) m.bytes quota (began h)).last.stores)
buffer_fits m quota h = all_of m _ (fit_stores m [] _ (round_fits m quota (began h) tt) tt)
