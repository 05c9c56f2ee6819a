-- Each access that an instruction leaves has its form.
use Rattle.std.proofs.Common.{◌≡◌, ℕ, ◌+◌, ◌%◌, ◌^◌, ◌<◌, ◌≤◌, ◌==◌, Bool, true, false, if◌then◌else◌, List, length, Option, Some, None, Result, Ok, Err, refl, subst, arith}
use Rattle.std.proofs.Math.Nat.{mod-lt}
use Rattle.std.proofs.lemmas.Nat.{and_le_l, or_lt, pow_pos, xor_lt}
use Rattle.pages.specs.declared.access.Fault.{Fault}
use Rattle.pages.specs.declared.access.Width.{Width}
use Rattle.pages.specs.declared.access.Width.TheVariants.{W1, W2, W4, W8}
use Rattle.pages.specs.Memory.{IsBytes, Memory, value_at, width_bytes, loaded, store_fault, fetched}
use Rattle.pages.proofs.Accesses.{store_accepted}
use Rattle.round_schedule.specs.declared.access.Access.{Access}
use Rattle.round_schedule.specs.declared.access.Stepped.{Stepped}
use Rattle.round_schedule.specs.declared.access.Stepped.TheVariants.{Done}
use Rattle.round_schedule.specs.declared.span.Span.{Span}
use Rattle.round_schedule.specs.Accesses.{is_full_fence}
use Rattle.round_schedule.specs.Schedule.{StepOutcome, SerialOutcome}
use Rattle.rv64_decode.specs.declared.instruction.Instr.{Instr}
use Rattle.rv64_decode.specs.declared.instruction.Instr.TheVariants.{AmoswapW, AmoaddW, AmoxorW, AmoandW, AmoorW, AmominW, AmomaxW, AmominuW, AmomaxuW, AmoswapD, AmoaddD, AmoxorD, AmoandD, AmoorD, AmominD, AmomaxD, AmominuD, AmomaxuD, LrW, LrD, ScW, ScD}
use Rattle.rv64_decode.specs.declared.ordering.AcquireRelease.{AcquireRelease}
use Rattle.hart_step.specs.declared.hart.Hart.{Hart}
use Rattle.hart_step.specs.Amo.{amo_swap, amo_add, amo_xor, amo_and, amo_or, amo_min, amo_max, amo_minu, amo_maxu}
use Rattle.hart_step.specs.Console.{ConsoleState}
use Rattle.hart_step.specs.Effect.{Action, Put, Jump, Branch, Read, Write, Order, Halt, Reserve, Conditional, Exchange, Call, action}
use Rattle.hart_step.specs.Forms.{is_atomic_width, LiesAt, Fills, Formed}
use Rattle.hart_step.specs.Laws.{HasForms}
use Rattle.hart_step.specs.Numbers.{low, sx, below_signed}
use Rattle.hart_step.specs.Registers.{reg}
use Rattle.hart_step.specs.SerialStep.{reserved_by, is_reserved, conditional_by, exchanged_by, served, serial_stepped}
use Rattle.hart_step.specs.Step.{cut, performed, stepped, read_by, written_by}
use Rattle.hart_step.proofs.Bytes.{loaded_within, loaded_aligned, value_fits}
use Rattle.hart_step.proofs.ByWord.{of_test, of_word}

-- what holds of the access that an answer has
abbrev OnAccess : (Access → Type 0) → Stepped → Type 0
OnAccess P (Done (Some a)) = P a
OnAccess P _ = Unit {0}

cut_fits : (w : Width) (v : ℕ) → Fills w (cut w v)
cut_fits W1 v = omega arith
cut_fits W2 v = omega arith
cut_fits W4 v = omega arith
cut_fits W8 v = omega arith

low_fits : (n v : ℕ) → low n v < 2 ^ n
low_fits n v = mod-lt v (pow_pos n)

abbrev Below : ℕ → (ℕ → ℕ → ℕ → ℕ) → Type 0
Below n f = (o b : ℕ) → f n o b < 2 ^ n

picked : (n : ℕ) (t : Bool) (a b : ℕ) → a < 2 ^ n → b < 2 ^ n → (if t then a else b) < 2 ^ n
picked n t a b p q = of_test (λ (v : ℕ). v < 2 ^ n) t a b p q

swap_fits : (n : ℕ) → Below n amo_swap
swap_fits n o b = low_fits n b

add_fits : (n : ℕ) → Below n amo_add
add_fits n o b = low_fits n _

xor_fits : (n : ℕ) → Below n amo_xor
xor_fits n o b = xor_lt n _ _ (low_fits n o) (low_fits n b)

or_fits : (n : ℕ) → Below n amo_or
or_fits n o b = or_lt n _ _ (low_fits n o) (low_fits n b)

and_fits : (n : ℕ) → Below n amo_and
and_fits n o b = omega (arith, and_le_l (low n o) (low n b), low_fits n o)

min_fits : (n : ℕ) → Below n amo_min
min_fits n o b = picked n (below_signed (sx n o) (sx n b)) _ _ (low_fits n o) (low_fits n b)

max_fits : (n : ℕ) → Below n amo_max
max_fits n o b = picked n (below_signed (sx n o) (sx n b)) _ _ (low_fits n b) (low_fits n o)

minu_fits : (n : ℕ) → Below n amo_minu
minu_fits n o b = omega (arith, low_fits n o)

maxu_fits : (n : ℕ) → Below n amo_maxu
maxu_fits n o b = omega (arith, low_fits n o, low_fits n b)

-- the widths of the atomic actions, and the new values of an exchange
abbrev ActionFormed : Action → Type 0
ActionFormed (Reserve rd a w ordering) = is_atomic_width w ≡ true
ActionFormed (Conditional rd a w v ordering) = is_atomic_width w ≡ true
ActionFormed (Exchange rd a w f ordering) = (is_atomic_width w ≡ true) × ((o : ℕ) → Fills w (f o))
ActionFormed _ = Unit {0}

action_formed : (i : Instr) (x : List ℕ) (pc : ℕ) → ActionFormed (action i x pc)
action_formed (LrW rd rs1 ordering) x pc = refl
action_formed (LrD rd rs1 ordering) x pc = refl
action_formed (ScW rd rs1 rs2 ordering) x pc = refl
action_formed (ScD rd rs1 rs2 ordering) x pc = refl
action_formed (AmoswapW rd rs1 rs2 ordering) x pc = (refl, λ o. swap_fits 32 o (reg x rs2))
action_formed (AmoaddW rd rs1 rs2 ordering) x pc = (refl, λ o. add_fits 32 o (reg x rs2))
action_formed (AmoxorW rd rs1 rs2 ordering) x pc = (refl, λ o. xor_fits 32 o (reg x rs2))
action_formed (AmoandW rd rs1 rs2 ordering) x pc = (refl, λ o. and_fits 32 o (reg x rs2))
action_formed (AmoorW rd rs1 rs2 ordering) x pc = (refl, λ o. or_fits 32 o (reg x rs2))
action_formed (AmominW rd rs1 rs2 ordering) x pc = (refl, λ o. min_fits 32 o (reg x rs2))
action_formed (AmomaxW rd rs1 rs2 ordering) x pc = (refl, λ o. max_fits 32 o (reg x rs2))
action_formed (AmominuW rd rs1 rs2 ordering) x pc = (refl, λ o. minu_fits 32 o (reg x rs2))
action_formed (AmomaxuW rd rs1 rs2 ordering) x pc = (refl, λ o. maxu_fits 32 o (reg x rs2))
action_formed (AmoswapD rd rs1 rs2 ordering) x pc = (refl, λ o. swap_fits 64 o (reg x rs2))
action_formed (AmoaddD rd rs1 rs2 ordering) x pc = (refl, λ o. add_fits 64 o (reg x rs2))
action_formed (AmoxorD rd rs1 rs2 ordering) x pc = (refl, λ o. xor_fits 64 o (reg x rs2))
action_formed (AmoandD rd rs1 rs2 ordering) x pc = (refl, λ o. and_fits 64 o (reg x rs2))
action_formed (AmoorD rd rs1 rs2 ordering) x pc = (refl, λ o. or_fits 64 o (reg x rs2))
action_formed (AmominD rd rs1 rs2 ordering) x pc = (refl, λ o. min_fits 64 o (reg x rs2))
action_formed (AmomaxD rd rs1 rs2 ordering) x pc = (refl, λ o. max_fits 64 o (reg x rs2))
action_formed (AmominuD rd rs1 rs2 ordering) x pc = (refl, λ o. minu_fits 64 o (reg x rs2))
action_formed (AmomaxuD rd rs1 rs2 ordering) x pc = (refl, λ o. maxu_fits 64 o (reg x rs2))
action_formed _ x pc = tt

-- ---- the outcomes

abbrev Has : ℕ → StepOutcome Hart → Type 0
Has limit o = OnAccess (Formed limit) o.answer

below_limit : (a n limit : ℕ) → 1 ≤ n → a + n ≤ limit → a < limit
below_limit a n limit p q = omega arith

one_byte : (w : Width) → 1 ≤ width_bytes w
one_byte W1 = omega arith
one_byte W2 = omega arith
one_byte W4 = omega arith
one_byte W8 = omega arith

lies_loaded : (m : Memory) (a : ℕ) (w : Width) (v : ℕ) → loaded m a w ≡ Ok v → LiesAt (length m.bytes) w a
lies_loaded m a w v e = (loaded_aligned m a w v e, below_limit a (width_bytes w) (length m.bytes) (one_byte w) (loaded_within m a w v e).0)

lies_stored : (m : Memory) (a : ℕ) (w : Width) → store_fault m a w ≡ None → LiesAt (length m.bytes) w a
lies_stored m a w e = let p = store_accepted m a w e in (p.0, below_limit a (width_bytes w) (length m.bytes) (one_byte w) p.1)

loaded_fits : (m : Memory) (a : ℕ) (w : Width) (v : ℕ) → IsBytes m.bytes → loaded m a w ≡ Ok v → Fills w v
loaded_fits m a w v small e = subst (Fills w) (loaded_within m a w v e).1 (value_fits m.bytes a w small)

module _ (m : Memory) (small : IsBytes m.bytes) where
  read_has : (h : Hart) (rd a : ℕ) (w : Width) (signed : Bool) (r : Result ℕ Fault) → loaded m a w ≡ r → Has (length m.bytes) (read_by h rd a w signed r)
  read_has h rd a w signed (Err f) e = tt
  read_has h rd a w signed (Ok v) e = (lies_loaded m a w v e, loaded_fits m a w v small e)

  written_has : (h : Hart) (a : ℕ) (w : Width) (v : ℕ) (f : Option Fault) → store_fault m a w ≡ f → Has (length m.bytes) (written_by h a w v f)
  written_has h a w v (Some f) e = tt
  written_has h a w v None e = (lies_stored m a w e, cut_fits w v)

  reserved_has : (h : Hart) (rd a : ℕ) (w : Width) (ordering : AcquireRelease) (r : Result ℕ Fault) → is_atomic_width w ≡ true → loaded m a w ≡ r → Has (length m.bytes) (reserved_by h rd a w ordering r)
  reserved_has h rd a w ordering (Err f) t e = tt
  reserved_has h rd a w ordering (Ok v) t e = (t, lies_loaded m a w v e, loaded_fits m a w v small e)

  conditional_has : (h : Hart) (rd a : ℕ) (w : Width) (v : ℕ) (ordering : AcquireRelease) (holds : Bool) (f : Option Fault) → is_atomic_width w ≡ true → store_fault m a w ≡ f → Has (length m.bytes) (conditional_by h rd a w v ordering holds f)
  conditional_has h rd a w v ordering holds (Some f) t e = tt
  conditional_has h rd a w v ordering true None t e = (t, lies_stored m a w e, cut_fits w v)
  conditional_has h rd a w v ordering false None t e = (t, lies_stored m a w e, tt)

  exchanged_has : (h : Hart) (rd a : ℕ) (w : Width) (f : ℕ → ℕ) (ordering : AcquireRelease) (fault : Option Fault) → is_atomic_width w ≡ true → ((o : ℕ) → Fills w (f o)) → store_fault m a w ≡ fault → Has (length m.bytes) (exchanged_by h rd a w f ordering (value_at m.bytes a w) fault)
  exchanged_has h rd a w f ordering (Some fault) t b e = tt
  exchanged_has h rd a w f ordering None t b e = (t, lies_stored m a w e, value_fits m.bytes a w small, b _)

  performed_has : (h : Hart) (a : Action) → Has (length m.bytes) (performed a h m)
  performed_has h (Put rd v) = tt
  performed_has h (Jump rd t) = of_test (Has (length m.bytes)) (t % 4 == 0) _ _ tt tt
  performed_has h (Branch b t) = of_test (Has (length m.bytes)) b _ _ (of_test (Has (length m.bytes)) (t % 4 == 0) _ _ tt tt) tt
  performed_has h (Read rd a w s) = read_has h rd a w s (loaded m a w) refl
  performed_has h (Write a w v) = written_has h a w v (store_fault m a w) refl
  performed_has h (Order before after mode) = of_test (Has (length m.bytes)) (is_full_fence before after mode) _ _ tt tt
  performed_has h (Halt code) = tt
  performed_has h (Reserve rd a w ordering) = tt
  performed_has h (Conditional rd a w v ordering) = tt
  performed_has h (Exchange rd a w f ordering) = tt
  performed_has h Call = tt

  step_has : (h : Hart) → Has (length m.bytes) (stepped h m)
  unfolding stepped
  step_has h = of_word (Has (length m.bytes)) (fetched m h.pc) _ _ _ tt tt (λ i. performed_has h (action i h.x h.pc))

  served_has : (n : ℕ) (h : Hart) (c : ConsoleState) (r : Option Span) (a : Action) → ActionFormed a → OnAccess (Formed (length m.bytes)) (served a n h m c r).answer
  served_has n h c r (Order before after mode) f = tt
  served_has n h c r (Reserve rd a w ordering) f = reserved_has h rd a w ordering (loaded m a w) f refl
  served_has n h c r (Conditional rd a w v ordering) f = conditional_has h rd a w v ordering (is_reserved r a w) (store_fault m a w) f refl
  served_has n h c r (Exchange rd a w g ordering) f = exchanged_has h rd a w g ordering (store_fault m a w) f.0 f.1 refl
  served_has n h c r Call f = of_test (λ (o : SerialOutcome Hart ConsoleState). OnAccess (Formed (length m.bytes)) o.answer) (reg h.x 17 == 0) _ _ tt tt
  served_has n h c r (Put rd v) f = performed_has h (Put rd v)
  served_has n h c r (Jump rd t) f = performed_has h (Jump rd t)
  served_has n h c r (Branch b t) f = performed_has h (Branch b t)
  served_has n h c r (Read rd a w s) f = performed_has h (Read rd a w s)
  served_has n h c r (Write a w v) f = performed_has h (Write a w v)
  served_has n h c r (Halt code) f = performed_has h (Halt code)

  serial_has : (n : ℕ) (h : Hart) (c : ConsoleState) (r : Option Span) → OnAccess (Formed (length m.bytes)) (serial_stepped n h m c r).answer
  unfolding serial_stepped
  serial_has n h c r = of_word (λ (o : SerialOutcome Hart ConsoleState). OnAccess (Formed (length m.bytes)) o.answer) (fetched m h.pc) _ _ _ tt tt (λ i. served_has n h c r (action i h.x h.pc) (action_formed i h.x h.pc))

pub has_forms : HasForms
has_forms code = record {
  step_forms = λ h bs a small e. subst (OnAccess (Formed (length bs))) e (step_has (record { bytes = bs; code = code }) small h);
  serial_forms = λ n h bs c r a small e. subst (OnAccess (Formed (length bs))) e (serial_has (record { bytes = bs; code = code }) small n h c r);
}
