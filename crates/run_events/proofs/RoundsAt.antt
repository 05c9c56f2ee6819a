-- Rounds that are there, and rounds that are not.
use Rattle.std.proofs.Common.{◌≡◌, ℕ, zero, suc, ◌-◌, ◌<◌, ◌≤◌, true, false, nat_lt, None, refl, ap, ◌∙◌, arith}
use Rattle.std.proofs.lemmas.Bool.Decides.{nat_tests}
use Rattle.round_schedule.specs.Past.{hart_after}
use Rattle.round_planner.specs.Quotas.{quotas_of}
use Rattle.hart_step.specs.Words.{words_of}
use Rattle.machine.specs.Machine.{Running, after_rounds}
use Rattle.run_events.specs.Pcs.{hart_at}

pub is_not : (m n : ℕ) → n ≤ m → nat_lt m n ≡ false
is_not m n l = grind (arith, nat_tests, l)

pub is_low : (m n : ℕ) → m < n → nat_lt m n ≡ true
is_low m n l = grind (arith, nat_tests, l)

pub first_is_1 : (rounds : ℕ) (m : Running) (round hart count : ℕ) → round ≡ 0 → None ≡ hart_at rounds m round hart count
first_is_1 rounds m round hart count e = rw e refl

pub after_last : (rounds : ℕ) (m : Running) (round hart count : ℕ) → rounds < round → None ≡ hart_at rounds m round hart count
after_last rounds m zero hart count l = absurd (omega (arith, l))
after_last rounds m (suc n) hart count l = rw (is_not n rounds (omega (arith, l))) refl

-- a round that is there, from the machine before it
pub from_before : (rounds : ℕ) (m x : Running) (round hart count : ℕ) → 1 ≤ round → round ≤ rounds → x ≡ after_rounds (round - 1) m →
    hart_after (words_of x.code) x.plan.budget (quotas_of x.plan) x.state hart count ≡ hart_at rounds m round hart count
from_before rounds m x zero hart count some le e = absurd (omega (arith, some))
from_before rounds m x (suc n) hart count some le e =
    let less : suc n - 1 ≡ n = omega arith in
    let there : x ≡ after_rounds n m = e ∙ ap (λ (k : ℕ). after_rounds k m) less in
    rw (is_low n rounds (omega (arith, le))) (ap (λ (r : Running). hart_after (words_of r.code) r.plan.budget (quotas_of r.plan) r.state hart count) there)
