-- What was seen in rounds that are there, and in rounds that are not.
use Rattle.std.proofs.Common.{◌≡◌, ℕ, zero, suc, ◌-◌, ◌<◌, ◌≤◌, None, refl, ap, ◌∙◌, arith}
use Rattle.round_planner.specs.Quotas.{quotas_of}
use Rattle.hart_step.specs.Words.{words_of}
use Rattle.machine.specs.Machine.{Running, after_rounds}
use Rattle.moments.specs.Sights.{sight_after}
use Rattle.run_events.proofs.RoundsAt.{is_low, is_not}
use Rattle.replayer.specs.Past.{sight_at}

pub no_sight_first : (rounds : ℕ) (m : Running) (round hart count : ℕ) → round ≡ 0 → None ≡ sight_at rounds m round hart count
no_sight_first rounds m round hart count e = rw e refl

pub no_sight_after_last : (rounds : ℕ) (m : Running) (round hart count : ℕ) → rounds < round → None ≡ sight_at rounds m round hart count
no_sight_after_last rounds m zero hart count l = absurd (omega (arith, l))
no_sight_after_last rounds m (suc n) hart count l = rw (is_not n rounds (omega (arith, l))) refl

-- a round that is there, from the machine before it
pub sight_from_before : (rounds : ℕ) (m x : Running) (round hart count : ℕ) → 1 ≤ round → round ≤ rounds → x ≡ after_rounds (round - 1) m →
    sight_after (words_of x.code) x.plan.budget (quotas_of x.plan) x.state hart count ≡ sight_at rounds m round hart count
sight_from_before rounds m x zero hart count some le e = absurd (omega (arith, some))
sight_from_before rounds m x (suc n) hart count some le e =
    let less : suc n - 1 ≡ n = omega arith in
    let there : x ≡ after_rounds n m = e ∙ ap (λ (k : ℕ). after_rounds k m) less in
    rw (is_low n rounds (omega (arith, le))) (ap (λ (r : Running). sight_after (words_of r.code) r.plan.budget (quotas_of r.plan) r.state hart count) there)
