-- The settings of a recording's run are refused for its workers alone.
use Rattle.std.proofs.Common.{◌≡◌, ℕ, ◌≤◌, ◌<◌, true, false, Some, None, refl, arith}
use Rattle.std.specs.Prelude.{◌⊎◌, ◌||◌, nat_lt}
use Rattle.std.proofs.lemmas.Bool.Decides.{nat_tests}
use Rattle.round_planner.specs.Settings.{IsInRange, settings_fault}
use Rattle.round_planner.specs.declared.settings.Settings.{Settings}
use Rattle.host_io.specs.declared.error.RunError.TheVariants as refusals

within : (low high n : ℕ) → low ≤ n → n ≤ high → (nat_lt n low || nat_lt high n) ≡ false
within low high n l h = grind (arith, nat_tests, l, h)

outside : (low high n : ℕ) → (n < low) ⊎ (high < n) → (nat_lt n low || nat_lt high n) ≡ true
outside low high n o = grind (arith, nat_tests, o)

pub no_fault : (s : Settings) → IsInRange s → settings_fault s ≡ None
no_fault s r = rw (within 1 64 s.harts r.some_harts r.few_harts, within 1 16384 s.pages r.some_pages r.few_pages, within 1 16 s.workers r.some_workers r.few_workers, within 1 1000 s.budget r.some_budget r.few_budget) refl

pub no_workers : (s : Settings) → 1 ≤ s.harts → s.harts ≤ 64 → 1 ≤ s.pages → s.pages ≤ 16384 → (s.workers < 1) ⊎ (16 < s.workers) → settings_fault s ≡ Some refusals.WorkersOutOfRange
no_workers s a b c d o = rw (within 1 64 s.harts a b, within 1 16384 s.pages c d, outside 1 16 s.workers o) refl
