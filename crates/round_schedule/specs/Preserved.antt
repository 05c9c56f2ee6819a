-- What every instruction preserves of a hart, a round preserves of all harts.
use Rattle.std.specs.Prelude.{◌≡◌, ℕ, Bool, true, List, All, Option}
use Rattle.round_schedule.specs.declared.span.Span.{Span}
use Rattle.round_schedule.specs.Schedule.{State, Words, round_of}

-- a hart that passes the test passes it after its next instruction, in either phase
pub record Preserves {H C : Type 0} (w : Words H C) (test : H → Bool) : Type 0 where
  pub steps : (h : H) (bs : List ℕ) → test h ≡ true → test (w.step h bs).hart ≡ true
  pub serial_steps : (n : ℕ) (h : H) (bs : List ℕ) (c : C) (r : Option Span) → test h ≡ true → test (w.serial_step n h bs c r).hart ≡ true

-- harts that pass it pass it after a round
abbrev pub RoundsPreserve : (H C : Type 0) → Type 0
RoundsPreserve H C =
    (w : Words H C) (test : H → Bool) → Preserves w test → (budget : ℕ) (quotas : ℕ → List ℕ) (s : State H C) →
    All (λ (h : H). test h ≡ true) s.harts → All (λ (h : H). test h ≡ true) (round_of w budget quotas s).harts
