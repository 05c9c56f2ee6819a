-- A round between its parallel phase and its commit: what is asked of it.
use Rattle.std.proofs.Common.{◌≡◌, ◌<◌, ◌≤◌, ◌^◌, ℕ, zero, suc, Bool, List, [], ◌∷◌, Option, None, All, length, get_or, refl, sym, ap, subst, arith}
use Rattle.pages.specs.Memory.{IsBytes, Memory, TouchesNoCode}
use Rattle.round_schedule.specs.declared.event.Event.{Event}
use Rattle.round_schedule.specs.declared.span.Span.{Span}
use Rattle.round_schedule.specs.Schedule.{HartRound, all_stores, hart_rounds}
use Rattle.round_schedule.specs.Reservations.{Tied}
use Rattle.round_planner.specs.Quotas.{IsQuota, Planned, quotas_of}
use Rattle.hart_step.specs.declared.hart.Hart.{Hart}
use Rattle.hart_step.specs.Numbers.{minus}
use Rattle.hart_step.specs.Words.{words_of}
use Rattle.moments.specs.Sights.{sight_after}
use Rattle.serial_phase.specs.declared.shared.SharedState.{SharedState}
use Rattle.hart_rounds.specs.declared.hart_end.HartEnd.{HartEnd}
use Rattle.guest_rounds.specs.Guests.{Guest, Shared, guest_state}
use Rattle.guest_rounds.specs.HalfRounds.{IsHalfDone}
use Rattle.guest_rounds.specs.HartEnds.{AreEndsOf, AreFit}
use Rattle.guest_rounds.proofs.ShownCode.{rounds_touch}
use Rattle.guest_rounds.proofs.GuestRounds.{many_of}
use Rattle.guest_rounds.proofs.Listed.{are_fit}
use Rattle.guest_turns.proofs.Asked.{AskedAt, asked_of}

-- what stands where no hart does
abbrev pub no_hart : Hart
no_hart = record { x = []; pc = 0; stop = None; done = 0 }

pub same_at : {A : Type 0} (xs : List A) (i : ℕ) (d e : A) → i < length xs → get_or xs i d ≡ get_or xs i e
same_at [] i d e low = absurd (omega (arith, low))
same_at (x ∷ xs) zero d e low = refl
same_at (x ∷ xs) (suc i) d e low = same_at xs i d e (omega (arith, low))

module _ (logs : Bool) (plan : Planned) (n : ℕ) (g : Guest) (s : SharedState) (os : List HartEnd) (h : IsHalfDone logs plan n g s os) where
  memory : s.pages.memory ≡ g.shared.memory
  memory = ap (λ (x : Shared). x.memory) h.shared

  abbrev pub rounds_here : List (HartRound Hart)
  rounds_here = hart_rounds (words_of s.pages.memory.code) s.pages.memory.bytes (quotas_of plan n) g.harts

  pub ends_here : AreEndsOf logs s.pages.memory rounds_here os
  ends_here = subst (λ (m : Memory). AreEndsOf logs m (hart_rounds (words_of m.code) m.bytes (quotas_of plan n) g.harts) os) (sym memory) h.ends

  pub many_here : length os ≡ length g.harts
  many_here = many_of logs plan n g os h.ends

  pub fit_here : AreFit s.pages.memory os
  fit_here = are_fit logs s.pages.memory rounds_here os ends_here

  pub touches_here : TouchesNoCode s.pages.memory.code (all_stores rounds_here)
  touches_here = rounds_touch s.pages.memory (quotas_of plan n) g.harts

  pub bytes_here : IsBytes g.shared.memory.bytes → IsBytes s.pages.memory.bytes
  bytes_here b = subst IsBytes (sym (ap (λ (m : Memory). m.bytes) memory)) b

  pub tied_here : (es : List Event) → Tied g.shared.reservations es → Tied s.reservations es
  tied_here es t = subst (λ (x : List (Option Span)). Tied x es) (sym (ap (λ (x : Shared). x.reservations) h.shared)) t

  pub asked_half : (es : List Event) (i count done : ℕ) (before : Hart) (o : HartEnd) → i < length g.harts → before ≡ get_or g.harts i before → o ≡ get_or os i o → done ≡ minus o.hart.done before.done →
      IsBytes g.shared.memory.bytes → Tied g.shared.reservations es → length g.harts ≡ plan.harts → All IsQuota (quotas_of plan n) → length (quotas_of plan n) ≡ plan.harts → plan.budget ≤ 1000 → before.done < 2 ^ 64 →
      AskedAt s.pages.memory.code plan.budget (quotas_of plan) (record { harts = g.harts; bytes = s.pages.memory.bytes; console = s.console.console; trace = es; rounds = n }) s.reservations i count done before o.hart o.waits
  asked_half es i count done before o low_i at_h at_o by_done bytes tied harts quotas sized small low =
      asked_of logs plan n g.harts s.pages s.reservations s.console.console es os i count done before o ends_here low_i at_h at_o by_done (bytes_here bytes) (tied_here es tied) h.size harts quotas sized small low

  pub seen_half : (es : List Event) (i count : ℕ) → sight_after (words_of s.pages.memory.code) plan.budget (quotas_of plan) (record { harts = g.harts; bytes = s.pages.memory.bytes; console = s.console.console; trace = es; rounds = n }) i count
      ≡ sight_after (words_of g.shared.memory.code) plan.budget (quotas_of plan) (guest_state n es g) i count
  seen_half es i count = ap (λ (x : Shared). sight_after (words_of x.memory.code) plan.budget (quotas_of plan) (record { harts = g.harts; bytes = x.memory.bytes; console = x.console; trace = es; rounds = n }) i count) h.shared
