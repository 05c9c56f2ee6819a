-- The guest of a machine that keeps no trace, as the guest of a run.
use Rattle.std.proofs.Common.{◌≡◌, ℕ, sym, ap, ◌∙◌, subst}
use Rattle.round_schedule.specs.Reservations.{Tied}
use Rattle.round_planner.specs.Quotas.{Planned}
use Rattle.guest_rounds.specs.Guests.{Guest, guest_state}
use Rattle.machine.specs.Machine.{Running}
use Rattle.machine.specs.Untraced.{IsUntraced, Untraced, untraced_of}
use Rattle.machine.proofs.UntracedRounds.{is_running, with_events}

pub guest_is : (m : Running) (g : Guest) (plan : Planned) (events rounds : ℕ) (u : Untraced) → untraced_of g plan events rounds ≡ u → IsUntraced m u →
    ◌≡◌ {A = Running} (record { state = guest_state rounds m.state.trace g; code = g.shared.memory.code; plan = plan; opening = m.opening }) m
guest_is m g plan events rounds u e i = ap (λ (x : Untraced). with_events x m.state.trace m.opening) e ∙ is_running m u i

pub tied_guest : (m : Running) (g : Guest) (plan : Planned) (events rounds : ℕ) (u : Untraced) → untraced_of g plan events rounds ≡ u → IsUntraced m u → Tied g.shared.reservations m.state.trace
tied_guest m g plan events rounds u e i = subst (λ (x : Untraced). Tied x.reservations m.state.trace) (sym e) i.reservations
