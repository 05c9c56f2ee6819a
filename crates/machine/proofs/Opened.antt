-- A machine before the first round.
use Rattle.std.proofs.Common.{◌≡◌, ℕ, zero, suc, true, List, [], All, arith, get_or, replicate, Option, None, refl, sym, ap, subst, ◌∙◌}
use Rattle.round_schedule.specs.declared.span.Span.{Span}
use Rattle.round_schedule.specs.Held.{held}
use Rattle.round_schedule.specs.Reservations.{Tied, entry}
use Rattle.std.proofs.lemmas.List.Elements.{All-cons}
use Rattle.hart_step.specs.declared.hart.Hart.{Hart}
use Rattle.hart_step.specs.Stops.{has_stop}
use Rattle.round_planner.specs.Quotas.{Planned}
use Rattle.elf_loader.specs.Image.{Loaded}
use Rattle.guest_rounds.specs.Guests.{Guest, opening_guest}
use Rattle.machine.specs.Machine.{opening}
use Rattle.guest_rounds.specs.Opening.{opening_hart, opening_harts}
use Rattle.machine.specs.Untraced.{IsUntraced, Untraced, untraced_of}
use Rattle.guest_rounds.proofs.TraceHolds.{placed_first}
use Rattle.machine.proofs.UntracedRounds.{no_trace}

none_held : (h : ℕ) → None ≡ held h []
unfolding held
none_held h = refl

none_at : (n h : ℕ) → get_or (replicate {A = Option Span} n None) h None ≡ None
none_at zero h = refl
none_at (suc n) zero = refl
none_at (suc n) (suc h) = none_at n h

pub tied_first : (n : ℕ) (reservations : List (Option Span)) → reservations ≡ replicate n None → Tied reservations []
tied_first n reservations e = record { each = λ h low. ap (λ (t : List (Option Span)). entry t h) e ∙ none_at n h ∙ none_held h }

pub none_stopped : (e n i k : ℕ) → All (λ (h : Hart). has_stop h.stop ≡ true) (opening_harts e n i k)
none_stopped e n i zero = λ j d l. absurd (omega (arith, l))
none_stopped e n i (suc k) = All-cons (λ (h : Hart). has_stop h.stop ≡ true) (opening_hart e n i) (opening_harts e n (suc i) k) refl (none_stopped e n (suc i) k)

first_of : (image : Loaded) (input : List ℕ) (plan : Planned) (n : ℕ) (g : Guest) → n ≡ plan.harts → g ≡ opening_guest image input n → IsUntraced (opening image input plan) (untraced_of g plan 0 0)
first_of image input plan n g same e = subst (λ (x : Guest). IsUntraced (opening image input plan) (untraced_of x plan 0 0)) (sym e) (record {
  harts = ap (λ (k : ℕ). opening_harts image.entry k 0 k) same;
  bytes = refl;
  console = refl;
  rounds = refl;
  code = refl;
  plan = refl;
  events = refl;
  reservations = tied_first n (replicate n None) refl;
  sound = no_trace;
  placed = placed_first image.entry plan.harts 0 plan.harts;
  stops = none_stopped image.entry plan.harts 0 plan.harts;
})

-- it is the machine of a run that has not begun, without its trace
pub opened : (image : Loaded) (input : List ℕ) (plan : Planned) (n : ℕ) (g : Guest) (u : Untraced) → n ≡ plan.harts → g ≡ opening_guest image input n → u ≡ untraced_of g plan 0 0 → IsUntraced (opening image input plan) u
opened image input plan n g u same e is = subst (λ (x : Untraced). IsUntraced (opening image input plan) x) (sym is) (first_of image input plan n g same e)
