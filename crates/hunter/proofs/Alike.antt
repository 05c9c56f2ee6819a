-- What two machines that keep no trace have in common, and the states of their runs.
use Rattle.std.proofs.Common.{◌≡◌, ◌↔◌, ℕ, ◌<◌, Bool, true, false, IsTrue, List, length, map, Option, None, refl, sym, ◌∙◌, ap, subst, arith}
use Rattle.std.proofs.lemmas.Bool.{false≢true}
use Rattle.std.proofs.lemmas.List.{ext_get_or, length-map}
use Rattle.round_schedule.specs.declared.span.Span.{Span}
use Rattle.round_schedule.specs.Held.{held}
use Rattle.round_schedule.specs.Schedule.{State}
use Rattle.round_schedule.specs.Reservations.{Tied, entry}
use Rattle.hart_step.specs.declared.hart.Hart.{Hart}
use Rattle.hart_step.specs.Console.{ConsoleState}
use Rattle.machine.specs.Machine.{Running}
use Rattle.machine.specs.Untraced.{IsUntraced, Untraced}
use Rattle.hunter.specs.Finding.{AreSame}
use Rattle.serial_phase.specs.Decided.{are_alike}
use Rattle.serial_phase.specs.Forgetting.{uncounted}
use Rattle.serial_phase.specs.Returning.{Alike}
use Rattle.serial_phase.proofs.Decided.{alike_is_decided}

same_length : {X Y : Type 0} (f : X → Y) (xs ys : List X) → map f xs ≡ map f ys → length xs ≡ length ys
same_length {Y = Y} f xs ys e = sym (length-map xs f) ∙ ap (λ (zs : List Y). length zs) e ∙ length-map ys f

module _ (s t : State Hart ConsoleState) (a b : List (Option Span)) (ties : Tied a s.trace) (others : Tied b t.trace) (each : length a ≡ length s.harts) (one : length b ≡ length t.harts) where
  same_held : a ≡ b → (h : ℕ) → h < length s.harts → held h s.trace ≡ held h t.trace
  same_held e h l =
      sym (ties.each h (omega (arith, l, each)))
      ∙ ap (λ (x : List (Option Span)). entry x h) e
      ∙ others.each h (omega (arith, l, each, ap (λ (x : List (Option Span)). length x) e))

  same_reservations : map uncounted s.harts ≡ map uncounted t.harts → ((h : ℕ) → h < length s.harts → held h s.trace ≡ held h t.trace) → a ≡ b
  same_reservations e f =
      let size : length a ≡ length b = each ∙ same_length uncounted s.harts t.harts e ∙ sym one in
      ext_get_or None a b size (λ h l. ties.each h l ∙ f h (omega (arith, l, each)) ∙ sym (others.each h (omega (arith, l, size))))

  pub decides : (r : Bool) → (IsTrue r ↔ ((map uncounted s.harts ≡ map uncounted t.harts) × (s.bytes ≡ t.bytes) × (s.console ≡ t.console) × (a ≡ b))) → r ≡ are_alike s t
  decides r d = both r (are_alike s t)
      (λ e. let f = d.0 e in (alike_is_decided s t).1 (record { harts = f.0; bytes = f.1; console = f.2; holds = same_held f.3 }))
      (λ e. let f = (alike_is_decided s t).0 e in d.1 (f.harts, f.bytes, f.console, same_reservations f.harts f.holds))
    where
      both : (x y : Bool) → (x ≡ true → y ≡ true) → (y ≡ true → x ≡ true) → x ≡ y
      both true y f g = sym (f refl)
      both false true f g = g refl
      both false false f g = refl

-- machines are the same exactly where their states are alike
pub tells : (m n : Running) (u v : Untraced) (r : Bool) → IsUntraced m u → IsUntraced n v → length u.reservations ≡ length u.harts → length v.reservations ≡ length v.harts →
    (IsTrue r ↔ AreSame u v) → r ≡ are_alike m.state n.state
tells m n u v r first second each one d =
    decides m.state n.state u.reservations v.reservations first.reservations second.reservations (each ∙ ap (λ (hs : List Hart). length hs) first.harts) (one ∙ ap (λ (hs : List Hart). length hs) second.harts) r (
      λ e. let f = d.0 e in (
        ap (λ (hs : List Hart). map uncounted hs) (sym first.harts) ∙ f.0 ∙ ap (λ (hs : List Hart). map uncounted hs) second.harts,
        sym first.bytes ∙ f.3 ∙ second.bytes,
        sym first.console ∙ f.2 ∙ second.console,
        f.1,
      ),
      λ f. d.1 (
        ap (λ (hs : List Hart). map uncounted hs) first.harts ∙ f.0 ∙ ap (λ (hs : List Hart). map uncounted hs) (sym second.harts),
        f.3,
        first.console ∙ f.2 ∙ sym second.console,
        first.bytes ∙ f.1 ∙ sym second.bytes,
      ),
    )
