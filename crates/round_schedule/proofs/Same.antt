-- What `==` says of entries.
use Rattle.std.proofs.Common.{◌≡◌, Bool, List, Option, Some, None, refl, ap, rules}
use Rattle.std.specs.Bool.{Decides}
use Rattle.std.specs.Option.{option_eq}
use Rattle.std.proofs.lemmas.Slice.Eq.{slice_eq-Decides}
use Rattle.round_schedule.specs.declared.span.Span.{Span}
use Rattle.round_schedule.specs.contracts.span.SpanPartialEq.TheImpl.{eq-value}
use lib.Pointwise.{pointwise}

same_span : (a b : Span) → Decides (eq-value.it a b) (a ≡ b)
same_span a b = search rules

same_option : (a b : Option Span) → Decides (option_eq eq-value.it a b) (a ≡ b)
same_option None None = (λ e. refl, λ e. refl)
same_option None (Some b) = (λ e. cc, λ e. cc)
same_option (Some a) None = (λ e. cc, λ e. cc)
same_option (Some a) (Some b) = let s = same_span a b in (λ e. ap (λ (x : Span). Some x) (s.0 e), λ e. s.1 (let f : a ≡ b = cc in f))

pub same_entries : (a b : List (Option Span)) (r : Bool) → r ≡ pointwise (option_eq eq-value.it) a b → Decides r (a ≡ b)
same_entries a b r e = slice_eq-Decides same_option a b r e
