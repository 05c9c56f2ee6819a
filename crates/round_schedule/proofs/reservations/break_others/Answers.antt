use Rattle.std.proofs.Common.{◌≡◌, ◌≢◌, ℕ, ◌<◌, ◌==◌, List, length, set, cond, Option, arith, ap, ◌∙◌, get_or-set_other, get_or-set_same, below_more, None}
use Rattle.pages.specs.Memory.{in_range, width_bytes}
use Rattle.round_schedule.specs.declared.span.Span.{Span}
use Rattle.round_schedule.specs.Held.{unless}
use Rattle.round_schedule.specs.Reservations.{entry}
use Rattle.round_schedule.proofs.reservations.break_others.Goals as goal

others_stay : (now : List (Option Span)) (i : ℕ) (v : Option Span) (h : ℕ) → h ≢ i → entry (set now i v) h ≡ entry now h
others_stay now i v h other = rw get_or-set_other

written : (now : List (Option Span)) (i : ℕ) (v : Option Span) → i < length now → entry (set now i v) i ≡ v
written now i v within = rw get_or-set_same

pub loop-other-preserved : goal.loop-other-preserved
loop-other-preserved c =
    let i = c.loop-other.other in
    let now = c.loop-other.entries in
    let v = c.left_after-rest.result in
    let within : i < length now = omega (arith, c.loop-other.auto.entries) in
    let F : ℕ → Option Span → Option Span = λ h r. cond (c.args.hart == h) r (unless (in_range c.args.span.address (width_bytes c.args.span.width)) r) in
    record {
      done = below_more (λ h. entry (set now i v) h ≡ F h (entry c.args.entries.now h)) i
          (λ h low. let other : h ≢ i = omega arith in others_stay now i v h other ∙ c.loop-other.invariant.done h low)
          (written now i v within ∙ c.left_after-rest.ensures ∙ ap (F i) (c.loop-other.invariant.rest i (omega arith)));
      none = λ gone. below_more (λ h. entry (set now i v) h ≡ None) i
          (λ h low. let other : h ≢ i = omega arith in others_stay now i v h other ∙ c.loop-other.invariant.none (c.is_any-left.ensures.before gone) h low)
          (written now i v within ∙ c.is_any-left.ensures.this gone);
      rest = λ h high. let other : h ≢ i = omega arith in others_stay now i v h other ∙ c.loop-other.invariant.rest h (omega arith);
    }
