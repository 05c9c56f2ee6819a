-- Where a recording's run begins, no event's round is done.
use Rattle.std.proofs.Common.{◌≡◌, ℕ, List, [], ◌∷◌, All, sym, ap, subst, ◌∙◌, arith}
use Rattle.std.proofs.lemmas.List.Elements.{All-cons, All-nil}
use Rattle.round_schedule.specs.declared.event.Event.{Event}
use Rattle.machine.specs.Machine.{Running, after_rounds}
use Rattle.machine.specs.Untraced.{IsUntraced, Untraced}
use Rattle.machine.proofs.Repeated.{no_rounds}
use Rattle.run_events.specs.Pcs.{IsAfterRounds}

pub at_start : (m : Running) (u v : Untraced) → v ≡ u → u.rounds ≡ 0 → IsUntraced m u → IsUntraced (after_rounds v.rounds m) v
at_start m u v same none i =
    let e : 0 ≡ v.rounds = sym (ap (λ (x : Untraced). x.rounds) same ∙ none) in
    subst (λ (k : ℕ). IsUntraced (after_rounds k m) v) e (subst (λ (x : Running). IsUntraced x v) (no_rounds m) (subst (IsUntraced m) (sym same) i))

-- each event is after no rounds
pub all_after : (n : ℕ) (es : List Event) → n ≡ 0 → All (IsAfterRounds n) es
all_after n [] none = All-nil (IsAfterRounds n)
all_after n (e ∷ es) none = All-cons (IsAfterRounds n) e es (omega (arith, none)) (all_after n es none)
