-- The starts of a run's rounds, by their numbers.
use Rattle.std.proofs.Common.{◌≡◌, Bool, ℕ, ◌+◌, ◌-◌, sym, ap, ◌∙◌, arith, add-one}
use Rattle.hart_rounds.specs.Starts.{Start}
use Rattle.machine.specs.RoundStarts.{next_start_of, start_at, untraced_rounds}
use Rattle.machine.specs.Untraced.{Untraced, untraced_round}

-- the machine that has done k of the rounds starts its next one as it was said
pub starts_there : (logs : Bool) (starts : ℕ → Start) (k : ℕ) (u v : Untraced) → ((n : ℕ) → starts n ≡ start_at logs u n) → v ≡ untraced_rounds k u → v.rounds ≡ u.rounds + k → starts v.rounds ≡ next_start_of logs v
starts_there logs starts k u v f is at =
    let less : v.rounds - u.rounds ≡ k = omega (arith, at) in
    f v.rounds ∙ ap (λ (n : ℕ). next_start_of logs (untraced_rounds n u)) less ∙ ap (next_start_of logs) (sym is)

pub one_more : (k : ℕ) (u : Untraced) → untraced_round (untraced_rounds k u) ≡ untraced_rounds (k + 1) u
one_more k u = ap (λ (n : ℕ). untraced_rounds n u) (sym (add-one k))
