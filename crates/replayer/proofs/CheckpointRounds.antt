-- What is kept of a run, round after round.
use Rattle.std.proofs.Common.{◌≡◌, ℕ, suc, ◌+◌, ◌-◌, ◌<◌, ◌≤◌, List, [], ◌∷◌, ◌++◌, map, sym, ap, ◌∙◌, append_assoc, arith}
use Rattle.std.proofs.lemmas.List.{append-nil, map-append}
use Rattle.machine.specs.Machine.{Running, after_round, after_rounds}
use Rattle.machine.proofs.Repeated.{no_rounds, next_round}
use Rattle.recording.specs.Recorded.{Checkpoint}
use Rattle.kept_states.specs.Summaries.{checkpoint_of, checkpoints_of_rounds}

one_round : (m : Running) → after_rounds 1 m ≡ after_round m
one_round m = sym (next_round 0 m) ∙ ap after_round (sym (no_rounds m))

-- one more round is kept, of those that are left
pub keeps_next : {X : Type 0} (contents : X → Checkpoint) (xs : List X) (x : X) (every rounds done : ℕ) (now next : Running) (all : List Checkpoint) → done < rounds → next ≡ after_rounds 1 now → contents x ≡ checkpoint_of every next.state
    → map contents xs ++ checkpoints_of_rounds every (rounds - done) now ≡ all → map contents (xs ++ x ∷ []) ++ checkpoints_of_rounds every (rounds - (done + 1)) next ≡ all
unfolding checkpoints_of_rounds
keeps_next contents xs x every rounds done now next all lt step same before =
    let left : rounds - done ≡ suc (rounds - (done + 1)) = omega (arith, lt) in
    let there : next ≡ after_round now = step ∙ one_round now in
    ap (λ (front : List Checkpoint). front ++ checkpoints_of_rounds every (rounds - (done + 1)) next) (map-append contents xs (x ∷ []))
    ∙ append_assoc (map contents xs) (contents x ∷ []) (checkpoints_of_rounds every (rounds - (done + 1)) next)
    ∙ ap (λ (k : Checkpoint). map contents xs ++ k ∷ checkpoints_of_rounds every (rounds - (done + 1)) next) same
    ∙ ap (λ (m : Running). map contents xs ++ checkpoint_of every m.state ∷ checkpoints_of_rounds every (rounds - (done + 1)) m) there
    ∙ ap (λ (n : ℕ). map contents xs ++ checkpoints_of_rounds every n now) (sym left)
    ∙ before

pub keeps_all : (ks : List Checkpoint) (every rounds done : ℕ) (now : Running) (all : List Checkpoint) → rounds ≤ done → ks ++ checkpoints_of_rounds every (rounds - done) now ≡ all → ks ≡ all
unfolding checkpoints_of_rounds
keeps_all ks every rounds done now all le e =
    let none : rounds - done ≡ 0 = omega (arith, le) in
    sym (append-nil ks) ∙ ap (λ (n : ℕ). ks ++ checkpoints_of_rounds every n now) (sym none) ∙ e
