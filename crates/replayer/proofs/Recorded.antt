-- What a walk over a run keeps.
use Rattle.std.proofs.Common.{◌≡◌, ℕ, ◌+◌, ◌-◌, ◌<◌, ◌∙◌, List, [], ◌∷◌, ◌++◌, length, map, sym, ap, subst, arith, inl, inr}
use Rattle.std.specs.Prelude.{◌⊎◌}
use Rattle.machine.specs.Machine.{Running, after_rounds}
use Rattle.machine.specs.Untraced.{IsUntraced, Untraced}
use Rattle.machine.specs.Walks.{HasDone}
use Rattle.machine.proofs.Repeated.{more_rounds, no_rounds}
use Rattle.round_planner.specs.Quotas.{Planned}
use Rattle.recording.specs.Fields.{HaveEach}
use Rattle.recording.specs.Grammar.{checkpoint_after}
use Rattle.recording.specs.Recorded.{Checkpoint}
use Rattle.kept_states.specs.declared.keeping.Seen.{Seen}
use Rattle.kept_states.specs.Summaries.{IsSeenOf, checkpoint_in, checkpoints_of_rounds}
use Rattle.replayer.specs.Visits.{HasRecorded}
use Rattle.kept_states.proofs.Checkpoint.{have_seen}
use Rattle.replayer.proofs.CheckpointRounds.{keeps_all, keeps_next}
use Rattle.kept_states.proofs.SeenOf.{seen_is}

-- before the first round
pub none_recorded : (every : ℕ) (start : Untraced) (rounds : ℕ) → start.rounds ≡ 0 → (m : Running) → IsUntraced m start → HasRecorded [] every start rounds 0
none_recorded every start rounds e run is =
    let whole : rounds - 0 ≡ rounds = omega arith in
    (e, (run, is), λ m i. rw whole (ap (checkpoints_of_rounds every rounds) (sym (no_rounds m))), tt)

-- one more round
pub recorded_next : {X : Type 0} (f : X → Checkpoint) (xs : List X) (x : X) (every : ℕ) (s : Seen) (start now : Untraced) (rounds done : ℕ) → done < rounds →
    HasRecorded (map f xs) every start rounds done → HasDone (done + 1) start now → f x ≡ checkpoint_in every s → ((m : Running) → IsUntraced m now → IsSeenOf s m.state) →
    (checkpoint_after (length s.harts.now) every s.round).Has (f x) → length s.harts.now ≡ now.plan.harts → s.round ≡ now.rounds →
    HasRecorded (map f (xs ++ x ∷ [])) every start rounds (done + 1)
recorded_next f xs x every s start now rounds done few h d is seen ranges harts number =
    let there = d.run h.1.0 h.1.1 in
    let plan : now.plan.harts ≡ start.plan.harts = ap (λ (p : Planned). p.harts) (there.plan ∙ sym h.1.1.plan) in
    let round : s.round ≡ done + 1 = omega (arith, number, d.rounds, h.0) in (
      h.0,
      h.1,
      λ m i.
          let before : Running = after_rounds done m in
          let next : Running = after_rounds (done + 1) m in
          keeps_next f xs x every rounds done before next (checkpoints_of_rounds every rounds m) few (sym (more_rounds done 1 m)) (is ∙ seen_is every s next.state (seen next (d.run m i))) (h.2 m i),
      have_seen f done 1 (done + 1) (checkpoint_after start.plan.harts every) xs x (omega arith) h.3
          (subst (λ (n : ℕ). (checkpoint_after n every (done + 1)).Has (f x)) (harts ∙ plan) (subst (λ (n : ℕ). (checkpoint_after (length s.harts.now) every n).Has (f x)) round ranges)),
    )

-- all rounds
pub recorded_all : (ks : List Checkpoint) (every : ℕ) (start : Untraced) (rounds done : ℕ) (m : Running) → HasRecorded ks every start rounds done → (done ≡ rounds) ⊎ ⊥ → IsUntraced m start → ks ≡ checkpoints_of_rounds every rounds m
recorded_all ks every start rounds done m h (inl e) i = keeps_all ks every rounds done (after_rounds done m) (checkpoints_of_rounds every rounds m) (omega (arith, e)) (h.2 m i)
recorded_all ks every start rounds done m h (inr no_end) i = absurd no_end

pub recorded_each : (ks : List Checkpoint) (every : ℕ) (start : Untraced) (rounds done : ℕ) → HasRecorded ks every start rounds done → (done ≡ rounds) ⊎ ⊥ → HaveEach rounds 1 (checkpoint_after start.plan.harts every) ks
recorded_each ks every start rounds done h (inl e) = subst (λ (n : ℕ). HaveEach n 1 (checkpoint_after start.plan.harts every) ks) e h.3
recorded_each ks every start rounds done h (inr no_end) = absurd no_end
