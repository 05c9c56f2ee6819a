use Rattle.std.proofs.Common.{◌≡◌, ◌+◌, ◌∙◌, ap, arith, false, inl, inr, length, map, refl, subst, sym, true≢false, ℕ, List}
use Rattle.machine.specs.Machine.{Running, after_rounds}
use Rattle.machine.proofs.Repeated.{no_rounds, more_rounds}
use Rattle.recording.specs.Recorded.{Checkpoint}
use Rattle.recording.specs.Views.{checkpoint_view}
use Rattle.replayer.specs.Checkpoints.{AreCheckpoints}
use Rattle.replayer.proofs.Compared.{compared_more, none_compared}
use Rattle.replayer.proofs.Counted.{rounds_after}
use Rattle.replayer.proofs.First.{size}
use Rattle.replayer.proofs.CheckpointMachines.{checkpoints_first, checkpoints_next, more_multiple, none_multiple}
use Rattle.replayer.proofs.Verdicts.{up_to_all}
use Rattle.replayer.proofs.checkpoints.run_keeping.Goals as goal

pub loop-done-init : goal.loop-done-init
loop-done-init g c = (
  no_rounds c.args.machine.now,
  c.requires.opened,
  (omega arith, λ lt. none_multiple c.args.every),
  (c.checkpoints.ensures.value, c.every.ensures, refl),
  λ j lo hi. absurd (omega (arith, lo, hi)),
  rw c.requires.none (checkpoints_first c.args.every c.args.machine.now),
)

pub walk-requires-clause-known : goal.walk-requires-clause-known
walk-requires-clause-known g c = λ lifetimes within u i.
    let l = c.loop-done in
    let ks = l.comparing.checkpoints.now in
    let checkpoints : length (map checkpoint_view ks) ≡ c.rounds-rounds.result = ap length (l.invariant.3.0 ∙ sym c.checkpoints.ensures.value) ∙ size checkpoint_view c.checkpoints.result.now ∙ c.checkpoints.ensures.count ∙ sym c.rounds-rounds.ensures in
    (refl, refl, refl, none_compared (map checkpoint_view ks) l.comparing.every l.comparing.verdict u c.next_rounds-more.result (omega (arith, i.rounds, l.invariant.1, c.next_rounds-more.ensures.most, l.invariant.2.0, checkpoints)))

pub loop-done-preserved : goal.loop-done-preserved
loop-done-preserved g c =
    let ks : List Checkpoint = c.args.recording.now.checkpoints in
    let every : ℕ = c.args.recording.now.every in
    let l = c.loop-done in
    let m : Running = c.args.machine.now in
    let n : ℕ = l.done in
    let more : ℕ = c.next_rounds-more.result in
    let some = c.next_rounds-more.ensures in
    let walked = c.in_ok-walk.ensures in
    let known = walked.known.2 in
    let ends : c.walk.new.visitor.ends ≡ false = known.2 ∙ l.invariant.3.2 in
    let all : c.in_ok-walk.field-0 ≡ more = elim walked.ended [ inl e ↦ e | inr x ↦ absurd (true≢false (sym x.2.0 ∙ ends)) ] in
    let there : c.walk.new.self ≡ after_rounds (n + more) m = walked.done ∙ ap (λ (k : ℕ). after_rounds k l.machine) all ∙ ap (after_rounds more) l.invariant.0 ∙ more_rounds n more m in
    let stays = c.keep_if_due.ensures.stays in (
      stays ∙ there,
      ap (λ (r : Running). r.state.rounds) (stays ∙ there) ∙ rounds_after (n + more) m ∙ omega (arith, c.requires.opened),
      (omega (arith, some.most, c.loop-done-test.true), λ lt. more_multiple c.args.every n more some.some (some.multiple (omega (arith, lt))) (l.invariant.2.1 c.loop-done-test.true)),
      (ap (map checkpoint_view) known.0 ∙ l.invariant.3.0, known.1 ∙ l.invariant.3.1, ends),
      compared_more ks (map checkpoint_view l.comparing.checkpoints.now) every l.comparing.every l.comparing.verdict c.walk.new.visitor.verdict walked.known.0 c.in_ok-walk.field-0 more n m l.machine
          l.invariant.3.0 l.invariant.3.1 all l.invariant.0 l.invariant.1 walked.known.1 known.3 l.invariant.4,
      rw c.in_ok-keep_if_due.ensures.ok (checkpoints_next c.args.every n more m c.walk.new.self l.machines.items (l.invariant.2.1 c.loop-done-test.true) some.some some.few there l.invariant.5),
    )

pub returns-clause-verdict : goal.returns-clause-verdict
returns-clause-verdict g c =
    let whole : c.loop-done.done ≡ length c.args.recording.now.checkpoints = omega (arith, c.loop-done-test.false, c.loop-done.invariant.2.0, c.rounds-rounds.ensures, size checkpoint_view c.checkpoints.result.now, ap length c.checkpoints.ensures.value, c.checkpoints.ensures.count) in
    up_to_all c.args.recording.now.checkpoints c.args.recording.now.every c.args.machine.now c.loop-done.done c.loop-done.comparing.verdict whole c.loop-done.invariant.4

pub returns-clause-machines : goal.returns-clause-machines
returns-clause-machines g c =
    let all : c.loop-done.done ≡ c.args.recording.now.rounds = omega (arith, c.loop-done-test.false, c.loop-done.invariant.2.0, c.rounds-rounds.ensures) in
    subst (λ (k : ℕ). AreCheckpoints c.args.every k c.args.machine.now c.loop-done.machines.items) all c.loop-done.invariant.5
