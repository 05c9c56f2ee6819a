use Rattle.std.proofs.Common.{◌≡◌, ℕ, Some, None, arith, length, refl, subst, sym}
use Rattle.std.proofs.lemmas.Option.{slice_get_read}
use Rattle.replayer.specs.Checkpoints.{Opened, checkpoint_machine}
use Rattle.replayer.proofs.CheckpointMachines.{found_first, found_later, found_none}
use Rattle.replayer.proofs.checkpoints.Replay.kept.Goals as goal

pub returns-then-number-eq0 : goal.returns-then-number-eq0
returns-then-number-eq0 c =
    let o : Opened = record { rounds = c.self.inside.rounds; start = c.self.inside.start; every = c.self.inside.every; verdict = c.self.inside.verdict } in
    subst (λ (x : Opened). checkpoint_machine x c.args.number ≡ Some o.start) c.self.view_is
    (subst (λ (n : ℕ). checkpoint_machine o n ≡ Some o.start) (sym c.if-number-eq0.true) (found_first o c.self.inside.later.items c.self.invariant.1))

pub returns-then-number-len : goal.returns-then-number-len
returns-then-number-len c =
    let o : Opened = record { rounds = c.self.inside.rounds; start = c.self.inside.start; every = c.self.inside.every; verdict = c.self.inside.verdict } in
    subst (λ (x : Opened). checkpoint_machine x c.args.number ≡ None) c.self.view_is
    (found_none o c.self.inside.later.items c.args.number c.self.invariant.1 (omega (arith, c.if-number-eq0.false)) (omega (arith, c.if-number-len.true, c.len.ensures)))

pub returns : goal.returns
returns c =
    let o : Opened = record { rounds = c.self.inside.rounds; start = c.self.inside.start; every = c.self.inside.every; verdict = c.self.inside.verdict } in
    subst (λ (x : Opened). checkpoint_machine x c.args.number ≡ Some c.index.result.now) c.self.view_is
    (found_later o c.self.inside.later.items c.args.number c.index.result.now c.self.invariant.1 (omega (arith, c.if-number-eq0.false))
    (slice_get_read c.self.inside.later.items (length c.self.inside.later.items) _ c.index.result.now refl (omega (arith, c.if-number-eq0.false, c.if-number-len.false, c.len.ensures)) c.index.ensures))
