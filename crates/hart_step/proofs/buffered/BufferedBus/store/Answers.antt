use Rattle.std.proofs.Common.{◌≡◌, sym, subst, refl, Some, None, false, true}
use Rattle.pages.proofs.Accesses.{store_accepted}
use Rattle.hart_step.specs.Buffered.{Clear, HasLine}
use Rattle.hart_step.proofs.Overlays.{clear_with_store, fault_seen, put_seen, line_seen}
use Rattle.hart_step.proofs.buffered.BufferedBus.store.Goals as goal

pub put-requires : goal.put-requires
put-requires c = (store_accepted c.self.inside.pages.now.memory c.args.s.address c.args.s.width c.in-Ok.ensures).0

pub returns-in_err-put-in-Ok-clause-room : goal.returns-in_err-put-in-Ok-clause-room
returns-in_err-put-in-Ok-clause-room c = λ has.
    let m = c.self.inside.pages.now.memory in
    let es = c.self.inside.buffer in
    let line : HasLine (record { base = m; bytes = es }) c.args.s = line_seen m es c.args.self.now c.self.view_is c.args.s (has (fault_seen m es c.args.self.now c.self.view_is c.args.s.address c.args.s.width None c.in-Ok.ensures)) in
    let e : false ≡ true = c.in_err-put-in-Ok.ensures.room line.0 line.1 line.2 in
    absurd (cc e)

pub invariant_of-self-in-Ok : goal.invariant_of-self-in-Ok
invariant_of-self-in-Ok c =
    let m = c.self.inside.pages.now.memory in
    subst (λ es. Clear m.code es) (sym c.in_ok-put-in-Ok.ensures.ok) (clear_with_store m c.self.inside.buffer c.args.s c.in-Ok.ensures c.self.invariant)

pub returns-in-Err-clause-ok : goal.returns-in-Err-clause-ok
returns-in-Err-clause-ok c = (fault_seen c.self.inside.pages.now.memory c.self.inside.buffer c.args.self.now c.self.view_is c.args.s.address c.args.s.width (Some c.in-Err.f) c.in-Err.ensures, refl)

pub returns-in_ok-put-in-Ok-clause-ok : goal.returns-in_ok-put-in-Ok-clause-ok
returns-in_ok-put-in-Ok-clause-ok c =
    let m = c.self.inside.pages.now.memory in
    let es = c.self.inside.buffer in (
      fault_seen m es c.args.self.now c.self.view_is c.args.s.address c.args.s.width None c.in-Ok.ensures,
      put_seen m es c.args.self.now c.self.view_is c.args.s c.put.new.self c.bytes_rise.ensures c.in_ok-put-in-Ok.ensures.ok,
    )
