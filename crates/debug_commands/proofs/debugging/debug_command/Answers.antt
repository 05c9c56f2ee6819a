use Rattle.std.proofs.Common.{refl, subst, ℕ}
use Rattle.program_files.proofs.Told.{on_value}
use Rattle.debug_commands.specs.Debugged.{Dialogue, IsRefusedEach, Is_refused, Looks}
use Rattle.debug_commands.proofs.debugging.debug_command.Goals as goal

pub returns-in-Ok : goal.returns-in-Ok
returns-in-Ok g c = record {
  serves = on_value c.serve_debuggee-served.result _ _ (λ status h. Looks c.in-Ok.debuggee c.in-Ok.ensures.opens h) c.serve_debuggee-served.ensures.serves;
}

pub returns-in_ok-refuse_each-in-Err : goal.returns-in_ok-refuse_each-in-Err
returns-in_ok-refuse_each-in-Err g c =
    let w : Dialogue = record {
      gave = g.S.Source.gave c.args.requests.now;
      gave_then = g.S.Source.gave c.refuse_each.new.src;
      took = g.K.Sink.took c.args.replies.now;
      took_then = g.K.Sink.took c.refuse_each.new.out;
      told = g.E.Sink.took c.args.errors.now;
      told_then = g.E.Sink.took c.tell.new.errors;
    } in
    record {
      serves = Is_refused c.in-Err.failure c.in-Err.ensures.errors (record {
        is_status = refl;
        told = c.tell.ensures;
        answered = subst (λ (number : ℕ). IsRefusedEach number w) c.number.ensures c.in_ok-refuse_each-in-Err.ensures.refuses;
      });
    }
