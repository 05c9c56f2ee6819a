use Rattle.std.proofs.Common.{refl}
use Rattle.hunter.specs.Refusals.{hunt_number}
use Rattle.hunter.specs.declared.error.HuntError.TheVariants as hunting
use Rattle.host_io.specs.declared.error.RunError.TheVariants as refusals
use Rattle.program_files.proofs.Unprinted.{at_err, unprinted}
use Rattle.program_files.specs.Failures.{IsUnprinted}
use Rattle.hunt_commands.proofs.tabling.write_rows.Goals as goal

pub returns-in-Err-clause-unprinted : goal.returns-in-Err-clause-unprinted
returns-in-Err-clause-unprinted g c =
    at_err c.hunt.result c.in-Err.error (λ e. IsUnprinted (hunt_number e) (g.S.Sink.took c.args.out.now) (g.S.Sink.took c.hunt.new.out)) c.in-Err.is
    (unprinted hunt_number (hunting.Run refusals.OutOfMemory) (hunting.Run refusals.SinkFailed) c.hunt.result refl refl c.hunt.ensures.writes)
