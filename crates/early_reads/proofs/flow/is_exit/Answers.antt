use Rattle.std.proofs.Common.{ap, sym, ◌∙◌}
use Rattle.all_endings.specs.Locality.{view}
use Rattle.early_reads.proofs.Exits.{no_exit_move}
use Rattle.early_reads.proofs.flow.is_exit.Goals as goal

pub returns-in-Ecall : goal.returns-in-Ecall
returns-in-Ecall c = λ held pc. no_exit_move c.args.constants.now pc c.args.i.now c.in-Ecall.is (ap (view c.args.constants.now) (sym c.new.ensures) ∙ sym c.known.ensures ∙ c.is_zero.ensures held)
