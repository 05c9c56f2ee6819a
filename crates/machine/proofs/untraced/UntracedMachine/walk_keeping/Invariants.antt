use Rattle.machine.specs.RoundStarts.{start_at}
use Rattle.machine.proofs.untraced.UntracedMachine.walk_keeping.Given as goal

abbrev pub ghosts-walk_on_board : goal.ghosts-walk_on_board
ghosts-walk_on_board g a = record { starts = start_at g.E.EventKeeper.logs a.self.now }
