use Rattle.dethart.proofs.debugging.serve_debugger.Goals as goal

pub returns : goal.returns
returns g c = (_, c.in_ok-debug_command.ensures.serves)
